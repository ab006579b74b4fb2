use Rattle.std.proofs.Common.{rules, ◌≡◌, ◌∙◌, ◌==◌, refl, ap, length, subst}
use Rattle.std.specs.Io.KnownBytes.{Appends}
use Rattle.std.specs.Vec.{vec_len}
use Rattle.sql_syntax.specs.Printed.{IsReported, Printed}
use Rattle.sql_syntax.specs.declared.error.SqlError.TheVariants.{Io}
use Rattle.sql_syntax.proofs.PrintedFiles.{refused, unwritten}
use Rattle.sql_syntax.proofs.files.print_file.Goals as goal

pub returns-in_err-lines-clause-refused : goal.returns-in_err-lines-clause-refused
returns-in_err-lines-clause-refused g c =
    refused _ _ _ c.args.name.now (g.W.Write.contents c.args.out.now) c.in_ok-text.text c.in_ok-text.ensures c.in_err-lines.field-0.0
    (subst (λ text. g.R.Reporter.refuses c.args.reporter.now text c.in_err-lines.field-0.0) c.as_str.ensures.value c.in_err-lines.ensures.refused)
    c.from_residual-in_err-lines.result (search rules)

pub returns-in_err-write_all-clause-refused : goal.returns-in_err-write_all-clause-refused
returns-in_err-write_all-clause-refused g c =
    let file : Printed = record { name = c.args.name.now; text = c.in_ok-text.text; lines = c.in_ok-lines.lines.items } in
    let reported : IsReported (g.T.Texts.gives c.args.texts.now) (g.R.Reporter.reports c.args.reporter.now) file = record {
      read = c.in_ok-text.ensures;
      reported = subst (λ text. g.R.Reporter.reports c.args.reporter.now c.args.name.now text c.in_ok-lines.lines.items) c.as_str.ensures.value c.in_ok-lines.ensures.lines;
    } in
    unwritten _ _ (g.R.Reporter.refuses c.args.reporter.now) (g.W.Write.contents c.args.out.now) (g.W.Write.contents c.write_all.new.self) file reported
    (Io c.in_err-write_all.field-0.0) c.in_err-write_all.field-0.0 refl c.from_residual-in_err-write_all.result (search rules)

pub returns-clause-printed : goal.returns-clause-printed
returns-clause-printed g c =
    let lines = c.in_ok-lines.lines in
    let long : vec_len lines ≡ length lines.items = search rules in
    record {
      file = record { name = c.args.name.now; text = c.in_ok-text.text; lines = lines.items };
      named = refl;
      reported = record {
        read = c.in_ok-text.ensures;
        reported = subst (λ text. g.R.Reporter.reports c.args.reporter.now c.args.name.now text lines.items) c.as_str.ensures.value c.in_ok-lines.ensures.lines;
      };
      printed = subst (Appends (g.W.Write.contents c.args.out.now) (g.W.Write.contents c.write_all.new.self)) c.deref.ensures.value c.in_ok-write_all.ensures.bytes;
      is_clean = c.is_empty.ensures ∙ ap (λ n. n == 0) long;
    }
