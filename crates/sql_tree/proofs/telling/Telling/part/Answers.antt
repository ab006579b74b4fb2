use Rattle.std.proofs.Common.{◌≡◌, ◌∙◌, ◌++◌, ap, arith, length, length-append, map, subst, sym}
use Rattle.std.specs.Prelude.{string_bytes}
use Rattle.std.specs.Io.KnownBytes.{Appends}
use Rattle.std.proofs.lemmas.List.{append-nil}
use Rattle.squawk_tokens.specs.LexicalErrors.{shifted}
use Rattle.sql_grammar.specs.Parts.{moved_by}
use Rattle.sql_report.specs.ErrorLines.{HasShown}
use Rattle.sql_report.specs.Places.{AreCountable, IsLineColumn, IsPartOfWindow}
use Rattle.sql_tree.specs.OnTheWay.{HasListed}
use Rattle.sql_tree.proofs.telling.Telling.part.Goals as goal

pub returns-clause-is : goal.returns-clause-is
returns-clause-is g c = λ sql listing name is.
    let told = c.in_ok-listed.ensures.is sql listing name (record {
      sql_is = is.sql_is;
      listing_is = is.listing_is;
      name_is = ap (λ name. name.now) c.part.ensures.name ∙ is.name_is;
      names = is.names;
      listed = is.listed;
      kind_names = is.kind_names;
      asked = is.asked;
    }) in
    record {
      sql_is = told.sql_is;
      listing_is = told.listing_is;
      name_is = told.name_is;
      names = told.names;
      listed = told.listed;
      kind_names = told.kind_names;
      asked = told.asked;
    }

pub returns-clause-tells : goal.returns-clause-tells
returns-clause-tells g c =
    let more = string_bytes c.in_ok-listed.listed in
    let errors = c.listed.new.self.errors in
    let more_errs = errors.lines.items in (
      more,
      more_errs,
      (
        subst (λ p. Appends (g.W.Write.contents c.args.printer.now.out) (g.W.Write.contents p) more) (sym c.print_errors.ensures.out)
            (subst (Appends (g.W.Write.contents c.args.printer.now.out) (g.W.Write.contents c.print.new.self.out)) c.as_bytes.ensures.value c.in_ok-print.ensures.ok),
        (
          subst (λ p. Appends (g.E.Write.contents p) (g.E.Write.contents c.print_errors.new.self.errors) more_errs) c.print.ensures.errors
              (subst (Appends (g.E.Write.contents c.print.new.self.errors) (g.E.Write.contents c.print_errors.new.self.errors)) c.deref.ensures.value c.in_ok-print_errors.ensures.ok),
          λ sql listing name script passed rest out errs lexical done inner kind is part short sent stand before.
              let start = c.args.start in
              let to : c.min.result ≡ start = omega (
                arith,
                c.min.ensures,
                part.begins,
                part.within,
                short,
                ap length part.window_of.script_is,
                length-append passed (c.args.place.now.window ++ rest),
                length-append c.args.place.now.window rest,
              ) in
              let shown : HasShown script errs (lexical ++ map (shifted start) c.args.part.now.table.errors) (done ++ map (moved_by start) inner) errors =
              subst (HasShown script errs (lexical ++ map (shifted start) c.args.part.now.table.errors) (done ++ map (moved_by start) inner)) (sym c.listed.ensures.errors)
              (c.in_ok-part.ensures.shows script passed rest errs start lexical done inner kind part sent stand before.shown) in
              let same = c.part.ensures.window in
              let there : IsPartOfWindow script passed rest c.part.new.place c.min.result c.args.in_window (length c.args.part.now.table.text) = record {
                window_of = record {
                  script_is = part.window_of.script_is ∙ ap (λ w. passed ++ (w ++ rest)) (sym same.window);
                  before_is = subst (IsLineColumn passed) (sym same.before) part.window_of.before_is;
                  countable = subst (λ w. AreCountable (passed ++ w)) (sym same.window) part.window_of.countable;
                };
                begins = to ∙ part.begins;
                within = rw same.window part.within;
                enough_before = part.enough_before;
                line_ends = rw same.window part.line_ends;
              } in
              let list = c.in_ok-listed.ensures.lists sql listing name script passed rest out done inner kind (record {
                sql_is = is.sql_is;
                listing_is = is.listing_is;
                name_is = ap (λ name. name.now) c.part.ensures.name ∙ is.name_is;
                names = is.names;
                listed = is.listed;
                kind_names = is.kind_names;
                asked = is.asked;
              }) there sent (stand.bytes ∙ sym to)
              (record { drawn = before.listed.drawn; walked = before.listed.walked; ended = before.listed.ended; counted = before.listed.counted; out_is = before.listed.out_is }) in
              let moved : HasListed script (out ++ more) (done ++ map (moved_by start) inner) c.listed.new.self =
              subst (λ n. HasListed script (out ++ more) (done ++ map (moved_by n) inner) c.listed.new.self) to list in
              record {
                shown = record {
                  findings = shown.findings;
                  in_order = shown.in_order;
                  lines = ap (λ l. (errs ++ more_errs) ++ l) c.clear.ensures.items ∙ (append-nil (errs ++ more_errs) ∙ shown.lines);
                  count = shown.count;
                };
                none = c.clear.ensures.items;
                listed = record { drawn = moved.drawn; walked = moved.walked; ended = moved.ended; counted = moved.counted; out_is = moved.out_is };
              },
        ),
      ),
    )
