use Rattle.std.proofs.Common.{◌≡◌, ◌∙◌, ◌++◌, ◌<◌, ◌≤◌, ℕ, List, [], ◌∷◌, ap, arith, length, length-append, subst, sym, true}
use Rattle.std.specs.Prelude.{Err, IfSome}
use Rattle.std.proofs.lemmas.Result.{err_from_is_err_and}
use Rattle.squawk_table.specs.declared.shortcuts.str_step.OwnedStep.{OwnedStep}
use Rattle.squawk_table.specs.declared.shortcuts.str_step.OwnedStep.TheVariants.{Exit}
use Rattle.squawk_tokens.specs.LexicalErrors.{LexicalError}
use Rattle.sql_lexer.specs.Lines.{EndsLine}
use Rattle.sql_grammar.specs.ReadParts.{HasRead, IsOver, IsRefusedPart, IsScriptParse, NoneLeft, Reading, ReadsPart, text_left}
use Rattle.sql_report.specs.Places.{Spot}
use Rattle.sql_tree.specs.OnTheWay.{IfUnread, AfterText}
use Rattle.sql_tree.specs.declared.sql.Sql.{Sql}
use Rattle.sql_tree.specs.declared.stop.Stop.{Stop}
use Rattle.sql_tree.specs.declared.stop.Stop.TheVariants as stop
use Rattle.sql_tree.specs.declared.unread.Unread.TheVariants.{OutOfMemory}
use Rattle.sql_tree.proofs.TextEnds.{text_lost, text_refused, text_told, text_unprinted, text_unread}
use Rattle.sql_tree.proofs.TextParts.{InText}
use Rattle.sql_tree.proofs.TextSteps.{text_begins, text_next}
use Rattle.sql_tree.proofs.telling.Telling.text.Goals as goal

pub returns-in_err-parts-clause-tells : goal.returns-in_err-parts-clause-tells
returns-in_err-parts-clause-tells g c = λ sql listing name read left out errs telling stands none before.
    let text = c.args.text.now in
    let error = err_from_is_err_and c.from_residual.result c.from_residual.ensures.1 in
    let p = g.W.Write.contents c.args.printer.now.out in
    let e = g.E.Write.contents c.args.printer.now.errors in
    subst (AfterText sql listing name read left text out errs p p e e c.args.self.now) (sym (error.1 ∙ ap Err error.2))
    (text_unread sql listing name read left out errs text c.args.before stands c.in_err-parts.field-0.0 c.in_err-parts.ensures.refused c.args.self.now p e telling)

pub loop-part-init : goal.loop-part-init
loop-part-init g c =
    let begins = c.in_ok-parts.ensures.begins in
    let last = c.is_end.ensures in
    record {
      window = ap (λ (p : Spot). p.window) c.new-place.ensures;
      before = ap (λ (p : Spot). p.before) c.new-place.ensures;
      lines = λ l some. (begins.lines (sym begins.is_last ∙ l)).end some;
      last = λ l. last.0 (sym begins.is_last ∙ l);
      end = λ e. begins.is_last ∙ last.1 e;
      told = λ sql listing name read left out errs telling stands none before.
          text_begins sql listing name read left out errs c.args.text.now c.args.before stands c.in_ok-parts.parts c.args.self.now c.is_end.result
          (g.W.Write.contents c.args.printer.now.out) (g.E.Write.contents c.args.printer.now.errors) begins (λ l. none (last.0 l)) telling before;
    }

pub returns-in_err-part-clause-tells : goal.returns-in_err-part-clause-tells
returns-in_err-part-clause-tells g c = λ sql listing name read left out errs telling stands none before.
    let text = c.args.text.now in
    let parts = c.loop-part.parts in
    let b = c.loop-part.invariant.told sql listing name read left out errs telling stands none before in
    let error = err_from_is_err_and c.from_residual-in_err-part.result c.from_residual-in_err-part.ensures.1 in
    let why = c.in_err-part.field-0.0 in
    let p = g.W.Write.contents c.args.printer.now.out in
    let p_now = g.W.Write.contents c.loop-part.printer.out in
    let e = g.E.Write.contents c.args.printer.now.errors in
    let e_now = g.E.Write.contents c.loop-part.printer.errors in
    subst (AfterText sql listing name read left text out errs p p_now e e_now c.loop-part.self) (sym (error.1 ∙ ap Err error.2))
    (text_refused sql listing name read left out errs text c.args.before stands parts c.loop-part.self p p_now e e_now b why
    (λ some. subst (λ (s : Sql). IsRefusedPart s.vocabulary parts.begun parts.lexer.text why) b.telling.sql_is (c.in_err-part.ensures.refused some)))

pub returns-in_err-part-2-clause-tells : goal.returns-in_err-part-2-clause-tells
returns-in_err-part-2-clause-tells g c sql listing name read left out errs telling stands none before =
    let text = c.args.text.now in
    let error = err_from_is_err_and c.from_residual-in_err-part-2.result c.from_residual-in_err-part-2.ensures.1 in
    let p = g.W.Write.contents c.args.printer.now.out in
    let p_then = g.W.Write.contents c.part.new.printer.out in
    let e = g.E.Write.contents c.args.printer.now.errors in
    let e_then = g.E.Write.contents c.part.new.printer.errors in
    subst (AfterText sql listing name read left text out errs p p_then e e_then c.part.new.self) (sym (error.1 ∙ ap Err error.2)) (fails c.in_err-part-2.field-0.0 c.in_err-part-2.ensures.unread)
  where
    fails : (why : Stop)
        → IfUnread why (λ reason. (reason ≡ OutOfMemory) × ((c.part.new.printer.out ≡ c.loop-part.printer.out) × (c.part.new.printer.errors ≡ c.loop-part.printer.errors)))
        → AfterText sql listing name read left c.args.text.now out errs (g.W.Write.contents c.args.printer.now.out) (g.W.Write.contents c.part.new.printer.out)
        (g.E.Write.contents c.args.printer.now.errors) (g.E.Write.contents c.part.new.printer.errors) c.part.new.self (Err why)
    fails (stop.Unread reason) lost =
        text_lost sql listing name read left out errs c.args.text.now c.args.before stands c.loop-part.parts c.loop-part.self
        (g.W.Write.contents c.args.printer.now.out) (g.W.Write.contents c.loop-part.printer.out) (g.E.Write.contents c.args.printer.now.errors) (g.E.Write.contents c.loop-part.printer.errors)
        (c.loop-part.invariant.told sql listing name read left out errs telling stands none before) c.part.new.self
        (g.W.Write.contents c.part.new.printer.out) (g.E.Write.contents c.part.new.printer.errors) reason lost.0 (ap g.W.Write.contents lost.1.0) (ap g.E.Write.contents lost.1.1)
    fails (stop.Output error) lost =
        text_unprinted sql listing name read left out errs c.args.text.now c.args.before stands error c.part.new.self
        (g.W.Write.contents c.args.printer.now.out) (g.W.Write.contents c.part.new.printer.out) (g.E.Write.contents c.args.printer.now.errors) (g.E.Write.contents c.part.new.printer.errors)

pub loop-part-preserved : goal.loop-part-preserved
loop-part-preserved g c =
    let inv = c.loop-part.invariant in
    let sql_now = c.loop-part.self.sql.now in
    let part = c.in-Some.part in
    let reads : ReadsPart sql_now.vocabulary sql_now.rules c.loop-part.parts c.next_part.new.self part =
    subst (λ found. IfSome found (λ part. ReadsPart sql_now.vocabulary sql_now.rules c.loop-part.parts c.next_part.new.self part)) c.in-Some.is c.in_ok-part.ensures.reads in
    let same = c.part.ensures.window in
    let tells = c.in_ok-part-2.ensures.tells in
    record {
      window = same.window ∙ inv.window;
      before = same.before ∙ inv.before;
      lines = λ l some. subst EndsLine (sym reads.same.0) (inv.lines (sym reads.same.1.1 ∙ l) (subst (λ t. 0 < length t) reads.same.0 some));
      last = λ l. inv.last (sym reads.same.1.1 ∙ l);
      end = λ e. reads.same.1.1 ∙ inv.end e;
      told = λ sql listing name read left out errs telling stands none before.
          let b = inv.told sql listing name read left out errs telling stands none before in
          let reads_sql = subst (λ (s : Sql). ReadsPart s.vocabulary s.rules c.loop-part.parts c.next_part.new.self part) b.telling.sql_is reads in
          text_next sql listing name read left out errs c.args.text.now c.args.before stands c.loop-part.parts c.next_part.new.self part c.loop-part.self c.part.new.self c.loop-part.place
          c.saturating_add-start.result c.saturating_add-in_window.result inv.window inv.before c.saturating_add-in_window.ensures c.saturating_add-start.ensures inv.lines reads_sql
          (g.W.Write.contents c.args.printer.now.out) (g.W.Write.contents c.loop-part.printer.out) (g.W.Write.contents c.part.new.printer.out)
          (g.E.Write.contents c.args.printer.now.errors) (g.E.Write.contents c.loop-part.printer.errors) (g.E.Write.contents c.part.new.printer.errors)
          tells.0 tells.1 tells.2.0 tells.2.1.0 (c.in_ok-part-2.ensures.is sql listing name) tells.2.1.1 b;
    }

pub returns-clause-tells : goal.returns-clause-tells
returns-clause-tells g c = λ sql listing name read left out errs telling stands none before.
    let inv = c.loop-part.invariant in
    let text = c.args.text.now in
    let parts : Reading = c.loop-part.parts in
    let now : Reading = c.next_part.new.self in
    let over : IsOver parts now = c.in_ok-part.ensures.over c.in_default.is in
    let b = inv.told sql listing name read left out errs telling stands none before in
    let p = g.W.Write.contents c.args.printer.now.out in
    let p_now = g.W.Write.contents c.loop-part.printer.out in
    let e = g.E.Write.contents c.args.printer.now.errors in
    let e_now = g.E.Write.contents c.loop-part.printer.errors in
    let there : InText sql listing name read left text out errs p p_now e e_now now c.loop-part.self =
    subst (λ (r : Reading). InText sql listing name read left text out errs p p_now e e_now r c.loop-part.self) (sym over.same) b in
    let last = ap (λ (r : Reading). r.is_last) over.same in
    let at : c.min-count.result ≡ now.lexer.at =
    omega (arith, c.min-count.ensures, c.position.ensures, there.at, ap length there.whole, length-append there.front (text_left now ++ there.tail)) in
    rw c.unwrap_or.ensures
    (text_told sql listing name read left out errs text c.args.before stands now c.loop-part.self p p_now e e_now there c.min-count.result c.place.result at c.place.ensures.is
    c.place.ensures.goes_on (λ l. inv.last (sym last ∙ l)) (λ end. last ∙ inv.end end) (subst (λ (r : Reading). NoneLeft r.is_last r.lexer) (sym over.same) over.none)
    (subst
    (λ (s : Sql). now.is_last ≡ true → length now.lexer.text ≤ now.lexer.at → (read : List ℕ) (errors : List LexicalError) (done : List OwnedStep) → HasRead s.vocabulary s.rules now [] read errors done
    → IsScriptParse s.vocabulary read errors (done ++ Exit ∷ [])) b.telling.sql_is c.in_ok-part.ensures.ends))
