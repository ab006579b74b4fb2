use Rattle.std.proofs.Common.{◌≡◌, ◌∙◌, ◌+◌, ◌-◌, [], ◌++◌, ap, arith, drop, sym, take}
use Rattle.std.proofs.lemmas.Bool.{ne_eqb}
use Rattle.std.proofs.lemmas.List.{take_rest}
use Rattle.sql_report.specs.Places.{is_feed, last_line}
use Rattle.sql_report.proofs.LastLines.{last_line-back, last_line-found}
use Rattle.sql_report.proofs.place.last_line.Goals as goal
use Rattle.sql_report.proofs.place.last_line.Goals.{then-loop-start-test+else-text-start-ne10, else-loop-start-test}

pub loop-start-preserved : goal.loop-start-preserved
loop-start-preserved c =
    let text = c.args.text.now in
    let start = c.loop-start.start in
    let one : start ≡ (start - 1) + 1 = omega arith in
    record {
      within = omega arith;
      line = c.loop-start.invariant.line
          ∙ (ap (λ n. last_line (take n text) ++ drop n text) one ∙ last_line-back text (start - 1) (omega arith) (ne_eqb _ 10 c.if-text-start-ne10.true));
    }

pub returns : goal.returns
returns c =
    let text = c.args.text.now in
    let start = c.loop-start.start in
    let within = c.loop-start.invariant.within in
    let none : last_line (take start text) ≡ [] =
    elim c.loop-start-test.branch [
      | then-loop-start-test+else-text-start-ne10 w ↦
          let some = w.loop-start-test.true in
          let one : start ≡ (start - 1) + 1 = omega arith in
          ap (λ n. last_line (take n text)) one ∙ last_line-found text (start - 1) (omega arith) (ap is_feed w.if-text-start-ne10.false)
      | else-loop-start-test w ↦ let zero : start ≡ 0 = omega (arith, w.loop-start-test.false) in ap (λ n. last_line (take n text)) zero
    ] in
    take_rest text start ∙ sym (c.loop-start.invariant.line ∙ ap (λ l. l ++ drop start text) none)
