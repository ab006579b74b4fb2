use Rattle.std.proofs.Common.{subst, ◌+◌, sym, ◌∙◌}
use Rattle.squawk_parser.proofs.EatenParts.{IsEaten, eaten-form, eaten-next}
use Rattle.squawk_parser.proofs.parser.Parser.eat_elements.Goals as goal
use Rattle.squawk_parser.proofs.parser.Parser.eat_elements.Goals.{then-eq, else-eq}

pub loop-part-preserved : goal.loop-part-preserved
loop-part-preserved c =
    let parts = c.as_slice-part-items.result.now in
    let l = c.loop-part in
    let old = c.args.self.now in
    let here = c.loop-part-test.true in
    let is = c.part-item.is in
    elim c.if-eq.branch [
      | then-eq w ↦
          let form = w.eat_normal_form.ensures in
          subst (IsEaten parts (l.part-index + 1) old) (sym w.self-is)
          (eaten-form parts l.part-index c.part-item.result old l.self here is l.invariant w.eat_normal_form.new.self (sym c.eq.ensures ∙ w.if-eq.true) form)
      | else-eq w ↦
          let bump = w.do_bump.ensures in
          subst (IsEaten parts (l.part-index + 1) old) (sym w.self-is)
          (eaten-next parts l.part-index c.part-item.result old l.self here is l.invariant w.do_bump.new.self (sym c.eq.ensures ∙ w.if-eq.false) bump.keeps bump.position bump.records)
    ]
