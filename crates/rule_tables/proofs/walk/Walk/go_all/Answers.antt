use Rattle.std.proofs.Common.{◌≡◌, ◌<◌, ◌≤◌, Some, length, slice_get, refl, arith}
use Rattle.std.proofs.lemmas.Option.{slice_get_read}
use Rattle.rule_tables.specs.Walks.{plan_of}
use Rattle.rule_tables.proofs.Closing.{closing_done, closing_first, closing_next, few_reached}
use Rattle.rule_tables.proofs.walk.Walk.go_all.Goals as goal

pub loop-done-init : goal.loop-done-init
loop-done-init c = closing_first (plan_of c.args.map.now) c.args.self.now c.requires.walks c.requires.len

pub loop-done-preserved : goal.loop-done-preserved
loop-done-preserved c =
    let lt : c.loop-done.done < length c.loop-done.self.reached.items = omega (arith, c.loop-done-test.true, c.len.ensures) in
    let here : slice_get c.loop-done.self.reached.items c.loop-done.done ≡ Some c.index-place.result.now = slice_get_read c.loop-done.self.reached.items _ c.loop-done.done c.index-place.result.now refl lt c.index-place.ensures in
    closing_next (plan_of c.args.map.now) c.args.self.now.reached.items c.loop-done.self c.go_on.new.self c.loop-done.done c.loop-done.invariant c.index-place.result.now here c.in_ok-go_on.ensures

pub loop-done-smaller : goal.loop-done-smaller
loop-done-smaller c =
    let few : length c.loop-done.self.reached.items ≤ length c.loop-done.self.marks.items = few_reached c.loop-done.self c.loop-done.invariant.walks in
    omega (arith, c.loop-done-test.true, c.len.ensures, c.loop-done.invariant.len)

pub returns : goal.returns
returns c = closing_done (plan_of c.args.map.now) c.args.self.now.reached.items c.loop-done.self c.loop-done.self c.loop-done.done c.loop-done.invariant (omega (arith, c.loop-done-test.false, c.len.ensures))
