use Rattle.std.proofs.Common.{◌≡◌, Some, slice_get, refl, arith}
use Rattle.std.proofs.lemmas.Option.{slice_get_read}
use Rattle.rule_tables.proofs.Cuts.{cutting_done, cutting_more}
use Rattle.rule_tables.proofs.groups.cut.Goals as goal

pub loop-set-preserved : goal.loop-set-preserved
loop-set-preserved c =
    let here : slice_get c.args.sets.now c.loop-set.set-index ≡ Some c.set-item.result = slice_get_read c.args.sets.now _ c.loop-set.set-index _ refl c.loop-set-test.true c.set-item.is in
    cutting_more c.args.sets.now c.args.kinds c.loop-set.set-index c.loop-set.cut.items c.push_some.new.sets.items c.push_some-in-loop-set.new.sets.items c.set-item.result c.both.result c.without.result here
    c.both.ensures c.without.ensures c.in_ok-push_some.ensures c.in_ok-push_some-2.ensures c.loop-set.invariant

pub returns : goal.returns
returns c = cutting_done c.args.sets.now c.args.kinds c.loop-set.set-index c.loop-set.cut.items (omega (arith, c.loop-set-test.false)) c.loop-set.invariant
