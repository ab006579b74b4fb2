use Rattle.std.proofs.Common.{rules, arith, ◌∙◌, ◌<◌, length, ◌-◌}
use Rattle.std.proofs.Math.ListN.{length-set}
use Rattle.squawk_kinds.proofs.FirstPairs.{IsIndex-more}
use Rattle.squawk_kinds.proofs.kind_names.index_of.Goals as goal

pub loop-slot-preserved : goal.loop-slot-preserved
loop-slot-preserved c =
    let slot = c.loop-slot.slot - 1 in
    let within : slot < length c.args.pairs.now = search rules in
    let inside : c.from-in-loop-slot-2.result < length c.loop-slot.index.items = search rules in
    record {
      len = length-set c.loop-slot.index.items c.from-in-loop-slot-2.result slot ∙ c.loop-slot.invariant.len;
      indexed = IsIndex-more c.args.pairs.now c.loop-slot.index.items slot c.loop-slot.slot c.from-in-loop-slot-2.result c.index-pairs-slot.result
          (omega arith) within (c.from-in-loop-slot-2.ensures ∙ c.from-in-loop-slot.ensures) inside c.loop-slot.invariant.indexed;
    }
