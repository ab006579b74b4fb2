-- The list has the statuses of the markers after the calls so far, which are all good.
use Rattle.std.proofs.Common.{◌≡◌, vec_capacity, take}
use Rattle.squawk_script.specs.Accepted.{AreGoodBelow}
use Rattle.squawk_script.proofs.Statuses.{AreStatusesOf}
use Rattle.squawk_script.proofs.check.check.Given as goal

abbrev pub invariant-loop-index : goal.invariant-loop-index
invariant-loop-index l = record {
  statuses : AreStatusesOf (take l.index l.calls) l.statuses.items;
  capacity : vec_capacity l.statuses ≡ l.markers;
  good : AreGoodBelow l.calls l.index;
}
