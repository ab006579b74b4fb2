use Rattle.std.proofs.Common.{◌≡◌, ◌≤◌, nat_lt}
use Rattle.rule_tables.specs.Places.{end_at, last_below, outer_of}
use Rattle.rule_tables.proofs.Below.{rank}
use Rattle.rule_tables.proofs.map.outer_of.Given as goal

-- no row after this one, and before the one that is asked for, ends after that
abbrev pub invariant-loop-at : goal.invariant-loop-at
invariant-loop-at l = record {
  below : rank l.at ≤ l.index;
  last : outer_of l.rows l.index ≡ last_below (λ o. nat_lt l.index (end_at l.rows o)) (rank l.at);
}

abbrev pub decreases-loop-at : goal.decreases-loop-at
decreases-loop-at l = rank l.at
