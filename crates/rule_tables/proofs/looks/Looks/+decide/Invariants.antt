use Rattle.std.proofs.Common.{◌≡◌, ◌-◌, ◌*◌, ◌<◌, ℕ, Some, slice_get}
use Rattle.squawk_kinds.specs.declared.token_set.TokenSet.{TokenSet}
use Rattle.rule_tables.specs.Sets.{Extends}
use Rattle.rule_tables.specs.Strands.{AreDecidedAfter, IsToldBy, SeesOn}
use Rattle.rule_tables.specs.Walks.{plan_of}
use Rattle.rule_tables.proofs.looks.Looks.+decide.Given as goal

abbrev pub decreases-decide : goal.decreases-decide
decreases-decide l = 2 * (4 - l.trail.now.depth)

abbrev pub decreases-decide_group : goal.decreases-decide_group
decreases-decide_group l = 2 * (4 - l.trail.now.depth) - 1

abbrev pub invariant-decide-loop-group : goal.invariant-decide-loop-group
invariant-decide-loop-group l = record {
  keeps : Extends l.fn.self.sets.list.items l.self.sets.list.items;
  decided : (i : ℕ) → i < l.group-index → (group : TokenSet) → slice_get l.group-items i ≡ Some group → AreDecidedAfter (plan_of l.map) l.parts l.strands (3 - l.trail.depth) group l.undecided;
  told : IsToldBy (plan_of l.map) l.parts (SeesOn (plan_of l.map) l.strands) l.trail l.undecided;
}
