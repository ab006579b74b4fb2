use Rattle.std.proofs.Common.{◌≡◌, ℕ, ◌<◌, false}
use Rattle.squawk_kinds.specs.TokenSets.{has}
use Rattle.rule_tables.proofs.sets.first_of.Given as goal

abbrev pub invariant-loop-number : goal.invariant-loop-number
invariant-loop-number l = (kind : ℕ) → kind < l.number → has l.set kind ≡ false
