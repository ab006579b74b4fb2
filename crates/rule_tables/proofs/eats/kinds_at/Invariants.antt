use Rattle.std.proofs.Common.{◌≡◌, ℕ, take}
use Rattle.std.specs.List.{list_any}
use Rattle.squawk_kinds.specs.TokenSets.{has}
use Rattle.rule_tables.specs.Places.{eats}
use Rattle.rule_tables.specs.Walks.{plan_of}
use Rattle.rule_tables.proofs.eats.kinds_at.Given as goal

abbrev pub invariant-loop-place : goal.invariant-loop-place
invariant-loop-place l = (kind : ℕ) → has l.kinds kind ≡ list_any (λ p. eats (plan_of l.map) p kind) (take l.place-index l.places)
