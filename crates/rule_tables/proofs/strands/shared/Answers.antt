use Rattle.std.proofs.Common.{◌≡◌, false}
use Rattle.squawk_kinds.specs.TokenSets.{has, no_kinds}
use Rattle.squawk_kinds.proofs.TokenSetLemmas.{has-no_kinds}
use Rattle.rule_tables.proofs.strands.shared.Goals as goal

pub returns-then-is_settled-clause-some : goal.returns-then-is_settled-clause-some
returns-then-is_settled-clause-some c kind holds = let none : has no_kinds kind ≡ false = has-no_kinds kind in absurd cc

pub returns-then-is_settled-clause-none : goal.returns-then-is_settled-clause-none
returns-then-is_settled-clause-none c settled kind = has-no_kinds kind
