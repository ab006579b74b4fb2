use Rattle.std.proofs.Common.{◌≡◌, ℕ, ◌≤◌, ◌==◌, take, length}
use Rattle.std.specs.List.{list_any}
use Rattle.squawk_kinds.specs.Kinds.{WHITESPACE}
use Rattle.squawk_kinds.proofs.TokenSetLemmas.{bit_of}
use Rattle.squawk_kinds.proofs.token_set.TokenSet.new.Given as goal

abbrev pub invariant-loop-kind : goal.invariant-loop-kind
invariant-loop-kind l = record {
  size : length l.set-inside.0 ≡ 10;
  kinds : (k : ℕ) → k ≤ WHITESPACE → (bit_of l.set-inside.0 k == 1) ≡ list_any (λ one. one == k) (take l.kind-index l.kinds);
}
