-- The empty set, and what no set has.
use Rattle.std.proofs.Common.{◌≡◌, ℕ, true, false, inl, inr}
use Rattle.std.proofs.lemmas.Bool.{cases_lt}
use Rattle.squawk_kinds.specs.Kinds.{IsTokenKind, WHITESPACE}
use Rattle.squawk_kinds.specs.TokenSets.{has, no_kinds}
use Rattle.squawk_kinds.specs.declared.token_set.TokenSet.{TokenSet}
use Rattle.squawk_kinds.proofs.TokenSetLemmas.{has-no_kinds, has-other}

pub has_none : (kind : ℕ) → has no_kinds kind ≡ false
has_none kind = has-no_kinds kind

-- only tokens' kinds are in sets
pub token_in : (set : TokenSet) (kind : ℕ) → has set kind ≡ true → IsTokenKind kind
token_in set kind holds = elim (cases_lt WHITESPACE kind) [ inl past ↦ let none : has set kind ≡ false = has-other set kind past in absurd cc | inr token ↦ token ]
