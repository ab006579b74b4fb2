-- A list's kinds are token kinds, by a test that computes.
use Rattle.std.proofs.Common.{◌≡◌, ℕ, ◌≤◌, ◌&&◌, Bool, true, false, List, [], ◌∷◌, All, nat_le, arith, refl}
use Rattle.std.proofs.lemmas.List.Elements.{All-nil, All-cons}
use Rattle.squawk_kinds.specs.Kinds.{IsTokenKind, WHITESPACE}

-- whether they are
abbrev pub are_token_kinds : List ℕ → Bool
are_token_kinds [] = true
are_token_kinds (kind ∷ kinds) = nat_le kind WHITESPACE && are_token_kinds kinds

both : (x y : Bool) → (x && y) ≡ true → (x ≡ true) × (y ≡ true)
both true true e = (refl, refl)
both true false e = absurd (cc)
both false y e = absurd (cc)

-- For a list of constants the test is refl.
pub all_token_kinds : (kinds : List ℕ) → are_token_kinds kinds ≡ true → All IsTokenKind kinds
all_token_kinds [] e = All-nil IsTokenKind
all_token_kinds (kind ∷ kinds) e =
    let parts = both (nat_le kind WHITESPACE) (are_token_kinds kinds) e in
    let within : kind ≤ WHITESPACE = grind (arith, parts.0) in
    All-cons IsTokenKind kind kinds within (all_token_kinds kinds parts.1)
