-- Which kinds a set has whose words are a constant.
use Rattle.std.proofs.Common.{◌≡◌, ◌∙◌, ℕ, ◌/◌, ◌≤◌, ◌==◌, ◌||◌, true, List, [], ◌∷◌, All, length, ap, refl, arith, length-set}
use Rattle.std.specs.List.{list_any}
use Rattle.std.proofs.Math.Bool.{or_comm}
use Rattle.std.proofs.lemmas.List.Elements.{All-head, All-tail}
use Rattle.squawk_kinds.specs.Kinds.{IsTokenKind, WHITESPACE}
use Rattle.squawk_kinds.specs.TokenSets.{has, no_kinds}
use Rattle.squawk_kinds.proofs.TokenKinds.{are_token_kinds, all_token_kinds}
use Rattle.squawk_kinds.proofs.TokenSetLemmas.{bit_of, bit_of-no_kinds, has-all, with_bit, with_bit-is}

-- the words of the set of these kinds
abbrev pub words_of : List ℕ → List ℕ
words_of [] = no_kinds
words_of (kind ∷ kinds) = with_bit (words_of kinds) kind

are_ten : (kinds : List ℕ) → length (words_of kinds) ≡ 10
are_ten [] = refl
are_ten (kind ∷ kinds) = length-set (words_of kinds) (kind / 64) _ ∙ are_ten kinds

told : (kinds : List ℕ) → All IsTokenKind kinds → (k : ℕ) → k ≤ WHITESPACE → (bit_of (words_of kinds) k == 1) ≡ list_any (λ one. one == k) kinds
told [] tokens k le = rw (bit_of-no_kinds k le) refl
told (kind ∷ kinds) tokens k le =
    let small : kind ≤ WHITESPACE = All-head IsTokenKind kind kinds tokens in
    with_bit-is (words_of kinds) kind k (omega (arith, are_ten kinds))
    ∙ (ap (λ b. b || (kind == k)) (told kinds (All-tail IsTokenKind kind kinds tokens) k le) ∙ or_comm (list_any (λ one. one == k) kinds) (kind == k))

-- For a list of constants the test is refl, and the words of a constant set are these.
pub has-words_of : (kinds : List ℕ) → are_token_kinds kinds ≡ true → (k : ℕ) → has (words_of kinds) k ≡ list_any (λ one. one == k) kinds
has-words_of kinds tokens = let all = all_token_kinds kinds tokens in has-all (words_of kinds) kinds all (told kinds all)
