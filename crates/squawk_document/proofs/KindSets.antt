-- Sets of token kinds that are read.
use Rattle.std.proofs.Common.{◌≡◌, ℕ, ◌*◌, ◌/◌, ◌%◌, ◌^◌, ◌<◌, ◌≤◌, ◌==◌, ◌||◌, ◌∙◌, All, List, [], ◌∷◌, Option, Some, None, Ok, Err, Bool, true, false, length, refl, ap, sym, subst, arith, length-set}
use Rattle.std.specs.Prelude.{Result, fold, nat_lt, if◌then◌else◌}
use Rattle.std.specs.Option.{ok_or}
use Rattle.std.specs.List.{list_any}
use Rattle.std.proofs.Math.Bool.{or-false}
use Rattle.std.proofs.Math.Pow.{pow-lt}
use Rattle.std.proofs.lemmas.Bool.{ltb-false, ne_eqb}
use Rattle.std.proofs.lemmas.List.Elements.{All-cons, All-nil, All-tail}
use Rattle.std.proofs.lemmas.List.Folds.{list_any_none}
use Rattle.std.proofs.Math.Bool.{or_assoc}
use Rattle.serde_json.specs.Data.{Data}
use Rattle.squawk_kinds.specs.Kinds.{EOF, IsTokenKind, WHITESPACE}
use Rattle.squawk_kinds.specs.TokenSets.{has, no_kinds}
use Rattle.squawk_kinds.proofs.TokenSetLemmas.{bit_of, bit_of-no_kinds, has-all, with_bit, with_bit-is}
use Rattle.squawk_kinds.specs.declared.token_set.TokenSet.{TokenSet}
use Rattle.squawk_document.specs.declared.document_error.DocumentError.{DocumentError}
use Rattle.squawk_document.specs.declared.document_error.DocumentError.TheVariants.{Shape}
use Rattle.squawk_document.specs.KindSets.{HasExactly, set_of, with_kind}
use Rattle.squawk_document.specs.Values.{◌>>=◌, each, number_in}

-- a bit of a word, as code shifts it there
shifted : (k : ℕ) → k < 64 → 1 * 2 ^ k % 18446744073709551616 ≡ 2 ^ k
shifted k lt = let fits : 2 ^ k < 2 ^ 64 = pow-lt lt in omega arith

with_kind-is : (words : List ℕ) (n : ℕ) → with_kind words n ≡ with_bit words n
with_kind-is words n = let lt : n % 64 < 64 = omega arith in rw (shifted (n % 64) lt) refl

-- kinds that are added one after another join those that are there
fold-bits : (kinds words : List ℕ) → length words ≡ 10 → All IsTokenKind kinds → (k : ℕ) → (bit_of (fold with_kind words kinds) k == 1) ≡ ((bit_of words k == 1) || list_any (λ one. one == k) kinds)
fold-bits [] words ten tokens k = sym (or-false (bit_of words k == 1))
fold-bits (n ∷ kinds) words ten tokens k =
    let small : n ≤ WHITESPACE = tokens 0 0 (omega arith) in
    let within : n / 64 < length words = omega arith in
    let longer : length (with_kind words n) ≡ 10 = length-set _ _ _ ∙ ten in
    fold-bits kinds (with_kind words n) longer (All-tail IsTokenKind n kinds tokens) k
    ∙ ap (λ bit. bit || list_any (λ one. one == k) kinds) (ap (λ ws. bit_of ws k == 1) (with_kind-is words n) ∙ with_bit-is words n k within)
    ∙ or_assoc (bit_of words k == 1) (n == k) (list_any (λ one. one == k) kinds)

-- the set of token kinds has these, and no others
pub has-set_of : (kinds : List ℕ) → All IsTokenKind kinds → (k : ℕ) → has (set_of kinds) k ≡ list_any (λ one. one == k) kinds
has-set_of kinds tokens =
    has-all (set_of kinds) kinds tokens (λ k le. fold-bits kinds no_kinds refl tokens k ∙ ap (λ bit. (bit == 1) || list_any (λ one. one == k) kinds) (bit_of-no_kinds k le))

-- ---- kinds that are read

abbrev IsWithin : ℕ → ℕ → ℕ → Type 0
IsWithin low high n = (low ≤ n) × (n ≤ high)

-- a number that is read is in its range
within : (low high : ℕ) (found : Option ℕ) (n : ℕ)
    → (ok_or found Shape >>= λ m. if nat_lt m low then Err Shape else if nat_lt high m then Err Shape else Ok m) ≡ Ok n → IsWithin low high n
within low high None n reads = absurd (let p = reads in cc)
within low high (Some m) n reads = by_low (nat_lt m low) refl
  where
    by_high : (b : Bool) → nat_lt high m ≡ b → nat_lt m low ≡ false → IsWithin low high n
    by_high true above below = absurd (let p = rw (below, above) at reads in cc)
    by_high false above below =
        let is : m ≡ n = let p = rw (below, above) at reads in cc in
        subst (IsWithin low high) is (ltb-false m low below, ltb-false high m above)

    by_low : (b : Bool) → nat_lt m low ≡ b → IsWithin low high n
    by_low true below = absurd (let p = rw below at reads in cc)
    by_low false below = by_high (nat_lt high m) refl below

-- and so are all that are read of a list
all-within : (low high : ℕ) (ds : List Data) (kinds : List ℕ) → each (number_in low high) ds ≡ Ok kinds → All (IsWithin low high) kinds
all-within low high [] kinds reads = subst (All (IsWithin low high)) (let p : [] ≡ kinds = cc in p) (All-nil (IsWithin low high))
all-within low high (d ∷ ds) kinds reads = by_first (number_in low high d) refl (all-within low high ds)
  where
    Smaller : Type 0
    Smaller = (ns : List ℕ) → each (number_in low high) ds ≡ Ok ns → All (IsWithin low high) ns

    by_rest : (n : ℕ) → number_in low high d ≡ Ok n → (rest : Result (List ℕ) DocumentError) → each (number_in low high) ds ≡ rest → Smaller → All (IsWithin low high) kinds
    by_rest n first (Ok ns) more smaller =
        let is : n ∷ ns ≡ kinds = let p = rw (first, more) at reads in cc in
        subst (All (IsWithin low high)) is (All-cons (IsWithin low high) n ns (within low high _ n first) (smaller ns more))
    by_rest n first (Err e) more smaller = absurd (let p = rw (first, more) at reads in cc)

    by_first : (first : Result ℕ DocumentError) → number_in low high d ≡ first → Smaller → All (IsWithin low high) kinds
    by_first (Ok n) first smaller = by_rest n first (each (number_in low high) ds) refl smaller
    by_first (Err e) first smaller = absurd (let p = rw first at reads in cc)

-- the set of the kinds that are read has exactly these
pub has-read : (low : ℕ) (ds : List Data) (set : TokenSet) → Ok set ≡ (each (number_in low WHITESPACE) ds >>= λ kinds. Ok (set_of kinds)) → HasExactly set (each (number_in low WHITESPACE) ds)
has-read low ds set reads = by_kinds (each (number_in low WHITESPACE) ds) refl
  where
    by_kinds : (read : Result (List ℕ) DocumentError) → each (number_in low WHITESPACE) ds ≡ read → HasExactly set read
    by_kinds (Ok kinds) are = λ kind.
        let is : set ≡ set_of kinds = let p = rw are at reads in cc in
        let all = all-within low WHITESPACE ds kinds are in
        ap (λ words. has words kind) is ∙ has-set_of kinds (λ d i lt. (all d i lt).1) kind
    by_kinds (Err e) are = absurd (let p = rw are at reads in cc)

-- a set of kinds above 0 is without the end
pub no_end : (low : ℕ) (ds : List Data) (set : TokenSet) → 0 < low → Ok set ≡ (each (number_in low WHITESPACE) ds >>= λ kinds. Ok (set_of kinds)) → has set EOF ≡ false
no_end low ds set above reads = by_kinds (each (number_in low WHITESPACE) ds) refl (has-read low ds set reads)
  where
    by_kinds : (read : Result (List ℕ) DocumentError) → each (number_in low WHITESPACE) ds ≡ read → HasExactly set read → has set EOF ≡ false
    by_kinds (Ok kinds) are these =
        let all = all-within low WHITESPACE ds kinds are in
        these EOF ∙ list_any_none (λ one. one == EOF) kinds (λ d i lt. let p = (all d i lt).0 in ne_eqb _ 0 (λ e. absurd (omega (arith, p, e, above))))
    by_kinds (Err e) are none = absurd none
