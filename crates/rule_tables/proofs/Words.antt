-- The words of a set in a table: four of 16 bits for each of its own.
use Rattle.std.proofs.Common.{◌≡◌, ℕ, ◌+◌, ◌-◌, ◌*◌, ◌/◌, ◌%◌, ◌^◌, ◌<◌, ◌≤◌, ◌==◌, ◌∙◌, inl, inr, List, Option, Some, length, take, get_or, get_or-set_same, get_or-set_other, set, slice_get, slice_index, leb, leb-true, leb-false, arith, sym, subst, ap}
use Rattle.std.specs.Int.{bit_at}
use Rattle.std.proofs.lemmas.Bool.{cases_Bool, cases_eq}
use Rattle.std.proofs.lemmas.Nat.{shr-shr, field_of}
use Rattle.std.proofs.Math.Pow.{mod-mod-pow}
use Rattle.std.proofs.lemmas.Option.{slice_get-get_or, slice_get_past}
use Rattle.squawk_kinds.specs.Kinds.{WHITESPACE}
use Rattle.squawk_kinds.specs.TokenSets.{has}
use Rattle.squawk_kinds.specs.declared.token_set.TokenSet.{TokenSet}
use Rattle.squawk_kinds.proofs.TokenSetLemmas.{has-other, has-token}
use Rattle.rule_grammar.specs.Parts.{set_has, word_has, words_have}
use Rattle.std.proofs.Math.Seq.{take-length}
use Rattle.rule_parts.specs.declared.Part.{Part}
use Rattle.rule_tables.specs.Classes.{AreClasses, HasClasses, list_has}
use Rattle.rule_tables.specs.Definitions.{classes_in}
use Rattle.rule_tables.specs.Vocabulary.{Vocabulary}
use Rattle.rule_tables.specs.Sets.{HaveSets, word_of}
use Rattle.rule_tables.proofs.MoreClasses.{classes_same}

-- bit r of 16 bits of a number is one of the number's
bit_of_field : (n k r : ℕ) → r < 16 → n / 2 ^ k % 65536 / 2 ^ r % 2 ≡ n / 2 ^ (k + r) % 2
bit_of_field n k r lt =
    let width : 16 - r + r ≡ 16 = omega (arith, lt) in
    let more : 15 - r + 1 ≡ 16 - r = omega (arith, lt) in
    let field : n / 2 ^ k % 2 ^ (16 - r + r) / 2 ^ r ≡ n / 2 ^ k / 2 ^ r % 2 ^ (16 - r) = field_of (n / 2 ^ k) (16 - r) r in
    let cut : n / 2 ^ k % 65536 / 2 ^ r ≡ n / 2 ^ k / 2 ^ r % 2 ^ (15 - r + 1) =
    subst (λ (w : ℕ). n / 2 ^ k % 2 ^ w / 2 ^ r ≡ n / 2 ^ k / 2 ^ r % 2 ^ (15 - r + 1)) width (subst (λ (w : ℕ). n / 2 ^ k % 2 ^ (16 - r + r) / 2 ^ r ≡ n / 2 ^ k / 2 ^ r % 2 ^ w) (sym more) field) in
    ap (λ (w : ℕ). w % 2) cut ∙ mod-mod-pow (n / 2 ^ k / 2 ^ r) (15 - r) 1 ∙ ap (λ (w : ℕ). w % 2) (shr-shr n k r)

-- a word has a kind's bit if the set has
word_bit : (set : TokenSet) (kind : ℕ) → kind ≤ WHITESPACE → word_has (Some (word_of set (kind / 16))) (kind % 16) ≡ has set kind
word_bit set kind le =
    let place : kind / 16 / 4 ≡ kind / 64 = omega arith in
    let bit : 16 * (kind / 16 % 4) + kind % 16 ≡ kind % 64 = omega arith in
    ap (λ (b : ℕ). b == 1) (bit_of_field (slice_index set (kind / 16 / 4)) (16 * (kind / 16 % 4)) (kind % 16) (omega arith))
    ∙ subst (λ (q : ℕ). (slice_index set q / 2 ^ (16 * (kind / 16 % 4) + kind % 16) % 2 == 1) ≡ (bit_at (get_or set (kind / 64) 0) (kind % 64) == 1)) (sym place)
    (ap (λ (b : ℕ). bit_at (get_or set (kind / 64) 0) b == 1) bit)
    ∙ sym (has-token set kind le)

-- forty words have the kinds of a set
pub words_have_set : (set : TokenSet) (words : List ℕ) → length words ≡ 40 → ((n : ℕ) → n < 40 → get_or words n 0 ≡ word_of set n) → (kind : ℕ) → words_have (Some words) kind ≡ has set kind
words_have_set set words len each kind =
    elim (cases_Bool (leb kind WHITESPACE)) [
      | inl small ↦
          let le : kind ≤ WHITESPACE = leb-true kind WHITESPACE small in
          let word : slice_get words (kind / 16) ≡ Some (word_of set (kind / 16)) = slice_get-get_or words (kind / 16) 0 (omega (arith, le, len)) ∙ ap Some (each (kind / 16) (omega (arith, le))) in
          ap (λ (found : Option ℕ). word_has found (kind % 16)) word ∙ word_bit set kind le
      | inr large ↦
          let lt : WHITESPACE < kind = leb-false kind WHITESPACE large in
          ap (λ (found : Option ℕ). word_has found (kind % 16)) (slice_get_past words (kind / 16) (omega (arith, lt, len))) ∙ sym (has-other set kind lt)
    ]

-- one word more
pub word_more : (words : List ℕ) (s : TokenSet) (i v : ℕ) → i < length words → v ≡ word_of s i → ((n : ℕ) → n < i → get_or words n 0 ≡ word_of s n) → (n : ℕ) → n < i + 1 → get_or (set words i v) n 0 ≡ word_of s n
word_more words s i v within is before n lt =
    elim (cases_eq n i) [
      | inl same ↦ rw same (get_or-set_same words i v 0 within ∙ is)
      | inr other ↦ get_or-set_other words i n v 0 other ∙ before n (omega (arith, lt, other))
    ]

-- the sets of a table, by those that its words have
pub has_classes : (v : Vocabulary) (parts : List Part) (sets : List TokenSet) (words : List (List ℕ)) → length sets ≡ classes_in parts → AreClasses v parts (list_has sets) (length parts) → HaveSets sets words (length sets) → HasClasses v parts words
has_classes v parts sets words len are have =
    let all : classes_in (take (length parts) parts) ≡ classes_in parts = ap classes_in (take-length parts) in
    classes_same v parts (list_has sets) (set_has words) (length parts) (omega arith) (λ k kind lt. sym (have k (omega (arith, lt, len, all)) kind)) are
