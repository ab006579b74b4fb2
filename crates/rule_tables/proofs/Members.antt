-- The members of a class: classes before it alone count.
use Rattle.std.proofs.Common.{◌≡◌, ℕ, ◌<◌, ◌&&◌, ◌||◌, Bool, false, inl, inr, List, [], ◌∷◌, Option, Some, None, slice_get, take, nat_lt, arith, refl, ap}
use Rattle.std.proofs.lemmas.Bool.{cases_Bool}
use Rattle.std.proofs.lemmas.Bool.Decides.{nat_tests}
use Rattle.rule_parts.specs.declared.Part.{Part}
use Rattle.rule_tables.specs.Classes.{class_has, class_holds, is_without, is_words, joined, member_has, member_number, members_have, members_of, token_has}
use Rattle.rule_tables.specs.Definitions.{classes_in}
use Rattle.rule_tables.specs.Vocabulary.{Vocabulary}

holds_same : (one other : ℕ → ℕ → Bool) (count kind : ℕ) (number : Option ℕ) → ((n : ℕ) → n < count → one n kind ≡ other n kind) → class_holds one count number kind ≡ class_holds other count number kind
holds_same one other count kind None same = refl
holds_same one other count kind (Some n) same =
    elim (cases_Bool (nat_lt n count)) [
      | inl below ↦ let lt : n < count = grind (arith, nat_tests) in ap (λ (b : Bool). nat_lt n count && b) (same n lt)
      | inr above ↦ rw above refl
    ]

member_same : (v : Vocabulary) (parts : List Part) (one other : ℕ → ℕ → Bool) (count : ℕ) (words : Bool) (kind : ℕ) → ((n : ℕ) → n < count → one n kind ≡ other n kind) → (p : Part)
    → member_has v parts one count words kind p ≡ member_has v parts other count words kind p
member_same v parts one other count words kind same p = ap (λ (b : Bool). b || token_has v words kind p) (holds_same one other count kind (member_number parts p) same)

members_same : (one other : Part → Bool) → ((p : Part) → one p ≡ other p) → (before without : Bool) (ps : List Part) → members_have one before without ps ≡ members_have other before without ps
members_same one other same before without [] = refl
members_same one other same before without (p ∷ ps) = rw (same p) (members_same one other same (joined without before (other p)) (is_without p) ps)

pub class_same : (v : Vocabulary) (parts : List Part) (one other : ℕ → ℕ → Bool) (i size kind : ℕ) → ((n : ℕ) → n < classes_in (take i parts) → one n kind ≡ other n kind) → class_has v parts one i size kind ≡ class_has v parts other i size kind
class_same v parts one other i size kind same = members_same _ _ (member_same v parts one other (classes_in (take i parts)) (is_words (slice_get parts i)) kind same) false false (members_of parts i size)
