-- One class more.
use Rattle.std.proofs.Common.{◌≡◌, ℕ, zero, suc, ◌+◌, ◌-◌, ◌<◌, ◌≤◌, ◌∙◌, Bool, true, false, inl, inr, List, [], ◌∷◌, ◌++◌, Option, Some, None, is_some, length, get_or, slice_get, take, arith, refl, length-append, sym, subst, ap}
use Rattle.std.proofs.lemmas.Bool.{cases_Bool, cases_eq}
use Rattle.std.proofs.lemmas.List.Sums.{count_by_more_no, count_by_more_yes}
use Rattle.std.proofs.lemmas.Option.{slice_get-get_or}
use Rattle.squawk_kinds.specs.TokenSets.{has}
use Rattle.squawk_kinds.specs.declared.token_set.TokenSet.{TokenSet}
use Rattle.rule_parts.specs.declared.Part.{Part}
use Rattle.rule_tables.specs.Classes.{AreClasses, class_has, list_has, some_has}
use Rattle.rule_tables.specs.Definitions.{classes_in, is_class, size_of_class}
use Rattle.rule_tables.specs.Vocabulary.{Vocabulary}
use Rattle.rule_tables.proofs.Lists.{slice_get-front, slice_get-seam}
use Rattle.rule_tables.proofs.Members.{class_same}

abbrev is_one : Part → Bool
is_one p = is_class (Some p)

-- how many classes there are up to a part, and with it
pub count_class : (parts : List Part) (n : ℕ) (d : Part) → n < length parts → is_class (Some (get_or parts n d)) ≡ true → classes_in (take (n + 1) parts) ≡ classes_in (take n parts) + 1
count_class parts n d lt is = count_by_more_yes is_one parts n d lt is

pub count_other : (parts : List Part) (n : ℕ) (d : Part) → n < length parts → is_class (Some (get_or parts n d)) ≡ false → classes_in (take (n + 1) parts) ≡ classes_in (take n parts)
count_other parts n d lt is = count_by_more_no is_one parts n d lt is

class_step : (parts : List Part) (i : ℕ) (d : Part) → i < length parts → classes_in (take i parts) ≤ classes_in (take (i + 1) parts)
class_step parts i d lt =
    elim (cases_Bool (is_class (Some (get_or parts i d)))) [
      | inl is ↦ omega (arith, count_class parts i d lt is)
      | inr other ↦ omega (arith, count_other parts i d lt other)
    ]

classes_up : (parts : List Part) (i k : ℕ) (d : Part) → i + k ≤ length parts → classes_in (take i parts) ≤ classes_in (take (i + k) parts)
classes_up parts i zero d le = let same : i ≡ i + 0 = omega arith in subst (λ (n : ℕ). classes_in (take i parts) ≤ classes_in (take n parts)) same (omega arith)
classes_up parts i (suc k) d le =
    let before : classes_in (take i parts) ≤ classes_in (take (i + k) parts) = classes_up parts i k d (omega (arith, le)) in
    let step : classes_in (take (i + k) parts) ≤ classes_in (take (i + k + 1) parts) = class_step parts (i + k) d (omega (arith, le)) in
    let next : i + k + 1 ≡ i + suc k = omega arith in
    subst (λ (n : ℕ). classes_in (take i parts) ≤ classes_in (take n parts)) next (omega (arith, before, step))

some_part : (found : Option Part) (size : ℕ) → size_of_class found ≡ Some size → (p : Part) × (found ≡ Some p)
some_part None size e = absurd (cc)
some_part (Some p) size e = (p, refl)

-- a class has a less number than those after it
pub class_before : (parts : List Part) (i n size : ℕ) → i < n → n ≤ length parts → size_of_class (slice_get parts i) ≡ Some size → classes_in (take i parts) < classes_in (take n parts)
class_before parts i n size lt le is =
    let found : (p : Part) × (slice_get parts i ≡ Some p) = some_part (slice_get parts i) size is in
    let here : slice_get parts i ≡ Some (get_or parts i found.0) = slice_get-get_or parts i found.0 (omega (arith, lt, le)) in
    let passes : is_class (Some (get_or parts i found.0)) ≡ true = ap is_class (sym here) ∙ ap is_some is in
    let more : classes_in (take (i + 1) parts) ≡ classes_in (take i parts) + 1 = count_class parts i found.0 (omega (arith, lt, le)) passes in
    let up : classes_in (take (i + 1) parts) ≤ classes_in (take (i + 1 + (n - (i + 1))) parts) = classes_up parts (i + 1) (n - (i + 1)) found.0 (omega (arith, lt, le)) in
    let same : i + 1 + (n - (i + 1)) ≡ n = omega (arith, lt) in
    omega (arith, more, subst (λ (k : ℕ). classes_in (take (i + 1) parts) ≤ classes_in (take k parts)) same up)

-- one set more keeps those before it
has_front : (sets : List TokenSet) (set : TokenSet) (kind n : ℕ) → n < length sets → list_has sets n kind ≡ list_has (sets ++ set ∷ []) n kind
has_front sets set kind n lt = ap (λ (found : Option TokenSet). some_has found kind) (sym (slice_get-front sets (set ∷ []) n lt))

some_same : (a b : ℕ) → Some a ≡ Some b → a ≡ b
some_same a b e = cc

-- the classes of as many parts, by sets that are the same for them
pub classes_same : (v : Vocabulary) (parts : List Part) (one other : ℕ → ℕ → Bool) (n : ℕ) → n ≤ length parts → ((k kind : ℕ) → k < classes_in (take n parts) → one k kind ≡ other k kind) → AreClasses v parts one n → AreClasses v parts other n
classes_same v parts one other n le same are i lt size is kind =
    let below : classes_in (take i parts) < classes_in (take n parts) = class_before parts i n size lt le is in
    sym (same (classes_in (take i parts)) kind below) ∙ are i lt size is kind
    ∙ class_same v parts one other i size kind (λ k less. same k kind (omega (arith, less, below)))

class_seam : (v : Vocabulary) (parts : List Part) (sets : List TokenSet) (set : TokenSet) (n size : ℕ) → length sets ≡ classes_in (take n parts)
    → ((kind : ℕ) → has set kind ≡ class_has v parts (list_has sets) n size kind)
    → (kind : ℕ) → list_has (sets ++ set ∷ []) (classes_in (take n parts)) kind ≡ class_has v parts (list_has (sets ++ set ∷ [])) n size kind
class_seam v parts sets set n size len is kind =
    let last : slice_get (sets ++ set ∷ []) (classes_in (take n parts)) ≡ Some set = subst (λ (k : ℕ). slice_get (sets ++ set ∷ []) k ≡ Some set) len (slice_get-seam sets set) in
    ap (λ (found : Option TokenSet). some_has found kind) last ∙ is kind
    ∙ class_same v parts (list_has sets) (list_has (sets ++ set ∷ [])) n size kind (λ k less. has_front sets set kind k (omega (arith, less, len)))

-- one class more
pub classes_more : (v : Vocabulary) (parts : List Part) (sets : List TokenSet) (set : TokenSet) (n size : ℕ) → n < length parts → length sets ≡ classes_in (take n parts) → size_of_class (slice_get parts n) ≡ Some size
    → ((kind : ℕ) → has set kind ≡ class_has v parts (list_has sets) n size kind) → AreClasses v parts (list_has sets) n → AreClasses v parts (list_has (sets ++ set ∷ [])) (n + 1)
classes_more v parts sets set n size lt len class is are i less s e kind =
    elim (cases_eq i n) [
      | inl same ↦
          let sizes : s ≡ size = some_same s size (sym e ∙ ap (λ (k : ℕ). size_of_class (slice_get parts k)) same ∙ class) in
          rw (same, sizes) (class_seam v parts sets set n size len is kind)
      | inr other ↦ classes_same v parts (list_has sets) (list_has (sets ++ set ∷ [])) n (omega (arith, lt)) (λ k kd below. has_front sets set kd k (omega (arith, below, len))) are i (omega (arith, less, other)) s e kind
    ]

-- another part
pub classes_other : (v : Vocabulary) (parts : List Part) (holds : ℕ → ℕ → Bool) (n : ℕ) → ((size : ℕ) → size_of_class (slice_get parts n) ≡ Some size → ⊥) → AreClasses v parts holds n → AreClasses v parts holds (n + 1)
classes_other v parts holds n none are i less s e kind =
    elim (cases_eq i n) [
      | inl same ↦ absurd (none s (ap (λ (k : ℕ). size_of_class (slice_get parts k)) (sym same) ∙ e))
      | inr other ↦ are i (omega (arith, less, other)) s e kind
    ]

-- the next part is a class
pub classes_next : (v : Vocabulary) (parts : List Part) (sets all : List TokenSet) (set : TokenSet) (n size : ℕ) (d : Part) → n < length parts → size_of_class (Some (get_or parts n d)) ≡ Some size
    → all ≡ sets ++ set ∷ [] → length sets ≡ classes_in (take n parts) → ((kind : ℕ) → has set kind ≡ class_has v parts (list_has sets) n size kind) → AreClasses v parts (list_has sets) n
    → (length all ≡ classes_in (take (n + 1) parts)) × AreClasses v parts (list_has all) (n + 1)
classes_next v parts sets all set n size d lt is e len has are =
    let count : classes_in (take (n + 1) parts) ≡ classes_in (take n parts) + 1 = count_class parts n d lt (ap is_some is) in
    let class : size_of_class (slice_get parts n) ≡ Some size = ap size_of_class (slice_get-get_or parts n d lt) ∙ is in (
      ap length e ∙ length-append sets (set ∷ []) ∙ ap (λ (k : ℕ). k + 1) len ∙ sym count,
      subst (λ (xs : List TokenSet). AreClasses v parts (list_has xs) (n + 1)) (sym e) (classes_more v parts sets set n size lt len class has are),
    )

no_size : (parts : List Part) (n : ℕ) (d : Part) → n < length parts → size_of_class (Some (get_or parts n d)) ≡ None → (size : ℕ) → size_of_class (slice_get parts n) ≡ Some size → ⊥
no_size parts n d lt is size e = let wrong : None ≡ Some size = sym is ∙ ap size_of_class (sym (slice_get-get_or parts n d lt)) ∙ e in cc

-- the next part is none
pub classes_stay : (v : Vocabulary) (parts : List Part) (sets : List TokenSet) (n : ℕ) (d : Part) → n < length parts → size_of_class (Some (get_or parts n d)) ≡ None
    → length sets ≡ classes_in (take n parts) → AreClasses v parts (list_has sets) n
    → (length sets ≡ classes_in (take (n + 1) parts)) × AreClasses v parts (list_has sets) (n + 1)
classes_stay v parts sets n d lt is len are = (len ∙ sym (count_other parts n d lt (ap is_some is)), classes_other v parts (list_has sets) n (no_size parts n d lt is) are)
