-- Definitions by their names.
use Rattle.std.proofs.Common.{◌≡◌, ℕ, ◌+◌, ◌<◌, ◌≤◌, ◌⊎◌, ◌∙◌, rules, inl, inr, Bool, true, false, List, [], ◌∷◌, ◌++◌, ◌==◌, not, Option, Some, None, IfSome, is_some, length, get_or, take, position, option_map, nat_lt, arith, refl, sym, ap, length-append}
use Rattle.std.specs.Prelude.{if◌then◌else◌}
use Rattle.std.proofs.lemmas.Bool.{cases_Bool}
use Rattle.std.proofs.lemmas.Bool.Decides.{nat_tests}
use Rattle.std.proofs.lemmas.List.{length-take, take_more}
use Rattle.std.proofs.lemmas.List.Folds.{position_or_len_push}
use Rattle.std.proofs.lemmas.List.Sums.{count_by-le-length, prefix_len-le-length}
use Rattle.std.proofs.lemmas.Slice.Eq.{bytes_eq-Decides}
use Rattle.std.specs.BTreeMap.{BTreeMap}
use Rattle.std.specs.List.{position_or_len}
use Rattle.std.specs.Map.{update}
use Rattle.std.specs.Option.{option_or}
use Rattle.std.specs.Str.{bytes_eq}
use denote.Ref.{Bor}
use Rattle.rule_parts.specs.declared.Part.{Part}
use Rattle.rule_tables.specs.declared.definitions.Definition.{Definition}
use Rattle.rule_tables.specs.ByName.{HasDefinitions, definition_at, definition_in, has_for}
use Rattle.rule_tables.specs.Definitions.{classes_in, defines, is_class}

or_none : {X : Type 0} (r : Option X) → option_or r None ≡ r
or_none None = refl
or_none (Some x) = refl

map_or : {X Y : Type 0} (f : X → Y) (r s : Option X) → option_map f (option_or r s) ≡ option_or (option_map f r) (option_map f s)
map_or f None s = refl
map_or f (Some x) s = refl

-- the number of a definition is how many classes stand before it
pub found_number : (parts : List Part) (i : Option ℕ) (found : Option Definition) → found ≡ option_map (definition_at parts) i → IfSome found (λ d. d.number ≡ classes_in (take d.part parts))
found_number parts None found e = rw e tt
found_number parts (Some i) found e = rw e refl

-- and at most how many parts there are
pub found_few : (parts : List Part) (i : Option ℕ) (found : Option Definition) → found ≡ option_map (definition_at parts) i → IfSome found (λ d. d.number ≤ length parts)
found_few parts None found e = rw e tt
found_few parts (Some i) found e =
    let few : classes_in (take i parts) ≤ length parts = omega (arith, count_by-le-length (λ (p : Part). is_class (Some p)) (take i parts), length-take i parts) in
    rw e few

bytes_cases : (xs ys : List ℕ) → ((bytes_eq xs ys ≡ true) × (xs ≡ ys)) ⊎ (bytes_eq xs ys ≡ false)
bytes_cases xs ys =
    elim (cases_Bool (bytes_eq xs ys)) [
      | inl same ↦ inl (same, search (rules, bytes_eq-Decides, same))
      | inr other ↦ inr other
    ]

none_is : (r : Option Definition) → is_some r ≡ false → r ≡ None
none_is None e = refl
none_is (Some x) e = absurd (cc)

-- a name that isn't there yet
pub put_first : (old new : BTreeMap (Bor (List ℕ)) Definition) (name one : List ℕ) (d : Definition) → is_some (has_for old name) ≡ false → has_for new one ≡ update bytes_eq (has_for old) name (Some d) one
    → has_for new one ≡ option_or (has_for old one) (if bytes_eq name one then Some d else None)
put_first old new name one d free is =
    elim (bytes_cases name one) [
      | inl same ↦
          let here : is_some (has_for old one) ≡ false = ap (λ (q : List ℕ). is_some (has_for old q)) (sym same.1) ∙ free in
          rw same.0 at is ∙ sym (rw (same.0, none_is (has_for old one) here) refl)
      | inr other ↦ rw other at is ∙ sym (rw other (or_none (has_for old one)))
    ]

-- the first of one more, by how many don't pass before it
first_push : (n l : ℕ) (b : Bool) → n ≤ l
    → (if nat_lt (if n == l then l + (if b then 0 else 1) else n) (l + 1) then Some (if n == l then l + (if b then 0 else 1) else n) else None) ≡ option_or (if nat_lt n l then Some n else None) (if b then Some l else None)
first_push n l true le = grind (arith, nat_tests)
first_push n l false le = grind (arith, nat_tests)

-- the first part that passes, of one more
position_push : (p : Part → Bool) (xs : List Part) (y : Part) → position p (xs ++ y ∷ []) ≡ option_or (position p xs) (if p y then Some (length xs) else None)
position_push p xs y = rw (position_or_len_push p xs y, length-append xs (y ∷ [])) (first_push (position_or_len p xs) (length xs) (p y) (prefix_len-le-length (λ (x : Part). not (p x)) xs))

if_map : {X Y : Type 0} (f : X → Y) (b : Bool) (x : X) → option_map f (if b then Some x else None) ≡ (if b then Some (f x) else None)
if_map f true x = refl
if_map f false x = refl

-- the definition in one part more
definition_next : (parts : List Part) (i : ℕ) (d : Part) (name : List ℕ) → i < length parts
    → definition_in parts (i + 1) name ≡ option_or (definition_in parts i name) (if defines name (get_or parts i d) then Some (definition_at parts i) else None)
definition_next parts i d name lt =
    let len : length (take i parts) ≡ i = omega (arith, lt, length-take i parts) in
    ap (λ (ps : List Part). option_map (definition_at parts) (position (defines name) ps)) (take_more parts i d lt)
    ∙ ap (option_map (definition_at parts)) (position_push (defines name) (take i parts) (get_or parts i d))
    ∙ map_or (definition_at parts) (position (defines name) (take i parts)) (if defines name (get_or parts i d) then Some (length (take i parts)) else None)
    ∙ ap (option_or (definition_in parts i name)) (if_map (definition_at parts) (defines name (get_or parts i d)) (length (take i parts)) ∙ ap (λ (n : ℕ). if defines name (get_or parts i d) then Some (definition_at parts n) else None) len)

pub add_next : (parts : List Part) (i number : ℕ) (d : Part) (old new : BTreeMap (Bor (List ℕ)) Definition) → i < length parts → number ≡ classes_in (take i parts) → HasDefinitions parts i old
    → ((name : List ℕ) → has_for new name ≡ option_or (has_for old name) (if defines name (get_or parts i d) then Some (record { part = i; number = number }) else None))
    → HasDefinitions parts (i + 1) new
add_next parts i number d old new lt e has is name =
    is name ∙ ap (λ (r : Option Definition). option_or r (if defines name (get_or parts i d) then Some (record { part = i; number = number }) else None)) (has name)
    ∙ ap (λ (n : ℕ). option_or (definition_in parts i name) (if defines name (get_or parts i d) then Some (record { part = i; number = n }) else None)) e
    ∙ sym (definition_next parts i d name lt)
