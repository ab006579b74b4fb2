-- The parts of a composite kind are eaten one after another.
use Rattle.std.proofs.Common.{◌≡◌, ◌∙◌, ℕ, suc, ◌+◌, ◌<◌, ◌≤◌, ◌==◌, ◌&&◌, ◌||◌, Bool, true, false, Option, Some, None, List, [], ◌∷◌, ◌++◌, length, map, take, drop, get_or, add-one, ap, sym, refl, subst, append_assoc}
use Rattle.std.specs.Prelude.{IsSome, is_some, option_map}
use Rattle.std.specs.List.{list_any}
use Rattle.std.proofs.lemmas.Bool.{eqb-true}
use Rattle.std.proofs.Math.Seq.{drop-cons, take-suc}
use Rattle.std.proofs.lemmas.List.{map-append, take_all}
use Rattle.squawk_kinds.specs.Kinds.{UNICODE_NORMAL_FORM}
use Rattle.squawk_table.specs.ParserInput.{Entry, kind_in}
use Rattle.squawk_output.specs.Steps.{Step, eaten}
use Rattle.squawk_parser.specs.CompositeForms.{element_of}
use Rattle.squawk_parser.specs.Composites.{Element, One, are_joint, normal_form, normal_forms, sequence_length}
use Rattle.squawk_parser.specs.Eaten.{element_steps, one}
use Rattle.squawk_output.specs.Edits.{with_token}
use Rattle.squawk_parser.specs.LookAhead.{is_joint_next}
use Rattle.squawk_parser.specs.Recorded.{Puts}
use Rattle.squawk_parser.specs.State.{State, Keeps, Records, ahead}
use Rattle.squawk_parser.proofs.RecordedSteps.{puts-then, token_puts}
use Rattle.squawk_parser.proofs.SeenSteps.{ahead-moved, and-right, if-true, if-false}

-- the part at an index, and those behind it
part_here : (parts : List ℕ) (i part : ℕ) → i < length parts → part ≡ get_or parts i part → drop i parts ≡ part ∷ drop (i + 1) parts
part_here parts i part lt is = drop-cons parts i part lt ∙ (ap (λ k. k ∷ drop (suc i) parts) (sym is) ∙ ap (λ j. part ∷ drop j parts) (sym (add-one i)))

-- ---- joint parts

-- the parts before index i are eaten, and the others are joint from here on
pub record IsTouched (parts : List ℕ) (i : ℕ) (old now : State) : Type 0 where
  pub puts : Puts (map one (take i parts)) old now
  pub touch : are_joint (drop i parts) (ahead now 0) ≡ true

module _ (parts : List ℕ) (i part : ℕ) (old now : State) (lt : i < length parts) (is : part ≡ get_or parts i part) (so_far : IsTouched parts i old now) where
  both : ((kind_in (ahead now 0) 0 == part) && ((length (drop (i + 1) parts) == 0) || is_joint_next (ahead now 0))) && are_joint (drop (i + 1) parts) (drop 1 (ahead now 0)) ≡ true
  both = sym (ap (λ xs. are_joint xs (ahead now 0)) (part_here parts i part lt is)) ∙ so_far.touch

  -- and is eaten
  pub touched-next : (next : State) → Keeps now next → next.position ≡ now.position + 1 → Records now next (with_token now.draft part 1)
      → IsTouched parts (i + 1) old next
  touched-next next keeps position records = record {
    puts = subst (λ steps. Puts steps old next) (sym more) (puts-then so_far.puts (token_puts part 1 keeps records position));
    touch = ap (are_joint (drop (i + 1) parts)) (ahead-moved 1 keeps position) ∙ and-right _ _ both;
  }
    where
      more : map one (take (i + 1) parts) ≡ map one (take i parts) ++ one part ∷ []
      more =
          ap (λ j. map one (take j parts)) (add-one i)
          ∙ (ap (map one) (take-suc parts i part lt ∙ ap (λ k. take i parts ++ k ∷ []) (sym is)) ∙ map-append one (take i parts) (part ∷ []))

-- at the end all are
pub touched-all : (parts : List ℕ) (i : ℕ) (old now : State) → length parts ≤ i → IsTouched parts i old now → Puts (map one parts) old now
touched-all parts i old now le so_far = subst (λ xs. Puts (map one xs) old now) (take_all i parts le) so_far.puts

-- ---- elements of a sequence

-- what is recorded and the steps of the parts from index i on are those of all, and the parts that are left stand
pub record IsEaten (parts : List ℕ) (i : ℕ) (old now : State) : Type 0 where
  pub done : List Step
  pub puts : Puts done old now
  pub all : done ++ element_steps (map element_of (drop i parts)) (ahead now 0) ≡ element_steps (map element_of parts) (ahead old 0)
  pub stands : IsSome (sequence_length (map element_of (drop i parts)) (ahead now 0))

-- what the first of some elements records, and what stands behind it
record IsFirst (element : Element) (elements : List Element) (seen : List Entry) (steps : List Step) : Type 0 where
  steps_are : element_steps (element ∷ elements) seen ≡ steps ++ element_steps elements (drop (eaten steps) seen)
  stands : IsSome (sequence_length elements (drop (eaten steps) seen))

counted_some : (count : Option ℕ) → IsSome (option_map suc count) → IsSome count
counted_some None some = some
counted_some (Some n) some = refl

first-one : (kind : ℕ) (elements : List Element) (seen : List Entry) → IsSome (sequence_length (One kind ∷ elements) seen)
    → (kind_in seen 0 ≡ kind) × IsFirst (One kind) elements seen (one kind ∷ [])
first-one kind elements seen some = cases (kind_in seen 0 == kind) refl
  where
    cases : (b : Bool) → (kind_in seen 0 == kind) ≡ b → (kind_in seen 0 ≡ kind) × IsFirst (One kind) elements seen (one kind ∷ [])
    cases true e = (eqb-true (kind_in seen 0) kind e, record { steps_are = refl; stands = counted_some (sequence_length elements (drop 1 seen)) (subst IsSome (if-true _ _ _ e) some) })
    cases false e = absurd (let none = sym some ∙ ap is_some (if-false _ _ _ e) in cc)

first-form : (elements : List Element) (seen : List Entry) → IsSome (sequence_length (normal_form ∷ elements) seen)
    → IsFirst normal_form elements seen (element_steps (normal_form ∷ []) seen)
first-form elements seen some = cases (list_any (λ form. kind_in seen 0 == form) normal_forms) refl
  where
    cases : (b : Bool) → list_any (λ form. kind_in seen 0 == form) normal_forms ≡ b → IsFirst normal_form elements seen (element_steps (normal_form ∷ []) seen)
    cases true e =
        subst (IsFirst normal_form elements seen) (sym (if-true _ _ _ e))
        (record { steps_are = if-true _ _ _ e; stands = counted_some (sequence_length elements (drop 1 seen)) (subst IsSome (if-true _ _ _ e) some) })
    cases false e =
        subst (IsFirst normal_form elements seen) (sym (if-false _ _ _ e))
        (record { steps_are = if-false _ _ _ e; stands = subst IsSome (if-false _ _ _ e) some })

module _ (parts : List ℕ) (i part : ℕ) (old now : State) (lt : i < length parts) (is : part ≡ get_or parts i part) (so_far : IsEaten parts i old now) where
  -- the first part that is left as an element
  front : (element : Element) → element_of part ≡ element → map element_of (drop i parts) ≡ element ∷ map element_of (drop (i + 1) parts)
  front element e = ap (map element_of) (part_here parts i part lt is) ∙ ap (λ x. x ∷ map element_of (drop (i + 1) parts)) e

  stands_now : (element : Element) → element_of part ≡ element → IsSome (sequence_length (element ∷ map element_of (drop (i + 1) parts)) (ahead now 0))
  stands_now element e = subst (λ xs. IsSome (sequence_length xs (ahead now 0))) (front element e) so_far.stands

  -- it is eaten
  next-element : (element : Element) (steps : List Step) (next : State) → element_of part ≡ element
      → IsFirst element (map element_of (drop (i + 1) parts)) (ahead now 0) steps
      → Puts steps now next → IsEaten parts (i + 1) old next
  next-element element steps next e first puts = record {
    done = so_far.done ++ steps;
    puts = puts-then so_far.puts puts;
    all =
        append_assoc so_far.done steps (element_steps rest (ahead next 0))
        ∙ (ap (λ seen. so_far.done ++ (steps ++ element_steps rest seen)) moved
        ∙ (ap (λ xs. so_far.done ++ xs) (sym first.steps_are)
        ∙ (ap (λ xs. so_far.done ++ element_steps xs (ahead now 0)) (sym (front element e)) ∙ so_far.all)));
    stands = subst (λ seen. IsSome (sequence_length rest seen)) (sym moved) first.stands;
  }
    where
      rest : List Element
      rest = map element_of (drop (i + 1) parts)

      moved : ahead next 0 ≡ drop (eaten steps) (ahead now 0)
      moved = ahead-moved (eaten steps) puts.keeps puts.position

  -- a part that is no normal form stands
  first : (part == UNICODE_NORMAL_FORM) ≡ false
      → (kind_in (ahead now 0) 0 ≡ part) × IsFirst (One part) (map element_of (drop (i + 1) parts)) (ahead now 0) (one part ∷ [])
  first other = first-one part (map element_of (drop (i + 1) parts)) (ahead now 0) (stands_now (One part) (if-false _ _ _ other))

  pub eaten-next : (next : State) → (part == UNICODE_NORMAL_FORM) ≡ false → Keeps now next → next.position ≡ now.position + 1
      → Records now next (with_token now.draft part 1)
      → IsEaten parts (i + 1) old next
  eaten-next next other keeps position records =
      next-element (One part) (one part ∷ []) next (if-false _ _ _ other) (first other).1 (token_puts part 1 keeps records position)

  -- a normal form may stand
  pub eaten-form : (next : State) → (part == UNICODE_NORMAL_FORM) ≡ true → Puts (element_steps (normal_form ∷ []) (ahead now 0)) now next
      → IsEaten parts (i + 1) old next
  eaten-form next form puts =
      let is_form : element_of part ≡ normal_form = if-true _ _ _ form in
      next-element normal_form (element_steps (normal_form ∷ []) (ahead now 0)) next is_form
      (first-form (map element_of (drop (i + 1) parts)) (ahead now 0) (stands_now normal_form is_form)) puts
