-- What holds of every composite kind.
use Rattle.std.proofs.Common.{◌≡◌, ◌≢◌, ◌∙◌, ◌≤◌, ℕ, ◌==◌, ◌&&◌, not, Bool, true, false, Option, Some, None, List, [], ◌∷◌, length, map, cond, if◌then◌else◌, ap, sym, refl, arith}
use Rattle.std.specs.Prelude.{option_map, unwrap_or}
use Rattle.std.specs.List.{find, list_all}
use Rattle.std.proofs.lemmas.Bool.{eqb-true}
use Rattle.std.proofs.lemmas.List.Elements.{All-nil, All-cons}
use Rattle.squawk_kinds.specs.Kinds.{EOF, R_PAREN, UNICODE_NORMAL_FORM}
use Rattle.squawk_table.specs.ParserInput.{Entry}
use Rattle.squawk_parser.specs.CompositeForms.{element_of, form_of}
use Rattle.squawk_parser.specs.Composites.{Element, One, AtMostOne, Tail, NoTail, Open, ClosedBy, Form, Glued, Joint, Sequence, Operator, Composite, composites, HasNoEndKind, has_form, normal_form, stands_as, stands_at}
use Rattle.squawk_parser.specs.Eaten.{eat_steps, eaten_as, elements_in, elements_of_kind, form_steps, composite_of, tail_in, tail_of_kind}
use Rattle.squawk_parser.specs.Words.{Words}
use Rattle.squawk_parser.specs.declared.parser.composite.Form.{Form as CodeForm}
use Rattle.squawk_kinds.specs.TokenSets.{has}
use Rattle.squawk_parser.proofs.SeenSteps.{and-left, and-right}

-- ---- tests of a composite kind

no_end : List ℕ → Bool
no_end kinds = list_all (λ kind. not (kind == EOF)) kinds

kind_of : Element → ℕ
kind_of (One kind) = kind
kind_of (AtMostOne kind kinds) = kind

is_closed_well : Tail → Bool
is_closed_well NoTail = true
is_closed_well Open = true
is_closed_well (ClosedBy kind) = kind == R_PAREN

is_good : Form → Bool
is_good (Glued parts) = no_end parts && not (length parts == 0)
is_good (Joint parts) = no_end parts
is_good (Sequence elements tail) = no_end (map kind_of elements) && is_closed_well tail
is_good Operator = true

all_good : list_all (λ composite. is_good composite.form) composites ≡ true
unfolding no_end kind_of is_closed_well is_good
all_good = refl

-- what is found passes each test that all pass
pub found : {X : Type 0} (p q : X → Bool) (xs : List X) (x : X) → find p xs ≡ Some x → list_all q xs ≡ true → q x ≡ true
found p q [] x is all = absurd (cc)
found p q (y ∷ xs) x is all = found_cases (p y) refl (found p q xs x)
  where
    found_cases : (b : Bool) → p y ≡ b → (find p xs ≡ Some x → list_all q xs ≡ true → q x ≡ true) → q x ≡ true
    found_cases true e later =
        let here : Some y ≡ Some x = sym (ap (λ b. cond b (Some y) (find p xs)) e) ∙ is in
        let same : y ≡ x = cc in
        ap q (sym same) ∙ and-left (q y) (list_all q xs) all
    found_cases false e later = later (sym (ap (λ b. cond b (Some y) (find p xs)) e) ∙ is) (and-right (q y) (list_all q xs) all)

-- ---- the composite of a kind

-- the kind's composite has this form
pub record IsComposite (kind : ℕ) (form : Form) : Type 0 where
  pub composite : Composite
  pub is : composite_of kind ≡ Some composite
  pub form_is : composite.form ≡ form

composite_cases : (kind : ℕ) (form : Form) (composite : Option Composite) → composite_of kind ≡ composite → Some form ≡ option_map (λ composite. composite.form) composite → IsComposite kind form
composite_cases kind form None is same = absurd (cc)
composite_cases kind form (Some composite) is same = record { composite = composite; is = is; form_is = cc }

-- a look for the composite finds it
pub is_composite : (kind : ℕ) (result : Option CodeForm) (form : CodeForm) → result ≡ Some form
    → option_map form_of result ≡ option_map (λ composite. composite.form) (composite_of kind) → IsComposite kind (form_of form)
is_composite kind result form is same = composite_cases kind (form_of form) (composite_of kind) refl (sym (ap (option_map form_of) is) ∙ same)

no_composite_cases : (kind : ℕ) (composite : Option Composite) → composite_of kind ≡ composite → None ≡ option_map (λ composite. composite.form) composite → composite_of kind ≡ None
no_composite_cases kind None is same = is
no_composite_cases kind (Some composite) is same = absurd (cc)

-- or there is none
pub is_no_composite : (kind : ℕ) (result : Option CodeForm) → result ≡ None → option_map form_of result ≡ option_map (λ composite. composite.form) (composite_of kind) → composite_of kind ≡ None
is_no_composite kind result is same = no_composite_cases kind (composite_of kind) refl (sym (ap (option_map form_of) is) ∙ same)

good : {kind : ℕ} {form : Form} → IsComposite kind form → is_good form ≡ true
good {kind} {form} r = ap is_good (sym r.form_is) ∙ found (λ composite. composite.kind == kind) (λ composite. is_good composite.form) composites r.composite r.is all_good

HasNoEndKind-test : (kinds : List ℕ) → no_end kinds ≡ true → HasNoEndKind kinds
unfolding no_end
HasNoEndKind-test [] all = All-nil (λ kind. kind ≢ EOF)
HasNoEndKind-test (kind ∷ kinds) all =
    let first : not (kind == EOF) ≡ true = and-left _ (no_end kinds) all in
    All-cons (λ kind. kind ≢ EOF) kind kinds (λ end. absurd (let e = sym first ∙ ap (λ k. not (k == EOF)) end in cc)) (HasNoEndKind-test kinds (and-right _ (no_end kinds) all))

kinds_back : (parts : List ℕ) → map kind_of (map element_of parts) ≡ parts
unfolding kind_of
kinds_back [] = refl
kinds_back (part ∷ parts) = ap (λ k. k ∷ map kind_of (map element_of parts)) (cases (part == UNICODE_NORMAL_FORM) refl) ∙ ap (λ xs. part ∷ xs) (kinds_back parts)
  where
    cases : (b : Bool) → (part == UNICODE_NORMAL_FORM) ≡ b → kind_of (if b then normal_form else One part) ≡ part
    cases true e = let same : part ≡ UNICODE_NORMAL_FORM = eqb-true part UNICODE_NORMAL_FORM e in sym same
    cases false e = refl

-- ---- what holds of its form

module _ {kind : ℕ} {parts : List ℕ} (r : IsComposite kind (Glued parts)) where
  -- there is one at least
  pub glued-some : 1 ≤ length parts
  unfolding is_good
  glued-some = some parts (and-right (no_end parts) (not (length parts == 0)) (good r))
    where
      some : (parts : List ℕ) → not (length parts == 0) ≡ true → 1 ≤ length parts
      some [] e = absurd (cc)
      some (part ∷ parts) e = omega arith

  pub glued-no_end : HasNoEndKind parts
  unfolding is_good
  glued-no_end = HasNoEndKind-test parts (and-left _ _ (good r))

module _ (kind : ℕ) (parts : List ℕ) (tail : Tail) (r : IsComposite kind (Sequence (map element_of parts) tail)) where
  pub sequence-no_end : HasNoEndKind parts
  unfolding is_good
  sequence-no_end = HasNoEndKind-test parts (ap no_end (sym (kinds_back parts)) ∙ and-left _ _ (good r))

  pub sequence-closed : (closing : ℕ) → tail ≡ ClosedBy closing → closing ≡ R_PAREN
  unfolding is_good is_closed_well
  sequence-closed closing e =
      let closed : is_closed_well tail ≡ true = and-right (no_end (map kind_of (map element_of parts))) (is_closed_well tail) (good r) in
      let test : (closing == R_PAREN) ≡ true = sym (ap is_closed_well e) ∙ closed in
      eqb-true closing R_PAREN test

-- ---- where it stands, and what it makes

pub stands_at-composite : {kind : ℕ} {form : Form} (operator_kind : ℕ → Bool) (seen : List Entry) → IsComposite kind form
    → stands_at operator_kind kind seen ≡ has_form operator_kind form seen
stands_at-composite {kind} {form} operator_kind seen r =
    ap (λ composite. stands_as operator_kind kind composite seen) r.is ∙ ap (λ form. has_form operator_kind form seen) r.form_is

pub eat_steps-composite : {kind : ℕ} {form : Form} (words : Words) (seen : List Entry) → IsComposite kind form
    → eat_steps words kind seen ≡ form_steps (has words.operator_first) kind form seen
eat_steps-composite {kind} {form} words seen r =
    ap (λ composite. eaten_as (has words.operator_first) kind composite seen) r.is ∙ ap (λ form. form_steps (has words.operator_first) kind form seen) r.form_is

pub stands_at-none : (kind : ℕ) (operator_kind : ℕ → Bool) (seen : List Entry) → composite_of kind ≡ None
    → stands_at operator_kind kind seen ≡ stands_as operator_kind kind None seen
stands_at-none kind operator_kind seen is = ap (λ composite. stands_as operator_kind kind composite seen) is

pub eat_steps-none : (kind : ℕ) (words : Words) (seen : List Entry) → composite_of kind ≡ None → eat_steps words kind seen ≡ eaten_as (has words.operator_first) kind None seen
eat_steps-none kind words seen is = ap (λ composite. eaten_as (has words.operator_first) kind composite seen) is

pub tail-composite : {kind : ℕ} {form : Form} → IsComposite kind form → tail_of_kind kind ≡ tail_in form
tail-composite {kind} {form} r = ap (λ composite. unwrap_or (option_map (λ composite. tail_in composite.form) composite) NoTail) r.is ∙ ap tail_in r.form_is

pub elements-composite : {kind : ℕ} {form : Form} → IsComposite kind form → elements_of_kind kind ≡ elements_in form
elements-composite {kind} {form} r = ap (λ composite. unwrap_or (option_map (λ composite. elements_in composite.form) composite) []) r.is ∙ ap elements_in r.form_is
