-- How many events the calls of a parser record for the tokens that they eat.
use Rattle.std.proofs.Common.{◌≡◌, ◌≢◌, ◌∙◌, ℕ, zero, suc, ◌+◌, ◌*◌, ◌<◌, ◌≤◌, ◌==◌, not, Bool, true, false, Option, Some, None, List, [], ◌∷◌, ◌++◌, length, map, drop, take, if◌then◌else◌, arith, ap, sym, refl, length-append}
use Rattle.std.specs.Prelude.{option_map, unwrap_or}
use Rattle.std.specs.List.{list_all, list_any}
use Rattle.squawk_kinds.specs.Kinds.{EOF}
use Rattle.squawk_kinds.specs.TokenSets.{has}
use Rattle.squawk_table.specs.ParserInput.{Entry, kind_in}
use Rattle.squawk_output.specs.Draft.{Mark, Node}
use Rattle.squawk_output.specs.Steps.{Step, Exit, Error, Token, eaten}
use Rattle.squawk_parser.specs.Composites.{AtMostOne, Composite, Element, Form, Glued, Joint, NoTail, One, Operator, Sequence, ClosedBy, Open, Tail, composites, has_form, stands_as, stands_at}
use Rattle.squawk_parser.specs.Eaten.{EatsWith, closing_steps, composite_of, eat_steps, eaten_as, element_steps, elements_in, elements_of_kind, expect_steps, expected_text, form_steps, node, one, tail_in, tail_of_kind}
use Rattle.squawk_parser.specs.Operators.{operator_length}
use Rattle.squawk_parser.specs.Recorded.{Begins, Completes, Precedes, Puts}
use Rattle.squawk_parser.specs.Skipped.{skip_steps}
use Rattle.squawk_parser.specs.SomeSteps.{Spends}
use Rattle.squawk_parser.specs.State.{State, ahead}
use Rattle.squawk_parser.specs.Words.{HasNoEnd, Words}
use Rattle.squawk_parser.proofs.CompositeFacts.{found}
use Rattle.squawk_parser.proofs.Progress.{eaten-cons, eaten-node, operator-some}
use Rattle.squawk_parser.proofs.RecordedItems.{eaten-append}
use Rattle.squawk_parser.proofs.RecordedSteps.{records-most}

-- ---- markers

pub begins_spends : {m : Mark} {a b : State} → Begins m a b → Spends 0 1 a b
begins_spends begins = omega (arith, records-most begins.records refl)

pub completes_spends : {id kind : ℕ} {a b : State} → Completes id kind a b → Spends 0 1 a b
completes_spends completes = omega (arith, records-most completes.records refl)

pub precedes_spends : {n : Node} {m : Mark} {a b : State} → Precedes n m a b → Spends 0 1 a b
precedes_spends precedes = omega (arith, records-most precedes.records refl)

-- ---- steps that are few for their tokens

-- tokens are one step each
ones : {X : Type 0} (kind : X → ℕ) (xs : List X) → eaten (map (λ x. one (kind x)) xs) ≡ length (map (λ x. one (kind x)) xs)
ones kind [] = refl
ones kind (x ∷ xs) = eaten-cons (one (kind x)) (map (λ x. one (kind x)) xs) ∙ ap (λ n. 1 + n) (ones kind xs) ∙ omega arith

-- skipped tokens, with their error and their node
pub skip_steps-few : (text : List ℕ) (tokens : List Entry) → length (skip_steps text tokens) ≤ 4 * eaten (skip_steps text tokens)
skip_steps-few text [] = omega arith
skip_steps-few text (e ∷ tokens) =
    let inner = map (λ e. one e.kind) (e ∷ tokens) in
    let all = ones (λ (e : Entry). e.kind) (e ∷ tokens) in
    omega (arith, all, eaten-node 2 (Error text ∷ inner), eaten-cons (Error text) inner, length-append inner (Exit ∷ []))

element_steps-few : (elements : List Element) (seen : List Entry) → length (element_steps elements seen) ≤ 3 * eaten (element_steps elements seen)
element_steps-few [] seen = omega arith
element_steps-few (One kind ∷ elements) seen =
    omega (arith, element_steps-few elements (drop 1 seen), eaten-cons (one kind) (element_steps elements (drop 1 seen)))
element_steps-few (AtMostOne kind kinds ∷ elements) seen =
    cases (list_any (λ kind. kind_in seen 0 == kind) kinds) (element_steps elements (drop 1 seen)) (element_steps elements seen)
    (element_steps-few elements (drop 1 seen)) (element_steps-few elements seen)
  where
    cases : (b : Bool) (some others : List Step) → length some ≤ 3 * eaten some → length others ≤ 3 * eaten others
        → length (if b then node kind (one (kind_in seen 0) ∷ []) ++ some else others) ≤ 3 * eaten (if b then node kind (one (kind_in seen 0) ∷ []) ++ some else others)
    cases true some others few _ =
        let inner = node kind (one (kind_in seen 0) ∷ []) in
        omega (arith, few, length-append inner some, eaten-append inner some, eaten-node kind (one (kind_in seen 0) ∷ []), eaten-cons (one (kind_in seen 0)) [])
    cases false some others _ few = few

-- a composite kind has a token at least, and a sequence begins with one
begins_well : Form → Bool
begins_well (Glued parts) = not (length parts == 0)
begins_well (Joint parts) = not (length parts == 0)
begins_well (Sequence [] tail) = false
begins_well (Sequence (One kind ∷ elements) tail) = true
begins_well (Sequence (AtMostOne kind kinds ∷ elements) tail) = false
begins_well Operator = true

all_begin_well : list_all (λ composite. begins_well composite.form) composites ≡ true
unfolding begins_well
all_begin_well = refl

some_parts : (parts : List ℕ) → not (length parts == 0) ≡ true → 1 ≤ length parts
some_parts [] e = absurd (cc)
some_parts (part ∷ parts) e = omega arith

sequence-few : (elements : List Element) (seen : List Entry) (kind : ℕ) → 2 + length (element_steps elements seen) ≤ 3 * eaten (element_steps elements seen)
    → length (node kind (element_steps elements seen)) ≤ 3 * eaten (node kind (element_steps elements seen))
sequence-few elements seen kind few =
    let inner = element_steps elements seen in
    omega (arith, few, length-append inner (Exit ∷ []), eaten-node kind inner)

begun_sequence : (elements : List Element) (tail : _) (seen : List Entry) → begins_well (Sequence elements tail) ≡ true
    → 2 + length (element_steps elements seen) ≤ 3 * eaten (element_steps elements seen)
unfolding begins_well
begun_sequence [] tail seen e = absurd (cc)
begun_sequence (One kind ∷ elements) tail seen e =
    omega (arith, element_steps-few elements (drop 1 seen), eaten-cons (one kind) (element_steps elements (drop 1 seen)))
begun_sequence (AtMostOne kind kinds ∷ elements) tail seen e = absurd (cc)

joint-few : {X : Type 0} (kind : X → ℕ) (xs : List X) (node_kind : ℕ) → 1 ≤ length xs
    → length (node node_kind (map (λ x. one (kind x)) xs)) ≤ 3 * eaten (node node_kind (map (λ x. one (kind x)) xs))
joint-few kind [] node_kind some = absurd (omega arith)
joint-few kind (x ∷ xs) node_kind some =
    let inner = map (λ x. one (kind x)) (x ∷ xs) in
    omega (arith, ones kind (x ∷ xs), length-append inner (Exit ∷ []), eaten-node node_kind inner)

form-few : (operator_kind : ℕ → Bool) (kind : ℕ) (form : Form) (seen : List Entry) → operator_kind EOF ≡ false → begins_well form ≡ true → has_form operator_kind form seen ≡ true
    → length (form_steps operator_kind kind form seen) ≤ 3 * eaten (form_steps operator_kind kind form seen)
unfolding begins_well
form-few operator_kind kind (Glued parts) seen end well stands = omega (arith, some_parts parts well, eaten-cons (Token kind (length parts)) [])
form-few operator_kind kind (Joint parts) seen end well stands = joint-few (λ part. part) parts kind (some_parts parts well)
form-few operator_kind kind (Sequence elements tail) seen end well stands = sequence-few elements seen kind (begun_sequence elements tail seen well)
form-few operator_kind kind Operator [] end well stands = absurd (let e = sym stands ∙ end in cc)
form-few operator_kind kind Operator (e ∷ seen) end well stands =
    cases (operator_length operator_kind (e ∷ seen)) (operator-some operator_kind (e ∷ seen) end stands)
  where
    cases : (n : ℕ) → 0 < n → length (node kind (map (λ e. one e.kind) (take n (e ∷ seen)))) ≤ 3 * eaten (node kind (map (λ e. one e.kind) (take n (e ∷ seen))))
    cases zero some = absurd (omega arith)
    cases (suc n) some = joint-few (λ (e : Entry). e.kind) (e ∷ take n seen) kind (omega arith)

-- a kind that stands
eat_steps-few : (words : Words) (kind : ℕ) (seen : List Entry) → HasNoEnd words → stands_at (has words.operator_first) kind seen ≡ true
    → length (eat_steps words kind seen) ≤ 3 * eaten (eat_steps words kind seen)
eat_steps-few words kind seen end stands = cases (composite_of kind) refl stands
  where
    cases : (c : Option Composite) → composite_of kind ≡ c → stands_as (has words.operator_first) kind c seen ≡ true
        → length (eaten_as (has words.operator_first) kind c seen) ≤ 3 * eaten (eaten_as (has words.operator_first) kind c seen)
    cases None is stands = omega (arith, eaten-cons (one kind) [])
    cases (Some composite) is stands =
        form-few (has words.operator_first) kind composite.form seen end
        (found (λ composite. composite.kind == kind) (λ composite. begins_well composite.form) composites composite is all_begin_well) stands

pub eat_steps_spend : (words : Words) (kind : ℕ) {a b : State} → stands_at (has words.operator_first) kind (ahead a 0) ≡ true → HasNoEnd words
    → Puts (eat_steps words kind (ahead a 0)) a b → Spends 3 0 a b
eat_steps_spend words kind {a} {b} stands end puts = omega (arith, puts.few, puts.position, eat_steps-few words kind (ahead a 0) end stands)

-- and one that is expected
expect_steps-few : (words : Words) (kind : ℕ) (seen : List Entry) → HasNoEnd words
    → length (expect_steps words kind seen) ≤ 3 * eaten (expect_steps words kind seen) + 1
expect_steps-few words kind seen end = cases (stands_at (has words.operator_first) kind seen) (expected_text words kind) refl
  where
    cases : (b : Bool) (text : List ℕ) → stands_at (has words.operator_first) kind seen ≡ b
        → length (if b then eat_steps words kind seen else Error text ∷ []) ≤ 3 * eaten (if b then eat_steps words kind seen else Error text ∷ []) + 1
    cases true text stands = omega (arith, eat_steps-few words kind seen end stands)
    cases false text stands = omega arith

-- ---- a kind with a tail

closing_steps-few : (words : Words) (tail : Tail) (seen : List Entry) → HasNoEnd words → length (closing_steps words tail seen) ≤ 3 * eaten (closing_steps words tail seen) + 1
closing_steps-few words NoTail seen end = omega arith
closing_steps-few words Open seen end = omega arith
closing_steps-few words (ClosedBy kind) seen end = expect_steps-few words kind seen end

-- its tokens pay for its node
elements_of_kind-few : (kind : ℕ) (seen : List Entry) → tail_of_kind kind ≢ NoTail
    → 2 + length (element_steps (elements_of_kind kind) seen) ≤ 3 * eaten (element_steps (elements_of_kind kind) seen)
elements_of_kind-few kind seen tail = cases (composite_of kind) refl tail
  where
    of_form : (form : Form) → begins_well form ≡ true → tail_in form ≢ NoTail → 2 + length (element_steps (elements_in form) seen) ≤ 3 * eaten (element_steps (elements_in form) seen)
    of_form (Glued parts) well some = absurd (some refl)
    of_form (Joint parts) well some = absurd (some refl)
    of_form (Sequence elements tail) well some = begun_sequence elements tail seen well
    of_form Operator well some = absurd (some refl)

    cases : (c : Option Composite) → composite_of kind ≡ c → unwrap_or (option_map (λ composite. tail_in composite.form) c) NoTail ≢ NoTail
        → 2 + length (element_steps (unwrap_or (option_map (λ composite. elements_in composite.form) c) []) seen)
        ≤ 3 * eaten (element_steps (unwrap_or (option_map (λ composite. elements_in composite.form) c) []) seen)
    cases None is some = absurd (some refl)
    cases (Some composite) is some =
        of_form composite.form (found (λ composite. composite.kind == kind) (λ composite. begins_well composite.form) composites composite is all_begin_well) some

-- all of it, where the tail records at most three events a token
pub eats_with_spends : {does : State → State → Type 0} {kind : ℕ} {a b : State} → EatsWith does kind a b → tail_of_kind kind ≢ NoTail
    → ((old new : State) → does old new → Spends 3 0 old new) → Spends 3 1 a b
eats_with_spends {does} {kind} {a} {b} e some tail_spends =
    let elements = e.goes_on.does_so in
    let tail = e.goes_on.goes_on.does_so in
    let ran = e.goes_on.goes_on.between in
    let closing = e.goes_on.goes_on.goes_on.does_so in
    let completes = e.goes_on.goes_on.goes_on.goes_on in
    let tail_few = tail_spends e.goes_on.between ran tail.runs in
    omega (
      arith,
      records-most e.does_so.records refl,
      e.does_so.position,
      elements.few,
      elements.position,
      elements_of_kind-few kind (ahead e.between 0) some,
      tail_few,
      closing.few,
      closing.position,
      closing_steps-few ran.words (tail_of_kind kind) (ahead ran 0) tail.keeps.sound.words,
      records-most completes.records refl,
      completes.position,
    )
