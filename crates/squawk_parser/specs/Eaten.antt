-- What calls eat, and what they record for it.
use Rattle.std.specs.Prelude.{◌≡◌, ℕ, ◌==◌, ◌++◌, Bool, false, Option, Some, None, List, [], ◌∷◌, length, map, take, drop, option_map, unwrap_or, codes, if◌then◌else◌}
use Rattle.std.specs.List.{find, list_any}
use Rattle.std.specs.Str.{chars}
use Rattle.squawk_kinds.specs.KindNames.{kind_name}
use Rattle.squawk_kinds.specs.Kinds.{EOF, ERROR}
use Rattle.squawk_kinds.specs.TokenSets.{has}
use Rattle.squawk_table.specs.ParserInput.{Entry, kind_in}
use Rattle.squawk_output.specs.Steps.{Step, Token, Enter, Exit, Error}
use Rattle.squawk_parser.specs.Composites.{Element, One, AtMostOne, Tail, NoTail, Open, ClosedBy, Form, Glued, Joint, Sequence, Operator, Composite, composites, stands_at}
use Rattle.squawk_output.specs.Draft.{open_markers_of}
use Rattle.squawk_parser.specs.Operators.{operator_length}
use Rattle.squawk_parser.specs.State.{State, HasNotFailed, Keeps, ahead}
use Rattle.squawk_parser.specs.Recorded.{Begins, Completes, Puts, started_mark}
use Rattle.squawk_parser.specs.Words.{Words}

-- a token of one input token
abbrev pub one : ℕ → Step
one kind = Token kind 1

-- a node with these steps in it
abbrev pub node : ℕ → List Step → List Step
node kind steps = Enter kind ∷ steps ++ Exit ∷ []

-- the current token as a token of this kind; at the end there is none
abbrev pub current_as : ℕ → List Entry → List Step
current_as kind seen = if kind_in seen 0 == EOF then [] else one kind ∷ []

-- the steps of the elements of a sequence that is at the front
abbrev pub element_steps : List Element → List Entry → List Step
element_steps [] seen = []
element_steps (One kind ∷ elements) seen = one kind ∷ element_steps elements (drop 1 seen)
element_steps (AtMostOne kind kinds ∷ elements) seen =
    if list_any (λ kind. kind_in seen 0 == kind) kinds
    then node kind (one (kind_in seen 0) ∷ []) ++ element_steps elements (drop 1 seen)
    else element_steps elements seen

-- the steps of a composite kind that is at the front
abbrev pub form_steps : (ℕ → Bool) → ℕ → Form → List Entry → List Step
form_steps operator_kind kind (Glued parts) seen = Token kind (length parts) ∷ []
form_steps operator_kind kind (Joint parts) seen = node kind (map one parts)
form_steps operator_kind kind (Sequence elements tail) seen = node kind (element_steps elements seen)
form_steps operator_kind kind Operator seen = node kind (map (λ e. one e.kind) (take (operator_length operator_kind seen) seen))

-- the composite with this kind, if it is one
abbrev pub composite_of : ℕ → Option Composite
composite_of kind = find (λ composite. composite.kind == kind) composites

-- the steps of a kind that is at the front
abbrev pub eaten_as : (ℕ → Bool) → ℕ → Option Composite → List Entry → List Step
eaten_as operator_kind kind None seen = one kind ∷ []
eaten_as operator_kind kind (Some composite) seen = form_steps operator_kind kind composite.form seen

-- the steps that eating a kind puts at the end of a draft
abbrev pub eat_steps : Words → ℕ → List Entry → List Step
eat_steps words kind seen = eaten_as (has words.operator_first) kind (composite_of kind) seen

-- ---- tails

abbrev pub tail_in : Form → Tail
tail_in (Glued parts) = NoTail
tail_in (Joint parts) = NoTail
tail_in (Sequence elements tail) = tail
tail_in Operator = NoTail

-- what follows the tokens of a kind, inside its node
abbrev pub tail_of_kind : ℕ → Tail
tail_of_kind kind = unwrap_or (option_map (λ composite. tail_in composite.form) (composite_of kind)) NoTail

-- the elements of a kind's sequence
abbrev pub elements_in : Form → List Element
elements_in (Glued parts) = []
elements_in (Joint parts) = []
elements_in (Sequence elements tail) = elements
elements_in Operator = []

abbrev pub elements_of_kind : ℕ → List Element
elements_of_kind kind = unwrap_or (option_map (λ composite. elements_in composite.form) (composite_of kind)) []

-- ---- expected kinds

-- the text of the error that a kind is expected
abbrev pub expected_text : Words → ℕ → List ℕ
expected_text words kind = chars (codes "expected " ++ kind_name words.names kind)

-- the steps that expecting a kind puts at the end of a draft
abbrev pub expect_steps : Words → ℕ → List Entry → List Step
expect_steps words kind seen =
    if stands_at (has words.operator_first) kind seen then eat_steps words kind seen else Error (expected_text words kind) ∷ []

-- the steps after the tail of a kind
abbrev pub closing_steps : Words → Tail → List Entry → List Step
closing_steps words NoTail seen = []
closing_steps words Open seen = []
closing_steps words (ClosedBy kind) seen = expect_steps words kind seen

-- ---- recovery

-- an error, in a node with the current token unless recovery goes on from that
abbrev pub recovery_steps : List ℕ → (ℕ → Bool) → List Entry → List Step
recovery_steps text recovers seen =
    let kind = kind_in seen 0 in
    if recovers kind then Error text ∷ [] else node ERROR (Error text ∷ current_as kind seen)

-- recovery goes on from no kind
abbrev pub no_recovery : ℕ → Bool
no_recovery kind = false

-- ---- a kind with a tail

infixr 5 ◌⨾◌
-- one relation after another
pub record ◌⨾◌ (does next : State → State → Type 0) (old new : State) : Type 0 where
  pub between : State
  pub does_so : does old between
  pub goes_on : next between new

-- the steps of the tokens ahead are put at the end
abbrev pub PutsAhead : (State → List Step) → State → State → Type 0
PutsAhead steps old new = Puts (steps old) old new

-- a tail runs, and leaves the open markers as they are
pub record RunsTail (does : State → State → Type 0) (old new : State) : Type 0 where
  pub keeps : Keeps old new
  pub runs : does old new
  pub open_markers : HasNotFailed new → open_markers_of new.draft.items ≡ open_markers_of old.draft.items

-- A node is started, the tokens of the kind's sequence are eaten, the tail runs once, the token that closes it is expected,
-- and the node is completed.
abbrev pub EatsWith : (State → State → Type 0) → ℕ → State → State → Type 0
EatsWith does kind old new =
    (Begins (started_mark old)
    ⨾ PutsAhead (λ s. element_steps (elements_of_kind kind) (ahead s 0))
    ⨾ RunsTail does
    ⨾ PutsAhead (λ s. closing_steps s.words (tail_of_kind kind) (ahead s 0))
    ⨾ Completes (started_mark old).id kind) old new
