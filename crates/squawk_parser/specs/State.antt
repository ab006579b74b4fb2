-- What contracts see of a parser.
use Rattle.std.specs.Prelude.{◌≡◌, ℕ, Bool, true, false, ◌+◌, ◌<◌, ◌≤◌, min, Option, Some, None, List, length, nat_lt, if◌then◌else◌, IsSome, Contains}
use Rattle.squawk_kinds.specs.Kinds.{EOF}
use Rattle.squawk_table.specs.ParserInput.{Entry, HasNoEndToken, kind_in, contextual_kind_in}
use Rattle.squawk_parser.specs.LookAhead.{seen_from}
use Rattle.squawk_parser.specs.Words.{Words, HasNoEnd}
use Rattle.squawk_output.specs.Draft.{Draft, nothing, OpenMarker, IsLogged, Open, Mark, Node, errors_of, plain}
use Rattle.squawk_output.specs.Steps.{eaten}
use Rattle.squawk_table.specs.Shape.{IsOver}
use Rattle.squawk_output.specs.OneRoot.{IsBalanced}
use Rattle.squawk_parser.specs.declared.parser.parse_error.ParseError.{ParseError}
use Rattle.squawk_parser.specs.declared.parser.parse_error.ParseError.TheVariants.{OutOfMemory, TooManyEvents, TooManyErrors}

pub record State : Type 0 where
  -- what is parsed
  pub input : List Entry
  -- the grammar's operators and the names of its kinds
  pub words : Words
  -- the number of its tokens that are eaten
  pub position : ℕ
  -- where its view of the input ends
  pub limit : ℕ
  -- what was recorded
  pub draft : Draft
  -- the limit of events
  pub max_events : ℕ
  -- the limit of errors
  pub max_errors : ℕ
  -- why the parser failed, if it did
  pub first_reason : Option ParseError

-- the parser has not failed
abbrev pub HasNotFailed : State → Type 0
HasNotFailed s = s.first_reason ≡ None

-- a parser at the beginning of an input
abbrev pub fresh : List Entry → Words → ℕ → ℕ → State
fresh input words max_events max_errors = record { input = input; words = words; position = 0; limit = length input; draft = nothing; max_events = max_events; max_errors = max_errors; first_reason = None }

-- the parser has done nothing yet
abbrev pub IsFresh : State → Type 0
IsFresh s = s ≡ fresh s.input s.words s.max_events s.max_errors

-- the kind of the token n after the current one; from the limit on it is EOF
abbrev pub kind_at : State → ℕ → ℕ
kind_at s n = if nat_lt (s.position + n) s.limit then kind_in s.input (s.position + n) else EOF

-- the same of its contextual kind
abbrev pub contextual_kind_at : State → ℕ → ℕ
contextual_kind_at s n = if nat_lt (s.position + n) s.limit then contextual_kind_in s.input (s.position + n) else EOF

-- the tokens before the limit, from the one n after the current one on
abbrev pub ahead : State → ℕ → List Entry
ahead s n = seen_from s.input s.limit (s.position + n)

-- the parser that sees at most n tokens
abbrev pub limited : State → ℕ → State
limited s n = record s { limit = min s.limit (s.position + n) }

-- the parser under another's limit
abbrev pub with_limit_of : State → State → State
with_limit_of s other = record s { limit = other.limit }

-- the invariant of a parser, failed or not
pub record IsSound (s : State) : Type 0 where
  pub position : s.position ≤ s.limit
  pub limit : s.limit ≤ length s.input
  pub words : HasNoEnd s.words
  pub no_end : HasNoEndToken s.input
  pub recorded : s.draft.recorded ≤ s.max_events
  pub logged : IsLogged s.draft
  pub errors : errors_of s.draft.items ≤ s.max_errors
  -- a parser that was refused an event has recorded as many as it may
  pub refused : s.first_reason ≡ Some TooManyEvents → s.draft.recorded ≡ s.max_events
  -- one that was refused an error has recorded as many errors as it may, and fewer events
  pub refused_error : s.first_reason ≡ Some TooManyErrors → (errors_of s.draft.items ≡ s.max_errors) × (s.draft.recorded < s.max_events)
  -- open markers aside
  pub balanced : IsBalanced (plain s.draft.items)
  pub over : IsOver (plain s.draft.items) s.input
  pub behind : eaten (plain s.draft.items) ≤ s.position
  -- the position is what the tokens of a parser that goes on have eaten
  pub exact : HasNotFailed s → eaten (plain s.draft.items) ≡ s.position

-- the input, the words and the limits stay, and so does a first reason to fail; no token is given back, and the parser is sound
pub record Keeps (old new : State) : Type 0 where
  pub input : new.input ≡ old.input
  pub words : new.words ≡ old.words
  pub limit : new.limit ≡ old.limit
  pub forward : old.position ≤ new.position
  pub max_events : new.max_events ≡ old.max_events
  pub max_errors : new.max_errors ≡ old.max_errors
  pub reason : IsSome old.first_reason → new.first_reason ≡ old.first_reason
  pub sound : IsSound new

-- Why a parser that has recorded so many events and errors, both within its limits, is refused one event more, which
-- may be an error. The limit of events is tested first, then that of errors, and memory last.
abbrev pub IsReason : ℕ → ℕ → ℕ → ℕ → Bool → ParseError → Type 0
IsReason max_events max_errors events errors wrong TooManyEvents = (events ≡ max_events) × (errors ≤ max_errors)
IsReason max_events max_errors events errors wrong TooManyErrors = (wrong ≡ true) × (errors ≡ max_errors) × (events < max_events)
IsReason max_events max_errors events errors wrong OutOfMemory = (events < max_events) × (errors ≤ max_errors) × (wrong ≡ true → errors < max_errors)

-- An event that is no error is recorded. A parser that hasn't failed afterwards hadn't failed before, it had room for
-- the event, and its draft is this one.
pub record Records (old new : State) (edited : Draft) : Type 0 where
  pub went : HasNotFailed new → HasNotFailed old
  pub room : HasNotFailed new → old.draft.recorded < old.max_events
  pub draft : HasNotFailed new → new.draft ≡ edited
  -- nothing is recorded by a parser that has failed
  pub stays : IsSome new.first_reason → new.draft ≡ old.draft
  -- one that fails has a reason
  pub refused : HasNotFailed old → (reason : ParseError) → new.first_reason ≡ Some reason
      → IsReason old.max_events old.max_errors old.draft.recorded (errors_of old.draft.items) false reason

-- the marker's item is in the draft, or the parser has failed
abbrev pub HasOpenMarker : State → Mark → Type 0
HasOpenMarker s m = HasNotFailed s → Contains s.draft.items (OpenMarker m.id m.made)

-- the opening of a completed marker is in the draft and hasn't been preceded, or the parser has failed
abbrev pub HasNode : State → Node → Type 0
HasNode s node = HasNotFailed s → Contains s.draft.items (Open node.id node.kind true)

-- The draft is edited without a recorded event, and nothing else changes. A parser that has failed stays as it is.
pub record Changes (old new : State) (edited : Draft) : Type 0 where
  pub goes : HasNotFailed old → new ≡ record old { draft = edited }
  pub stays : IsSome old.first_reason → new ≡ old
  pub sound : IsSound new
