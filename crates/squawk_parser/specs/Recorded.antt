-- What calls record at the end of a draft, and at its markers.
use Rattle.std.specs.Prelude.{◌≡◌, ℕ, ◌+◌, ◌≤◌, true, Some, List, [], ◌∷◌, ◌++◌, length, sum_by, IsSome, if◌then◌else◌}
use Rattle.squawk_output.specs.Steps as steps
use Rattle.squawk_output.specs.Steps.{Step, is_enter, is_error, errors_in, eaten}
use Rattle.squawk_output.specs.Draft.{Draft, Item, Close, Error, Mark, Node, Open, Token, errors_of}
use Rattle.squawk_output.specs.Edits.{completed, preceded, started}
use Rattle.squawk_output.specs.declared.log.Made.TheVariants.{ByPrecede, ByStart}
use Rattle.squawk_parser.specs.State.{State, HasNotFailed, IsReason, IsSound, Keeps, Records}
use Rattle.squawk_parser.specs.declared.parser.parse_error.ParseError.{ParseError}

-- ---- steps at the end

-- the item of a step; the opening of a node has this id, which is the number of entries before it
abbrev pub item_for : ℕ → Step → Item
item_for id (steps.Token kind n) = Token kind n
item_for id (steps.Enter kind) = Open id kind true
item_for id steps.Exit = Close
item_for id (steps.Error text) = Error text

-- the items of steps, of which the first has this id
abbrev pub items_for : ℕ → List Step → List Item
items_for id [] = []
items_for id (step ∷ steps) = item_for id step ∷ items_for (id + 1) steps

-- the turns that a step takes in the pass over the events: two if it enters a node, else one
abbrev pub turns_of_step : Step → ℕ
turns_of_step step = if is_enter step then 2 else 1

abbrev pub turns_due_of : List Step → ℕ
turns_due_of steps = sum_by turns_of_step steps

-- A draft with these steps at its end. Each is one recorded event, and one entry.
abbrev pub with_steps : Draft → List Step → Draft
with_steps d steps = record {
  items = d.items ++ items_for d.entries steps;
  recorded = d.recorded + length steps;
  entries = d.entries + length steps;
  turns_due = d.turns_due + turns_due_of steps;
}

-- One of the steps was refused, after those before it were recorded.
pub record IsRefusedStep (old : State) (steps : List Step) (reason : ParseError) : Type 0 where
  pub front : List Step
  pub next : Step
  pub rest : List Step
  pub is : steps ≡ front ++ next ∷ rest
  pub why : IsReason old.max_events old.max_errors (old.draft.recorded + length front) (errors_of old.draft.items + errors_in front) (is_error next) reason

-- Steps are recorded, one after another, and their tokens are eaten: these also by a parser that has failed.
pub record Puts (steps : List Step) (old new : State) : Type 0 where
  pub keeps : Keeps old new
  pub position : new.position ≡ old.position + eaten steps
  -- the draft of a parser that hasn't failed afterwards has the steps at its end
  pub draft : HasNotFailed new → new.draft ≡ with_steps old.draft steps
  -- a parser that had failed records nothing
  pub stays : IsSome old.first_reason → new.draft ≡ old.draft
  -- failed or not, no more than the steps are recorded
  pub few : new.draft.recorded ≤ old.draft.recorded + length steps
  -- one that fails is refused one of the steps
  pub refused : HasNotFailed old → (reason : ParseError) → new.first_reason ≡ Some reason → IsRefusedStep old steps reason

-- ---- markers

-- the marker that `start` makes: its id is the number of entries
abbrev pub started_mark : State → Mark
started_mark s = record { id = s.draft.entries; made = ByStart }

-- the marker that `precede` makes
abbrev pub preceding_mark : State → Mark
preceding_mark s = record { id = s.draft.entries; made = ByPrecede }

-- A node is started. The invariant of a parser held before.
pub record Begins (m : Mark) (old new : State) : Type 0 where
  pub sound : IsSound old
  pub is : m ≡ started_mark old
  pub keeps : Keeps old new
  pub position : new.position ≡ old.position
  pub records : Records old new (started old.draft)

-- A node is completed: that of the marker with this id.
pub record Completes (id kind : ℕ) (old new : State) : Type 0 where
  pub keeps : Keeps old new
  pub position : new.position ≡ old.position
  pub records : Records old new (completed old.draft id kind)

-- A node is started in front of another.
pub record Precedes (node : Node) (m : Mark) (old new : State) : Type 0 where
  pub sound : IsSound old
  pub is : m ≡ preceding_mark old
  pub keeps : Keeps old new
  pub position : new.position ≡ old.position
  pub records : Records old new (preceded old.draft node.id)
