-- Walks over a tree, as iterators go along them. What they give in a tree is said by `steps` and `preorder_with_tokens`.
use Rattle.std.specs.Prelude.{ℕ, zero, suc, ◌+◌, ◌*◌, ◌<◌, ◌==◌, nat_lt, if◌then◌else◌, List, [], ◌∷◌, length, Bool, false, not, slice_range}
use Rattle.std.specs.Str.{chars}
use Rattle.std.specs.List.{slice_index_or, filter}
use Rattle.squawk_table.specs.declared.shortcuts.str_step.OwnedStep.{OwnedStep}
use Rattle.squawk_table.specs.declared.shortcuts.str_step.OwnedStep.TheVariants as step
use Rattle.squawk_tree.specs.Forest.{Forest}
use Rattle.syntax_tree.specs.Layout.{Laid}
use Rattle.syntax_tree.specs.Trees.{Event, Entered, Left, is_token_at}
use Rattle.syntax_tree.specs.Views.{element_in}
use Rattle.syntax_tree.specs.declared.element.Element.{Element}
use Rattle.syntax_tree.specs.declared.preorder.WalkEvent.{WalkEvent}
use Rattle.syntax_tree.specs.declared.preorder.WalkEvent.TheVariants as event
use Rattle.syntax_tree.specs.declared.tree.TreeError.{TreeError}

-- something of a tree that lies in lists
pub record InTree (A : Type 0) : Type 0 where
  pub laid : Laid
  pub it : A

abbrev pub in_tree : {A : Type 0} → Laid → A → InTree A
in_tree laid it = record { laid = laid; it = it }

-- ---- a walk by a rule

-- what a walk does at a place: it ends, or it gives something and goes to another place
pub data Turn (W S : Type 0) : Type 0 where
  Ends : Turn W S
  Gives : S → W → Turn W S

-- what a turn gives, before what comes from the place that it goes to
abbrev pub with_more : {W S : Type 0} → (W → List S) → Turn W S → List S
with_more more Ends = []
with_more more (Gives s w) = s ∷ more w

-- what a walk gives from a place on, at most so many
abbrev pub given_from : {W S : Type 0} → (W → Turn W S) → ℕ → W → List S
given_from rule zero w = []
given_from rule (suc n) w = with_more (given_from rule n) (rule w)

-- more than any walk over a tree gives
abbrev pub enough : Laid → ℕ
enough laid = 2 * length laid.elements + length laid.errors + 1

-- a place is that of an element which ends before another
abbrev pub ends_before : Laid → ℕ → ℕ → Bool
ends_before laid node at = if nat_lt node (length laid.elements) then (element_in laid node).behind == at else false

-- ---- the walk that gives steps

-- where it is: the place of the next element, that of the innermost open node, the index of the next error, and how many
-- steps were given
pub record Walking : Type 0 where
  pub at : ℕ
  pub node : ℕ
  pub error : ℕ
  pub given : ℕ

abbrev pub walking : ℕ → ℕ → ℕ → ℕ → Walking
walking at node error given = record { at = at; node = node; error = error; given = given }

-- the byte at which the element at a place begins, or that at which the text ends
abbrev pub start_in : Laid → ℕ → ℕ
start_in laid at = if nat_lt at (length laid.elements) then (element_in laid at).start else length laid.text

abbrev pub blank_error : TreeError
blank_error = record { msg = []; pos = 0; node = 0; next = 0; step = 0 }

-- the error at an index
abbrev pub error_in : Laid → ℕ → TreeError
error_in laid i = slice_index_or laid.errors i blank_error

-- the error at an index comes as the step of that number
abbrev pub has_error : Laid → ℕ → ℕ → Bool
has_error laid error given = if nat_lt error (length laid.errors) then (error_in laid error).step == given else false

-- A token comes with its text, and a node is entered.
abbrev pub element_turn : Laid → Walking → Element → Turn Walking OwnedStep
element_turn laid w e =
    if e.is_token then
    Gives (step.Token e.kind (chars (slice_range laid.text e.start (start_in laid e.behind))))
    (walking (w.at + 1) w.node w.error (w.given + 1))
    else Gives (step.Enter e.kind) (walking (w.at + 1) w.at w.error (w.given + 1))

-- An error comes as the step of its number, a node ends where the place behind it is reached, and else the next element comes.
abbrev pub step_turn : Laid → Walking → Turn Walking OwnedStep
step_turn laid w =
    if has_error laid w.error w.given then
    Gives (step.Error (error_in laid w.error).msg (error_in laid w.error).pos) (walking w.at w.node (w.error + 1) (w.given + 1))
    else (if ends_before laid w.node w.at then
    Gives step.Exit (walking w.at (element_in laid w.node).parent w.error (w.given + 1))
    else (if nat_lt w.at (length laid.elements) then element_turn laid w (element_in laid w.at)
    else Ends))

-- the steps that are left
abbrev pub steps_left : Laid → Walking → List OwnedStep
steps_left laid w = given_from (step_turn laid) (enough laid) w

-- The steps that were given and those that are left are fewer than enough.
abbrev pub IsOnWalk : Laid → Walking → Type 0
IsOnWalk laid w = w.given + length (steps_left laid w) < enough laid

-- ---- the walk over an element

-- where it is: the place of the next element, and that of the innermost one that was entered and not left
pub record Visiting : Type 0 where
  pub at : ℕ
  pub entered : ℕ

abbrev pub visiting : ℕ → ℕ → Visiting
visiting at entered = record { at = at; entered = entered }

-- An element is left where the place behind it is reached, and else the next one is entered. The walk ends with its root.
abbrev pub event_turn : Laid → ℕ → Visiting → Turn Visiting Event
event_turn laid root w =
    if ends_before laid w.entered w.at then
    Gives (Left w.entered)
    (if w.entered == root then visiting 4294967295 4294967295 else visiting w.at (element_in laid w.entered).parent)
    else (if nat_lt w.at (length laid.elements) then Gives (Entered w.at) (visiting (w.at + 1) w.at)
    else Ends)

-- the events that are left
abbrev pub events_left : Laid → ℕ → Visiting → List Event
events_left laid root w = given_from (event_turn laid root) (enough laid) w

-- They are fewer than enough.
abbrev pub IsVisiting : Laid → ℕ → Visiting → Type 0
IsVisiting laid root w = length (events_left laid root w) < enough laid

-- the place of the element that is entered or left
abbrev pub event_place : Event → ℕ
event_place (Entered at) = at
event_place (Left at) = at

-- of events, those of nodes
abbrev pub node_events : Forest → List Event → List Event
node_events tree list = filter (λ e. not (is_token_at tree (event_place e))) list

-- an event, with the tree that it is of
abbrev pub event_of : WalkEvent → InTree Event
event_of (event.Enter element) = in_tree element.tree.now (Entered element.at)
event_of (event.Leave element) = in_tree element.tree.now (Left element.at)

-- a node is entered or left
abbrev pub is_of_node : InTree Event → Bool
is_of_node e = not (element_in e.laid (event_place e.it)).is_token
