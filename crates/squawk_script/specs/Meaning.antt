-- What a list of calls does over an input.
use Rattle.std.specs.Prelude.{ℕ, ◌+◌, List, [], ◌∷◌, ◌++◌, fold, length, slice_index_or, slice_set, if◌then◌else◌}
use Rattle.squawk_kinds.specs.TokenSets.{has}
use Rattle.squawk_table.specs.ParserInput.{Entry, kind_in}
use Rattle.squawk_output.specs.Steps as steps
use Rattle.squawk_output.specs.Steps.{Step, eaten}
use Rattle.squawk_parser.specs.Composites.{stands_at}
use Rattle.squawk_output.specs.Draft.{Draft, Node, nothing}
use Rattle.squawk_parser.specs.Eaten.{current_as, eat_steps, expect_steps, no_recovery, recovery_steps}
use Rattle.squawk_output.specs.Edits.{abandoned, completed, extended, preceded, started}
use Rattle.squawk_parser.specs.LookAhead.{seen_from}
use Rattle.squawk_parser.specs.Recorded.{with_steps}
use Rattle.squawk_parser.specs.Words.{Words}
use Rattle.squawk_script.specs.declared.call.Call.{Call}
use Rattle.squawk_script.specs.declared.call.Call.TheVariants.{Start, Complete, Abandon, Precede, ExtendTo, Eat, BumpAny, BumpRemap, Expect, Error, ErrRecover, ErrAndBump}

-- what a script is: its calls, and its words
pub record Meaning : Type 0 where
  pub calls : List Call
  pub words : Words

-- the state of a run: what it recorded, the number of input tokens that it has eaten, and the markers that it made, each as its node:
-- the id of its open marker and of its opening, and its kind, which counts from its completion on
pub record Run : Type 0 where
  pub draft : Draft
  pub position : ℕ
  pub markers : List Node

-- before the first call
abbrev pub begin : Run
begin = record { draft = nothing; position = 0; markers = [] }

abbrev pub marker_at : Run → ℕ → Node
marker_at run m = slice_index_or run.markers m (record { id = 0; kind = 0 })

-- a marker that is made; its id is the number of entries
abbrev pub new_marker : Run → Node
new_marker run = record { id = run.draft.entries; kind = 0 }

-- the tokens from a run's position on
abbrev pub seen : List Entry → Run → List Entry
seen input run = seen_from input (length input) run.position

-- the steps that a call that names no marker puts at the end of the draft, where these tokens are seen
abbrev pub call_steps : Words → List Entry → Call → List Step
call_steps words seen (Eat kind) = if stands_at (has words.operator_first) kind seen then eat_steps words kind seen else []
call_steps words seen BumpAny = current_as (kind_in seen 0) seen
call_steps words seen (BumpRemap kind) = current_as kind seen
call_steps words seen (Expect kind) = expect_steps words kind seen
call_steps words seen (Error message) = steps.Error message ∷ []
call_steps words seen (ErrRecover message recovery) = recovery_steps message (has recovery) seen
call_steps words seen (ErrAndBump message) = recovery_steps message no_recovery seen
call_steps words seen call = []

-- a run whose call puts these steps at the end
abbrev pub with_call : Run → List Step → Run
with_call run steps = record run { draft = with_steps run.draft steps; position = run.position + eaten steps }

-- the run after one call
abbrev pub stepped : Words → List Entry → Run → Call → Run
stepped words input run Start = record run { draft = started run.draft; markers = run.markers ++ new_marker run ∷ [] }
stepped words input run (Complete m kind) =
    let id = (marker_at run m).id in
    record run { draft = completed run.draft id kind; markers = slice_set run.markers m (record { id = id; kind = kind }) }
stepped words input run (Abandon m) = record run { draft = abandoned run.draft (marker_at run m).id }
stepped words input run (Precede n) = record run { draft = preceded run.draft (marker_at run n).id; markers = run.markers ++ new_marker run ∷ [] }
stepped words input run (ExtendTo n m) = record run { draft = extended run.draft (marker_at run n) (marker_at run m).id }
stepped words input run call = with_call run (call_steps words (seen input run) call)

-- the run after the calls, one after another
abbrev pub run_of : Words → List Entry → List Call → Run
run_of words input calls = fold (stepped words input) begin calls
