-- The events that the calls of a run record, and which of them is past a limit.
use Rattle.std.specs.Prelude.{◌≡◌, ◌≢◌, ℕ, Bool, false, Option, Some, None, List, [], ◌∷◌, ◌++◌, count_by, length, map, nat_lt, take, if◌then◌else◌}
use Rattle.squawk_table.specs.ParserInput.{Entry}
use Rattle.squawk_output.specs.Steps.{is_error}
use Rattle.squawk_output.specs.Draft.{Draft}
use Rattle.squawk_parser.specs.State.{State}
use Rattle.squawk_parser.specs.Words.{Words}
use Rattle.squawk_parser.specs.declared.parser.parse_error.ParseError.{ParseError}
use Rattle.squawk_parser.specs.declared.parser.parse_error.ParseError.TheVariants.{OutOfMemory, TooManyEvents, TooManyErrors}
use Rattle.squawk_script.specs.Meaning.{Meaning, Run, begin, call_steps, run_of, seen, stepped}
use Rattle.squawk_script.specs.declared.call.Call.{Call}
use Rattle.squawk_script.specs.declared.call.Call.TheVariants.{Start, Complete, Precede}

-- the events that a call records where these tokens are seen, each as whether it is an error: one for a marker that is started, completed
-- or made in front of a node, none for one that is abandoned or that a node is extended to, and one for each step that is put at the end
abbrev pub events_made : Words → List Entry → Call → List Bool
events_made words seen Start = false ∷ []
events_made words seen (Complete marker kind) = false ∷ []
events_made words seen (Precede node) = false ∷ []
events_made words seen call = map is_error (call_steps words seen call)

-- those that the calls record from a run on, in their order
abbrev pub events_from : Words → List Entry → Run → List Call → List Bool
events_from words input run [] = []
events_from words input run (call ∷ calls) = events_made words (seen input run) call ++ events_from words input (stepped words input run call) calls

-- and from the beginning on
abbrev pub events_of : Words → List Entry → List Call → List Bool
events_of words input calls = events_from words input begin calls

-- the number of errors among the events
abbrev pub errors_among : List Bool → ℕ
errors_among events = count_by (λ event. event) events

-- Why the first event past a limit of events, or of errors among them, is refused, if there is one. Counted from 0, that is error
-- number `max_errors`, if it is before event number `max_events`, or else that event.
abbrev pub refusal : ℕ → ℕ → List Bool → Option ParseError
refusal max_events max_errors events =
    if nat_lt max_errors (errors_among (take max_events events)) then Some TooManyErrors else
    if nat_lt max_events (length events) then Some TooManyEvents else None

-- A parser that makes the calls and fails, and not for want of memory, fails for the reason for which the limits that it began with refuse
-- one of their events.
abbrev pub FailsByLimits : Meaning → State → State → Type 0
FailsByLimits script begun left =
    (reason : ParseError) → left.first_reason ≡ Some reason → reason ≢ OutOfMemory
    → refusal begun.max_events begun.max_errors (events_of script.words begun.input script.calls) ≡ Some reason

-- The draft is the one that the run of the calls makes.
abbrev pub IsRunOf : Meaning → List Entry → Draft → Type 0
IsRunOf script input left = left ≡ (run_of script.words input script.calls).draft
