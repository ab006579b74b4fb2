-- Events as a log keeps them: a word, and an operand beside it.
use Rattle.std.specs.Prelude.{◌≡◌, ◌≢◌, ℕ, ◌-◌, ◌/◌, ◌==◌, ◌&&◌, Bool, true, false, not, if◌then◌else◌}
use Rattle.squawk_kinds.specs.Kinds.{TOMBSTONE}
use Rattle.squawk_output.specs.StoredEvents.{StoredEvent, OpenMarker, Start, Finish, Token, Error}
use Rattle.squawk_output.specs.StoredSteps.{IsWord, unpacked}
use Rattle.squawk_output.specs.declared.output.stored.StoredStep.{StoredStep}
use Rattle.squawk_output.specs.declared.output.stored.StoredStep.TheVariants as step

-- ---- events that give their step where they stand

-- the step is no error, and enters a node if it is an opening
abbrev pub IsPlainStep : StoredStep → Type 0
IsPlainStep (step.Enter kind) = kind ≢ TOMBSTONE
IsPlainStep (step.Error number) = ⊥
IsPlainStep other = Unit {0}

-- the word of such a step
pub record IsPlain (word : ℕ) : Type 0 where
  pub is_word : IsWord word
  pub plain : IsPlainStep (unpacked word)

-- the event that gives such a step
abbrev pub plain_event : StoredStep → StoredEvent
plain_event (step.Token kind n) = Token kind n
plain_event (step.Enter kind) = Start kind 0
plain_event step.Exit = Finish
plain_event (step.Error number) = Error number

-- ---- the event of a word and its operand

-- an event that gives no step: 65537 is the word of an open marker
abbrev pub aside_event : ℕ → StoredEvent
aside_event word = if word == 65537 then OpenMarker else Start (word / 65536) 0

-- an event that is no error
abbrev pub event_by : ℕ → ℕ → StoredEvent
event_by word operand =
    if operand == 0 then plain_event (unpacked word) else (if operand == 4294967295 then aside_event word else Start (word / 65536) operand)

-- the event of a word and an operand
abbrev pub event_in : ℕ → ℕ → StoredEvent
event_in word operand = if word == 0 then Error (operand - 1) else event_by word operand

-- only an event that gives its step where it stands has operand 0, and only one of TOMBSTONE the greatest operand
pub record IsPacked (word operand : ℕ) : Type 0 where
  pub plain : operand ≡ 0 → IsPlain word
  pub aside : word ≢ 0 → operand ≡ 4294967295 → word / 65536 ≡ TOMBSTONE

-- ---- which event it is

-- it gives its step where it stands
abbrev pub is_plain : StoredEvent → Bool
is_plain (Start kind link) = (link == 0) && not (kind == TOMBSTONE)
is_plain Finish = true
is_plain (Token kind n) = true
is_plain other = false

abbrev pub is_error : StoredEvent → Bool
is_error (Error number) = true
is_error other = false

-- it gives no step: an open marker, or the Start of no node
abbrev pub is_aside : StoredEvent → Bool
is_aside OpenMarker = true
is_aside (Start kind link) = (link == 0) && (kind == TOMBSTONE)
is_aside other = false

-- it is a Start
abbrev pub IsStarting : StoredEvent → Type 0
IsStarting OpenMarker = Unit {0}
IsStarting (Start kind link) = Unit {0}
IsStarting other = ⊥
