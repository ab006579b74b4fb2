-- Invariants: of the loop that stores events, and of those of the pass.
use Rattle.std.specs.Prelude.{◌≡◌, ℕ, ◌+◌, ◌≤◌, cond, false, Option, None, List, [], ◌++◌, length, drop}
use Rattle.squawk_output.specs.Steps.{Built}
use Rattle.squawk_output.specs.EventLog.{Log, LinksLead, has_link, is_start, linked_index, list_of, steps_of_event, turns_of}
use Rattle.squawk_output.specs.declared.event.Event.{Event}
use Rattle.squawk_output.specs.Chain.{LandsAt, chain, entered_back, erased}
use Rattle.squawk_output.specs.StoredEvents.{HaveEventTexts, log_in}
use Rattle.squawk_output.specs.StoredEvents.{StoredEvent}

-- the steps of the events from an index on have room
abbrev pub HasRoom : Log → Built → ℕ → Type 0
HasRoom log output index = length output.steps + length (list_of (drop index log)) ≤ output.room

-- A chain is followed from an index: what is left of it, and what it has found so far, are what it finds in all.
pub record Follows (log : Log) (kinds : List ℕ) (from : Option ℕ) (log' : Log) (kinds' : List ℕ) (next : Option ℕ) : Type 0 where
  pub same_length : length log' ≡ length log
  pub links : LinksLead log'
  pub lands : LandsAt log' next
  pub leaves : erased next log' ≡ erased from log
  pub finds : kinds' ++ chain next log' ≡ kinds ++ chain from log

-- Kinds are entered from the last to the first, a turn each: those that are left are still to be entered.
pub record Enters (kinds : List ℕ) (output : Built) (kinds' : List ℕ) (output' : Built) : Type 0 where
  pub turns : output'.turns + length kinds' ≡ output.turns + length kinds
  pub steps : output'.steps ++ entered_back kinds' ≡ output.steps ++ entered_back kinds
  pub room : output'.room ≡ output.room
  pub texts : output'.texts ≡ output.texts

-- An event is visited: what is left behind it is a log, whose list and turns are still to come.
pub record Visits (log : Log) (output : Built) (log' : Log) (output' : Built) (index : ℕ) : Type 0 where
  pub same_length : length log' ≡ length log
  pub links : LinksLead log'
  pub steps : output'.steps ++ list_of (drop (index + 1) log') ≡ output.steps ++ list_of (drop index log)
  pub turns : output'.turns + turns_of (drop (index + 1) log') ≡ output.turns + turns_of (drop index log)
  pub room : output'.room ≡ output.room
  pub texts : output'.texts ≡ output.texts

-- An event is visited that has no link: it gives its step where it stands.
pub record GivesPlain (event : Event) (output output' : Built) : Type 0 where
  pub plain : linked_index event ≡ None
  pub unlinked : has_link event ≡ false
  pub steps : output'.steps ≡ output.steps ++ steps_of_event event
  pub turns : output'.turns ≡ output.turns + 1 + cond (is_start event) 1 0
  pub room : output'.room ≡ output.room
  pub texts : output'.texts ≡ output.texts

-- The events from an index to another are visited, and none of them has a link.
pub record VisitsTo (log : Log) (output output' : Built) (index index' : ℕ) : Type 0 where
  pub forward : index ≤ index'
  pub within : index' ≤ length log
  pub steps : output'.steps ++ list_of (drop index' log) ≡ output.steps ++ list_of (drop index log)
  pub turns : output'.turns + turns_of (drop index' log) ≡ output.turns + turns_of (drop index log)
  pub room : output'.room ≡ output.room
  pub texts : output'.texts ≡ output.texts

-- The events before an index were visited.
pub record Passes (log : Log) (log' : Log) (output : Built) (kinds : List ℕ) (index : ℕ) : Type 0 where
  pub same_length : length log' ≡ length log
  pub links : LinksLead log'
  pub steps : output.steps ++ list_of (drop index log') ≡ list_of log
  pub turns : output.turns + turns_of (drop index log') ≡ turns_of log
  pub room : length log ≤ output.room
  pub none : kinds ≡ []

-- The same of a list of events, beside the texts of its errors.
pub record PassesList (events : List StoredEvent) (texts : List (List ℕ)) (events' : List StoredEvent) (output : Built) (kinds : List ℕ) (index : ℕ) : Type 0 where
  pub passes : Passes (log_in texts events) (log_in texts events') output kinds index
  pub have_texts : HaveEventTexts texts events'
  pub same_texts : output.texts ≡ texts

-- Events are put into a log one after another: these were, and these are left.
pub record Copies (log copied left : Log) (list : Log) : Type 0 where
  pub are : list ≡ copied
  pub links : LinksLead left
  pub whole : length copied + length left ≡ length log
