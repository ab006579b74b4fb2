-- The draft of a log as it is kept, and what such a log keeps. Only the model of a log and its invariant cite these.
use Rattle.std.specs.Prelude.{◌≡◌, ℕ, ◌<◌, ◌≤◌, ◌^◌, Bool, true, false, List, length, map, slice_index_or}
use Rattle.squawk_output.specs.Chain.{tombstone}
use Rattle.squawk_output.specs.Draft.{Draft, errors_of}
use Rattle.squawk_output.specs.EventLog.{LinksLead, Log}
use Rattle.squawk_output.specs.LogDraft.{draft_items, draft_of}
use Rattle.squawk_output.specs.StoredEvents.{HaveEventTexts, is_open_event, log_in}
use Rattle.squawk_output.specs.declared.event.Event.TheVariants.{Finish}
use Rattle.squawk_output.specs.StoredEvents.{StoredEvent}

-- a log in which a parser records: each event has a mark, and one with its mark set is a Start without a kind and
-- without a link
pub record IsRecord (log : Log) (marks : List Bool) (recorded wrong : ℕ) : Type 0 where
  pub same_length : length marks ≡ length log
  pub links : LinksLead log
  pub open_markers : (index : ℕ) → index < length log → slice_index_or marks index false ≡ true → slice_index_or log index Finish ≡ tombstone
  pub few : length log ≤ recorded
  pub small : recorded < 2 ^ 32
  pub errors : wrong ≡ errors_of (draft_items log marks)

-- the draft of a log as it is kept, beside the texts of its errors
abbrev pub draft_in : List (List ℕ) → List StoredEvent → ℕ → Draft
draft_in texts events recorded = draft_of (log_in texts events) (map is_open_event events) recorded

-- such a log is one in which a parser records, and the text of every error is there
pub record IsKeptRecord (texts : List (List ℕ)) (events : List StoredEvent) (recorded : ℕ) : Type 0 where
  pub log : IsRecord (log_in texts events) (map is_open_event events) recorded (length texts)
  pub have_texts : HaveEventTexts texts events
