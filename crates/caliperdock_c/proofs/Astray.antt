-- Links, place by place.
use Rattle.std.proofs.Common.{◌≡◌, ◌∙◌, ℕ, zero, suc, ◌+◌, ◌-◌, ◌<◌, ◌≤◌, inl, inr, List, [], ◌∷◌, None, Some, add-one, ap, arith, drop, get_or, length, subst, sym, take}
use Rattle.std.proofs.lemmas.Bool.{cases_lt}
use Rattle.std.proofs.lemmas.List.{length-drop, length-map, take_all}
use Rattle.squawk_output.specs.EventLog.{Log, Lands, LinksLead}
use Rattle.squawk_output.specs.StoredEvents.{LeadsOn}
use Rattle.squawk_output.specs.declared.event.Event.{Event}
use Rattle.squawk_output.specs.declared.event.Event.TheVariants.{Start}
use Rattle.caliperdock_c.specs.Events.{event_or_finish, log_of}
use Rattle.caliperdock_c.specs.Links.{LandsAt}
use Rattle.caliperdock_c.specs.declared.event.CEvent.{CEvent}
use Rattle.caliperdock_c.proofs.Starts.{is_start_at_past}

LinksLead-each : (log : Log) → ((k : ℕ) → k < length log → LandsAt log k) → LinksLead log
LinksLead-each [] each = tt
LinksLead-each (event ∷ log) each = (each 0 (omega arith), LinksLead-each log (λ k lt. each (suc k) (omega arith)))

-- all links lead, where each does
pub all_land : (messages : List ℕ) (events : List CEvent) → ((k : ℕ) → k < length events → LandsAt (log_of messages events) k) → LinksLead (log_of messages events)
all_land messages events each = LinksLead-each (log_of messages events) (λ k lt. each k (omega (arith, length-map events (event_or_finish messages))))

-- the one at a place does, by the event there and those behind it
LandsAt-here : (messages : List ℕ) (events : List CEvent) (k : ℕ) (d : CEvent) → k < length events
    → Lands (event_or_finish messages (get_or events k d)) (log_of messages (drop (suc k) events)) → LandsAt (log_of messages events) k
LandsAt-here messages [] k d lt lands = tt
LandsAt-here messages (event ∷ events) zero d lt lands = lands
LandsAt-here messages (event ∷ events) (suc k) d lt lands = LandsAt-here messages events k d (omega arith) lands

Lands-here : (messages : List ℕ) (events : List CEvent) (k : ℕ) (d : CEvent) → k < length events
    → LandsAt (log_of messages events) k → Lands (event_or_finish messages (get_or events k d)) (log_of messages (drop (suc k) events))
Lands-here messages [] k d lt lands = absurd (omega arith)
Lands-here messages (event ∷ events) zero d lt lands = lands
Lands-here messages (event ∷ events) (suc k) d lt lands = Lands-here messages events k d (omega arith) lands

-- ---- by an event and a part of the events that the code reads

rest : (events : List CEvent) (k : ℕ) → take (length events - (k + 1)) (drop (k + 1) events) ≡ drop (suc k) events
rest events k = take_all (length events - (k + 1)) (drop (k + 1) events) (omega (arith, length-drop (k + 1) events)) ∙ ap (λ n. drop n events) (add-one k)

module _ (messages : List ℕ) (events : List CEvent) (k : ℕ) (d : CEvent) (lt : k < length events) where
  abbrev pub here : List CEvent → Type 0
  here behind = Lands (event_or_finish messages (get_or events k d)) (log_of messages behind)

  pub lands_at : here (take (length events - (k + 1)) (drop (k + 1) events)) → LandsAt (log_of messages events) k
  lands_at lands = LandsAt-here messages events k d lt (subst here (rest events k) lands)

  pub lands_here : LandsAt (log_of messages events) k → here (take (length events - (k + 1)) (drop (k + 1) events))
  lands_here lands = subst here (sym (rest events k)) (Lands-here messages events k d lt lands)

-- ---- what a log takes

pub leads_on : (event : Event) (messages : List ℕ) (behind : List CEvent) → Lands event (log_of messages behind) → length behind ≤ 2147483648 → LeadsOn event
leads_on (Start kind None) messages behind lands few = tt
leads_on (Start kind (Some distance)) messages behind lands few = (
  lands.0,
  elim (cases_lt (distance - 1) (length behind)) [
    | inl lt ↦ omega arith
    | inr le ↦ absurd (let past = is_start_at_past messages behind (distance - 1) le in cc)
  ],
)
leads_on other messages behind lands few = tt
