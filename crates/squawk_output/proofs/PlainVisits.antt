-- Events without links visited, one after another.
use Rattle.std.proofs.Common.{◌≡◌, ◌∙◌, ℕ, ◌+◌, ◌<◌, ◌≤◌, ◌++◌, List, append_assoc, ap, arith, drop, get_or, length, length-append, refl, subst, sym}
use Rattle.squawk_output.specs.EventLog.{Log, list_of, steps_of_event, turns_of}
use Rattle.squawk_output.specs.Pass.{GivesPlain, HasRoom, VisitsTo}
use Rattle.squawk_output.specs.Steps.{Built}
use Rattle.squawk_output.specs.StoredEvents.{event_of, log_in}
use Rattle.squawk_output.specs.declared.event.Event.{Event}
use Rattle.squawk_output.specs.declared.event.Event.TheVariants as event
use Rattle.squawk_output.specs.StoredEvents.{StoredEvent}
use Rattle.squawk_output.proofs.LogTurns.{one_if, turns_of-cons}
use Rattle.squawk_output.proofs.StoredEvents.{event_at}
use Rattle.squawk_output.proofs.StoredVisits.{log_within}
use Rattle.squawk_output.proofs.Visits.{begins-with, list-plain, steps-first}

pub visits_one : (log : Log) (first output made : Built) (from at : ℕ) → VisitsTo log first output from at → (event d : Event) → at < length log → event ≡ get_or log at d
    → GivesPlain event output made → VisitsTo log first made from (at + 1)
visits_one log first output made from at so_far event d within got gives =
    let begins = begins-with log at event d event within got refl in record {
      forward = omega (arith, so_far.forward);
      within = omega (arith, within);
      steps =
          rw gives.steps
          (append_assoc output.steps (steps_of_event event) (list_of (drop (at + 1) log))
          ∙ (ap (λ ys. output.steps ++ ys) (sym (list-plain log at event begins gives.plain)) ∙ so_far.steps));
      turns =
          omega (
            arith,
            ap turns_of begins,
            turns_of-cons event (drop (at + 1) log),
            ap one_if gives.unlinked,
            gives.turns,
            so_far.turns,
          );
      room = gives.room ∙ so_far.room;
      texts = gives.texts ∙ so_far.texts;
    }

-- the next event has room
pub next_has_room : (events : List StoredEvent) (first output : Built) (from at : ℕ) → VisitsTo (log_in first.texts events) first output from at → HasRoom (log_in first.texts events) first from
    → (x e : StoredEvent) → at < length events → x ≡ get_or events at e → length output.steps + length (steps_of_event (event_of output.texts x)) ≤ output.room
next_has_room events first output from at so_far room x e within got =
    let log = log_in first.texts events in
    let here = event_of first.texts x in
    let begins = begins-with log at here event.Finish here (log_within first.texts events at within x e got) (event_at first.texts events at x e event.Finish within got) refl in
    rw so_far.texts (
    omega (
      arith,
      room,
      so_far.room,
      ap length so_far.steps,
      length-append output.steps (list_of (drop at log)),
      length-append first.steps (list_of (drop from log)),
      steps-first log at here begins,
    )
    )

-- as the code has it
pub visits_next : (events : List StoredEvent) (first output made : Built) (from at : ℕ) → VisitsTo (log_in first.texts events) first output from at
    → (x e : StoredEvent) → at < length events → x ≡ get_or events at e → GivesPlain (event_of output.texts x) output made → VisitsTo (log_in first.texts events) first made from (at + 1)
visits_next events first output made from at so_far x e within got gives =
    visits_one (log_in first.texts events) first output made from at so_far (event_of first.texts x) event.Finish (log_within first.texts events at within x e got)
    (event_at first.texts events at x e event.Finish within got) (subst (λ ts. GivesPlain (event_of ts x) output made) so_far.texts gives)
