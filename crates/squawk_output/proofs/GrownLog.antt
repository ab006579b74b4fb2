-- The links and the turns of a log of which one event is put in, changed or taken out.
use Rattle.std.proofs.Common.{◌≡◌, ◌≢◌, ℕ, zero, suc, ◌+◌, ◌-◌, ◌<◌, true, false, Some, None, [], ◌∷◌, ◌++◌, length, length-append, get_or, set, drop, refl, ap, arith}
use Rattle.squawk_output.specs.declared.event.Event.{Event}
use Rattle.squawk_output.specs.declared.event.Event.TheVariants.{Start}
use Rattle.std.proofs.lemmas.List.{length-set}
use Rattle.std.proofs.lemmas.List.Sums.{sum_by-append, sum_by-set}
use Rattle.squawk_output.specs.EventLog.{Lands, LinksLead, Log, linked_index, has_link, is_start, is_start_at, leads, reaches, turns_of}
use Rattle.squawk_output.proofs.Links.{LinksLead-set, Lands-still}
use Rattle.squawk_output.proofs.LogTurns.{one_if, turns_at}
use Rattle.squawk_output.proofs.Owners.{not_both}
use Rattle.squawk_output.proofs.Gathered.{reaches-itself}

-- ---- turns

pub turns_of-push : (log : Log) (event : Event) → turns_of (log ++ event ∷ []) ≡ turns_of log + turns_at event
turns_of-push log event =
    omega (arith, length-append log (event ∷ []), sum_by-append (λ x. one_if (is_start x)) log (event ∷ []), sum_by-append (λ x. one_if (has_link x)) log (event ∷ []))

pub turns_of-set : (log : Log) (index : ℕ) (event d : Event) → index < length log
    → turns_of (set log index event) + turns_at (get_or log index d) ≡ turns_of log + turns_at event
turns_of-set log index event d lt =
    omega (arith, length-set log index event, sum_by-set (λ x. one_if (is_start x)) log index event d lt, sum_by-set (λ x. one_if (has_link x)) log index event d lt)

-- ---- an event at the end

start-push : (log : Log) (event : Event) (index : ℕ) → is_start_at log index ≡ true → is_start_at (log ++ event ∷ []) index ≡ true
start-push [] event index h = absurd (cc)
start-push (x ∷ xs) event zero h = h
start-push (x ∷ xs) event (suc n) h = start-push xs event n h

pub LinksLead-push : (log : Log) (event : Event) → LinksLead log → Lands event [] → LinksLead (log ++ event ∷ [])
LinksLead-push [] event links lands = (lands, tt)
LinksLead-push (x ∷ xs) event links lands = (Lands-still x xs (xs ++ event ∷ []) (start-push xs event) links.0, LinksLead-push xs event links.1 lands)

-- ---- a Start at an event

pub LinksLead-linked : (log : Log) (index to d kind : ℕ) → LinksLead log → to ≡ index + suc d → is_start_at log to ≡ true
    → LinksLead (set log index (Start kind (Some (suc d))))
LinksLead-linked log index to d kind links far start =
    LinksLead-set log index kind (Some (suc d)) links (omega arith, start-drop log (suc index) (suc d - 1) to (omega (arith, far)) start)
  where
    start-drop : (log : Log) (k n to : ℕ) → to ≡ k + n → is_start_at log to ≡ true → is_start_at (drop k log) n ≡ true
    start-drop log zero n to is start = let same : to ≡ n = omega (arith, is) in rw same at start
    start-drop [] (suc k) n to is start = absurd (cc)
    start-drop (x ∷ xs) (suc k) n zero is start = absurd (omega (arith, is))
    start-drop (x ∷ xs) (suc k) n (suc to) is start = start-drop xs k n to (omega (arith, is)) start

-- ---- the last event taken out, where no link leads there

start-front : (log : Log) (event : Event) (index : ℕ) → index ≢ length log → is_start_at (log ++ event ∷ []) index ≡ true → is_start_at log index ≡ true
start-front [] event zero ne h = absurd (ne refl)
start-front [] event (suc n) ne h = absurd (cc)
start-front (x ∷ xs) event zero ne h = h
start-front (x ∷ xs) event (suc n) ne h = start-front xs event n (λ e. ne (ap suc e)) h

Lands-front : (x : Event) (log : Log) (event : Event) → Lands x (log ++ event ∷ []) → leads (linked_index x) (λ index. reaches (log ++ event ∷ []) index (length log)) ≡ false
    → Lands x log
Lands-front (Start kind None) log event lands away = tt
Lands-front (Start kind (Some distance)) log event lands away =
    let whole = log ++ event ∷ [] in
    let last : reaches whole (length log) (length log) ≡ true = reaches-itself whole (length log) (omega (arith, length-append log (event ∷ []))) in
    (lands.0, start-front log event (distance - 1) (λ e. not_both (reaches whole (distance - 1) (length log)) (rw e last) away) lands.1)
Lands-front other log event lands away = tt

pub LinksLead-front : (log : Log) (event : Event) → LinksLead (log ++ event ∷ []) → ((i : ℕ) → i < length log → reaches (log ++ event ∷ []) i (length log) ≡ false)
    → LinksLead log
LinksLead-front [] event links away = tt
LinksLead-front (x ∷ xs) event links away =
    (Lands-front x xs event links.0 (away 0 (omega arith)), LinksLead-front xs event links.1 (λ i lt. away (suc i) (omega arith)))
