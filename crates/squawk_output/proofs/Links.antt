-- Logs whose links lead to later Starts.
use Rattle.std.proofs.Common.{◌≡◌, ℕ, zero, suc, ◌-◌, ◌^◌, ◌<◌, true, Some, None, Option, [], ◌∷◌, length, get_or, set, drop, refl, ap, arith}
use Rattle.squawk_output.specs.declared.event.Event.{Event}
use Rattle.squawk_output.specs.declared.event.Event.TheVariants.{Start}
use Rattle.squawk_output.specs.EventLog.{Lands, LinksLead, Log, linked_index, is_start, is_start_at}
use Rattle.squawk_output.specs.Chain.{LandsAt, erased}
use Rattle.squawk_output.specs.StoredEvents.{LeadsOn}

pub is_start_at-within : (log : Log) (index : ℕ) → is_start_at log index ≡ true → index < length log
is_start_at-within [] index h = absurd (cc)
is_start_at-within (x ∷ xs) zero h = omega arith
is_start_at-within (x ∷ xs) (suc n) h = omega (arith, is_start_at-within xs n h)

pub is_start_at-event : (log : Log) (index : ℕ) (d : Event) → is_start_at log index ≡ true → is_start (get_or log index d) ≡ true
is_start_at-event [] index d h = absurd (cc)
is_start_at-event (x ∷ xs) zero d h = h
is_start_at-event (x ∷ xs) (suc n) d h = is_start_at-event xs n d h

-- a link lands where all Starts are Starts still
pub Lands-still : (event : Event) (xs ys : Log) → ((j : ℕ) → is_start_at xs j ≡ true → is_start_at ys j ≡ true) → Lands event xs → Lands event ys
Lands-still (Start kind None) xs ys still h = tt
Lands-still (Start kind (Some distance)) xs ys still h = (h.0, still (distance - 1) h.1)
Lands-still event xs ys still h = tt

pub Lands-linked_index : (event : Event) (log : Log) → Lands event log → LandsAt log (linked_index event)
Lands-linked_index (Start kind None) log h = tt
Lands-linked_index (Start kind (Some distance)) log h = h.1
Lands-linked_index event log h = tt

-- ---- a Start at an event

pub start-set : (log : Log) (index kind : ℕ) (link : Option ℕ) (j : ℕ) → is_start_at log j ≡ true → is_start_at (set log index (Start kind link)) j ≡ true
start-set [] index kind link j h = absurd (cc)
start-set (x ∷ xs) zero kind link zero h = refl
start-set (x ∷ xs) zero kind link (suc j) h = h
start-set (x ∷ xs) (suc n) kind link zero h = h
start-set (x ∷ xs) (suc n) kind link (suc j) h = start-set xs n kind link j h

pub LinksLead-set : (log : Log) (index kind : ℕ) (link : Option ℕ) → LinksLead log → Lands (Start kind link) (drop (suc index) log) → LinksLead (set log index (Start kind link))
LinksLead-set [] index kind link links lands = links
LinksLead-set (x ∷ xs) zero kind link links lands = (lands, links.1)
LinksLead-set (x ∷ xs) (suc n) kind link links lands =
    (Lands-still x xs (set xs n (Start kind link)) (start-set xs n kind link) links.0, LinksLead-set xs n kind link links.1 lands)

pub LinksLead-unlinked : (log : Log) (index kind : ℕ) → LinksLead log → LinksLead (set log index (Start kind None))
LinksLead-unlinked log index kind links = LinksLead-set log index kind None links tt

-- ---- a chain taken out

start-erased : (from : Option ℕ) (log : Log) (j : ℕ) → is_start_at log j ≡ true → is_start_at (erased from log) j ≡ true
start-erased from [] j h = absurd (cc)
start-erased None (x ∷ xs) j h = h
start-erased (Some zero) (x ∷ xs) zero h = refl
start-erased (Some zero) (x ∷ xs) (suc j) h = start-erased (linked_index x) xs j h
start-erased (Some (suc n)) (x ∷ xs) zero h = h
start-erased (Some (suc n)) (x ∷ xs) (suc j) h = start-erased (Some n) xs j h

pub LinksLead-erased : (from : Option ℕ) (log : Log) → LinksLead log → LinksLead (erased from log)
LinksLead-erased from [] h = h
LinksLead-erased None (x ∷ xs) h = h
LinksLead-erased (Some zero) (x ∷ xs) h = (tt, LinksLead-erased (linked_index x) xs h.1)
LinksLead-erased (Some (suc n)) (x ∷ xs) h = (Lands-still x xs (erased (Some n) xs) (start-erased (Some n) xs) h.0, LinksLead-erased (Some n) xs h.1)

-- ---- the events behind an index

pub LinksLead-drop : (log : Log) (index : ℕ) → LinksLead log → LinksLead (drop index log)
LinksLead-drop log zero h = h
LinksLead-drop [] (suc n) h = h
LinksLead-drop (x ∷ xs) (suc n) h = LinksLead-drop xs n h.1

pub LandsAt-linked_index : (log : Log) (index : ℕ) (d : Event) → index < length log → LinksLead log → LandsAt (drop (suc index) log) (linked_index (get_or log index d))
LandsAt-linked_index [] index d lt links = absurd (omega arith)
LandsAt-linked_index (x ∷ xs) zero d lt links = Lands-linked_index x xs links.0
LandsAt-linked_index (x ∷ xs) (suc n) d lt links = LandsAt-linked_index xs n d (omega arith) links.1

-- a link that leads within fewer than 2^32 events
pub LeadsOn-Lands : (event : Event) (behind left : Log) → left ≡ event ∷ behind → LinksLead left → length left < 2 ^ 32 → LeadsOn event
LeadsOn-Lands (Start kind (Some distance)) behind left is links few =
    let lands = (rw is at links).0 in
    (lands.0, omega (arith, is_start_at-within behind (distance - 1) lands.1, ap length is))
LeadsOn-Lands (Start kind None) behind left is links few = tt
LeadsOn-Lands other behind left is links few = tt
