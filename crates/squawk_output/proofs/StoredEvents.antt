-- Events as a list keeps them.
use Rattle.std.proofs.Common.{◌≡◌, ◌∙◌, ℕ, zero, suc, ◌+◌, ◌<◌, ◌≤◌, true, Some, None, List, [], ◌∷◌, ◌++◌, length, length-append, get_or, refl, subst, sym, ap, arith}
use Rattle.std.proofs.Math.Dec.{eqb-suc-zero}
use Rattle.std.proofs.Math.ListN.{get_or-append}
use Rattle.std.proofs.Math.Seq.{get_or-append_seam}
use Rattle.std.proofs.lemmas.List.{get_or-map, length-map, map-append}
use Rattle.std.proofs.lemmas.List.Elements.{All-tail}
use Rattle.squawk_output.specs.declared.event.Event.{Event}
use Rattle.squawk_output.specs.declared.event.Event.TheVariants as event
use Rattle.squawk_output.specs.Chain.{LandsAt, forward_parent, hop, node_kind}
use Rattle.squawk_output.specs.EventLog.{is_start, is_start_at}
use Rattle.squawk_output.specs.PackedEvents.{IsStarting}
use Rattle.squawk_output.specs.StoredEvents.{Error, HasEventText, HaveEventTexts, OpenMarker, Start, StoredEvent, event_of, link_of, log_in}
use Rattle.squawk_output.proofs.Links.{is_start_at-event, is_start_at-within}

pub length-log_in : (texts : List (List ℕ)) (events : List StoredEvent) → length (log_in texts events) ≡ length events
length-log_in texts events = length-map events (event_of texts)

-- ---- an event at an index

pub event_at : (texts : List (List ℕ)) (events : List StoredEvent) (index : ℕ) (x e : StoredEvent) (d : Event) → index < length events → x ≡ get_or events index e
    → event_of texts x ≡ get_or (log_in texts events) index d
event_at texts events index x e d within is = ap (event_of texts) is ∙ sym (get_or-map (event_of texts) events index e d within)

-- ---- one event more

pub log_in-push : (texts : List (List ℕ)) (events : List StoredEvent) (x : StoredEvent) → log_in texts (events ++ x ∷ []) ≡ log_in texts events ++ event_of texts x ∷ []
log_in-push texts events x = map-append (event_of texts) events (x ∷ [])

pub HaveEventTexts-front : (texts : List (List ℕ)) (events : List StoredEvent) (x : StoredEvent) → HaveEventTexts texts (events ++ x ∷ []) → HaveEventTexts texts events
HaveEventTexts-front texts events x have k d lt =
    subst (HasEventText texts) (get_or-append events (x ∷ []) d k lt) (have k d (omega (arith, lt, length-append events (x ∷ []))))

-- ---- one text more

module _ (texts : List (List ℕ)) (text : List ℕ) where
  abbrev more : List (List ℕ)
  more = texts ++ text ∷ []

  event_of-more : (x : StoredEvent) → HasEventText texts x → event_of more x ≡ event_of texts x
  event_of-more (Error number) has = ap event.Error (get_or-append texts (text ∷ []) [] number has)
  event_of-more other has = refl

  log_in-more : (events : List StoredEvent) → HaveEventTexts texts events → log_in more events ≡ log_in texts events
  log_in-more [] have = refl
  log_in-more (x ∷ xs) have =
      ap (λ y. y ∷ log_in more xs) (event_of-more x (have 0 x (omega arith)))
      ∙ ap (λ ys. event_of texts x ∷ ys) (log_in-more xs (All-tail (HasEventText texts) x xs have))

  -- the error that has it
  pub log_in-error : (events : List StoredEvent) → HaveEventTexts texts events → log_in more (events ++ Error (length texts) ∷ []) ≡ log_in texts events ++ event.Error text ∷ []
  log_in-error events have =
      log_in-push more events (Error (length texts))
      ∙ (ap (λ y. log_in more events ++ event.Error y ∷ []) (get_or-append_seam texts text [] [])
      ∙ ap (λ ys. ys ++ event.Error text ∷ []) (log_in-more events have))

-- ---- as the code has it

-- a link that leads on
pub link_of-some : (link : ℕ) → 0 < link → link_of link ≡ Some link
link_of-some zero lt = absurd (omega arith)
link_of-some (suc n) lt = rw (eqb-suc-zero n) refl

-- a link of distance 0
pub link_of-none : (link : ℕ) → link ≤ 0 → link_of link ≡ None
link_of-none zero none = refl
link_of-none (suc n) none = absurd (omega arith)

-- a Start has its kind and its link
start-is : (x : Event) → is_start x ≡ true → x ≡ event.Start (node_kind x) (forward_parent x)
start-is (event.Start kind link) is = refl
start-is other is = absurd (cc)

starting-is : (texts : List (List ℕ)) (x : StoredEvent) → is_start (event_of texts x) ≡ true → IsStarting x
starting-is texts OpenMarker is = tt
starting-is texts (Start kind link) is = tt
starting-is texts other is = absurd (cc)

-- where a link lands, an event is found that is a Start
module _ (texts : List (List ℕ)) (events : List StoredEvent) (at next : ℕ) (more : 0 < next) (lands : LandsAt (log_in texts events) (hop at (link_of next))) where
  lands_there : is_start_at (log_in texts events) (at + next) ≡ true
  lands_there = rw (link_of-some next more) at lands

  pub link_within : at + next < length events
  link_within = omega (arith, is_start_at-within (log_in texts events) (at + next) lands_there, length-log_in texts events)

  -- and code sees that it is one
  pub landed_starting : (x e : StoredEvent) → x ≡ get_or events (at + next) e → IsStarting x
  landed_starting x e got =
      starting-is texts x
      (ap is_start (event_at texts events (at + next) x e event.Finish link_within got) ∙ is_start_at-event (log_in texts events) (at + next) event.Finish lands_there)

  pub landed : (kind link : ℕ) (x e : StoredEvent) → x ≡ get_or events (at + next) e → node_kind (event_of texts x) ≡ kind
      → forward_parent (event_of texts x) ≡ link_of link → get_or (log_in texts events) (at + next) event.Finish ≡ event.Start kind (link_of link)
  landed kind link x e got k l =
      let found = event_at texts events (at + next) x e event.Finish link_within got in
      let start = ap is_start found ∙ is_start_at-event (log_in texts events) (at + next) event.Finish lands_there in
      sym found ∙ (start-is (event_of texts x) start ∙ (ap (λ y. event.Start y (forward_parent (event_of texts x))) k ∙ ap (event.Start kind) l))
