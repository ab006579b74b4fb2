-- Events of a list visited.
use Rattle.std.proofs.Common.{◌≡◌, ◌∙◌, ℕ, ◌+◌, ◌^◌, ◌<◌, ◌≤◌, ◌++◌, ◌∷◌, [], true, List, length, length-append, get_or, drop, refl, sym, ap, subst, arith}
use Rattle.std.proofs.Math.ListN.{drop_of_length-le}
use Rattle.std.proofs.lemmas.List.{append-nil}
use Rattle.squawk_output.specs.Steps.{Built, Walk}
use Rattle.squawk_output.specs.declared.event.Event.TheVariants as event
use Rattle.squawk_output.specs.Chain.{chain, entered_back, forward_parent, hop, node_kind}
use Rattle.squawk_output.specs.EventLog.{LinksLead, has_link, list_of, turns_of}
use Rattle.squawk_output.specs.Pass.{Follows, HasRoom, PassesList, Visits, VisitsTo}
use Rattle.squawk_output.specs.StoredEvents.{HaveEventTexts, StoredEvent, event_of, link_of, log_in}
use Rattle.squawk_output.proofs.Follows.{Follows-begins, ends-events, ends-kinds, linked-start}
use Rattle.squawk_output.proofs.ListLength.{length-list_of}
use Rattle.squawk_output.proofs.StoredEvents.{event_at, length-log_in, link_of-none}
use Rattle.squawk_output.proofs.Visits.{Visits-linked, kinds_fit, kinds_have_room}

module _ (texts : List (List ℕ)) (events : List StoredEvent) (index : ℕ) (within : index < length events) (x e : StoredEvent) (got : x ≡ get_or events index e) where
  pub log_within : index < length (log_in texts events)
  log_within = omega (arith, within, length-log_in texts events)

  -- what the log has there
  found : event_of texts x ≡ get_or (log_in texts events) index event.Finish
  found = event_at texts events index x e event.Finish within got

  -- where that has a link it is a Start
  pub started : (kind link : ℕ) → has_link (get_or (log_in texts events) index event.Finish) ≡ true → node_kind (event_of texts x) ≡ kind
      → forward_parent (event_of texts x) ≡ link_of link → get_or (log_in texts events) index event.Finish ≡ event.Start kind (link_of link)
  started kind link linked k l = linked-start _ linked ∙ (rw (sym found, k, l) refl)

  -- what the links from there have found at the end
  module _ (linked : has_link (get_or (log_in texts events) index event.Finish) ≡ true) (kind link : ℕ) (has_kind : node_kind (event_of texts x) ≡ kind)
      (has_distance : forward_parent (event_of texts x) ≡ link_of link) (links : LinksLead (log_in texts events)) (none pushed : List ℕ) (empty : none ≡ []) (push : pushed ≡ none ++ kind ∷ []) where
    start_here : get_or (log_in texts events) index event.Finish ≡ event.Start kind (link_of link)
    start_here = started kind link linked has_kind has_distance

    pub follows_here : Follows (log_in texts events) pushed (hop index (link_of link)) (log_in texts events) pushed (hop index (link_of link))
    follows_here = Follows-begins (log_in texts events) pushed index kind (link_of link) event.Finish start_here log_within links

    module _ (left : List StoredEvent) (kinds : List ℕ) (at last : ℕ) (ends : last ≤ 0)
        (follows : Follows (log_in texts events) pushed (hop index (link_of link)) (log_in texts left) kinds (hop at (link_of last))) (output counted : Built)
        (counts : counted ≡ record output { turns = output.turns + length kinds }) where
      all_kinds : kinds ≡ kind ∷ chain (hop index (link_of link)) (log_in texts events)
      all_kinds = ends-kinds _ _ _ _ _ at _ (link_of-none last ends) follows ∙ rw (push, empty) refl

      pub linked_fits : length events < 2 ^ 32 → output.turns < 2 ^ 35 → counted.turns + length kinds < 2 ^ 64
      linked_fits few turns =
          rw counts
          (kinds_fit (log_in texts events) output index kind (link_of link) event.Finish log_within links start_here kinds all_kinds (omega (arith, few, length-log_in texts events)) turns)

      pub linked_has_room : HasRoom (log_in texts events) output index → length counted.steps + length (entered_back kinds) ≤ counted.room
      linked_has_room room =
          rw counts (kinds_have_room (log_in texts events) output index kind (link_of link) event.Finish log_within links start_here kinds all_kinds room)

      pub linked_visits : (made : Built) → made ≡ record counted { steps = counted.steps ++ entered_back kinds; turns = counted.turns + length kinds }
          → Visits (log_in texts events) output (log_in texts left) made index
      linked_visits made enter =
          Visits-linked (log_in texts events) output index kind (link_of link) event.Finish log_within links start_here kinds all_kinds (log_in texts left) made
          (ends-events _ _ _ _ _ at _ (link_of-none last ends) follows) (rw counts at enter)

-- ---- the loop over a list

module _ (events : List StoredEvent) (texts : List (List ℕ)) (before : List StoredEvent) (output : Built) (kinds : List ℕ) (index : ℕ)
    (list : PassesList events texts before output kinds index) where
  pub passes-next : (after : List StoredEvent) (made : Built) (kinds' : List ℕ) → Visits (log_in output.texts before) output (log_in output.texts after) made index
      → HaveEventTexts output.texts after → kinds' ≡ [] → PassesList events texts after made kinds' (index + 1)
  passes-next after made kinds' visits have none =
      let visit : Visits (log_in texts before) output (log_in texts after) made index = subst (λ (ts : List (List ℕ)). Visits (log_in ts before) output (log_in ts after) made index) list.same_texts visits in
      record {
        passes = record {
          same_length = visit.same_length ∙ list.passes.same_length;
          links = visit.links;
          steps = visit.steps ∙ list.passes.steps;
          turns = visit.turns ∙ list.passes.turns;
          room = omega (arith, visit.room, list.passes.room);
          none = none;
        };
        have_texts = rw list.same_texts at have;
        same_texts = visit.texts ∙ list.same_texts;
      }

  -- events without links are visited up to another index
  pub passes-to : (slice : List StoredEvent) (made : Built) (index' : ℕ) → slice ≡ before → VisitsTo (log_in output.texts slice) output made index index'
      → PassesList events texts before made kinds index'
  passes-to slice made index' whole visits =
      let here : VisitsTo (log_in output.texts before) output made index index' = subst (λ (xs : List StoredEvent). VisitsTo (log_in output.texts xs) output made index index') whole visits in
      let visit : VisitsTo (log_in texts before) output made index index' = subst (λ (ts : List (List ℕ)). VisitsTo (log_in ts before) output made index index') list.same_texts here in
      record {
        passes = record {
          same_length = list.passes.same_length;
          links = list.passes.links;
          steps = visit.steps ∙ list.passes.steps;
          turns = visit.turns ∙ list.passes.turns;
          room = omega (arith, visit.room, list.passes.room);
          none = list.passes.none;
        };
        have_texts = list.have_texts;
        same_texts = visit.texts ∙ list.same_texts;
      }

  -- what is still to come has room
  pub passes-room : HasRoom (log_in output.texts before) output index
  passes-room =
      rw list.same_texts (
      omega (
        arith,
        ap length list.passes.steps,
        length-append output.steps (list_of (drop index (log_in texts before))),
        length-list_of (log_in texts events),
        list.passes.room,
      )
      )

  -- behind the last index
  module _ (ends : length before ≤ index) where
    nothing_left : drop index (log_in texts before) ≡ []
    nothing_left = drop_of_length-le (log_in texts before) (omega (arith, ends, length-log_in texts before))

    pub passes-end : (errors : List (List ℕ)) (recorded : ℕ) (made : Walk) → texts ≡ errors → made ≡ record { steps = output.steps; recorded = recorded; turns = output.turns }
        → made ≡ record { steps = list_of (log_in errors events); recorded = recorded; turns = turns_of (log_in errors events) }
    passes-end errors recorded made own is =
        let steps : output.steps ≡ list_of (log_in texts events) =
        sym (append-nil output.steps) ∙ (ap (λ ys. output.steps ++ list_of ys) (sym nothing_left) ∙ list.passes.steps) in
        let turns : output.turns ≡ turns_of (log_in texts events) = omega (arith, ap turns_of nothing_left, list.passes.turns) in
        rw (is, steps, turns, own) refl
