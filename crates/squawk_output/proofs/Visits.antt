-- One event visited.
use Rattle.std.proofs.Common.{◌≡◌, ◌∙◌, ℕ, zero, suc, ◌+◌, ◌*◌, ◌^◌, ◌<◌, ◌≤◌, Some, None, Option, List, [], ◌∷◌, ◌++◌, length, get_or, drop, refl, sym, ap, arith, append_assoc, add-one, length-append}
use Rattle.std.proofs.Math.Seq.{drop-cons}
use Rattle.squawk_output.specs.Steps.{Built}
use Rattle.squawk_output.specs.declared.event.Event.{Event}
use Rattle.squawk_output.specs.declared.event.Event.TheVariants.{Start}
use Rattle.squawk_output.specs.EventLog.{LinksLead, Log, linked_index, entering, has_link, list_of, steps_of_event, turns_of}
use Rattle.squawk_output.specs.Chain.{LandsAt, chain, entered_back, erased, hop, tombstone}
use Rattle.squawk_output.specs.Pass.{HasRoom, Visits}
use Rattle.squawk_output.proofs.Erased.{length-erased}
use Rattle.squawk_output.proofs.Follows.{chain-hop, drop-hop, erased-None, length-chain}
use Rattle.squawk_output.proofs.Links.{Lands-linked_index, LandsAt-linked_index, LinksLead-drop, LinksLead-erased}
use Rattle.squawk_output.proofs.LogTurns.{one_if, turns_of-cons}
use Rattle.squawk_output.proofs.Peel.{entered, list_of-cons}

-- ---- a chain whose links lead to Starts

-- what it enters are the kinds that it finds, from the last to the first
entered-chain : (from : Option ℕ) (log : Log) → LinksLead log → LandsAt log from → entered from log ≡ entered_back (chain from log)
entered-chain from [] links lands = refl
entered-chain None (x ∷ xs) links lands = refl
entered-chain (Some zero) (Start kind link ∷ xs) links lands =
    ap (λ ys. ys ++ entering kind) (entered-chain (linked_index (Start kind link)) xs links.1 (Lands-linked_index (Start kind link) xs links.0))
entered-chain (Some zero) (x ∷ xs) links lands = absurd (cc)
entered-chain (Some (suc n)) (x ∷ xs) links lands = entered-chain (Some n) xs links.1 lands

-- the turns of a link
abbrev link_turns : Option ℕ → ℕ
link_turns None = 0
link_turns (Some n) = 2

link_turns-linked_index : (kind : ℕ) (link : Option ℕ) → link_turns (linked_index (Start kind link)) ≡ 2 * one_if (has_link (Start kind link))
link_turns-linked_index kind None = refl
link_turns-linked_index kind (Some distance) = refl

-- the turns of a log are two for each event of the chain, and those of the log without it
turns-chain : (from : Option ℕ) (log : Log) → LinksLead log → LandsAt log from
    → turns_of log + link_turns from ≡ 2 * length (chain from log) + turns_of (erased from log)
turns-chain None [] links lands = refl
turns-chain (Some n) [] links lands = absurd (cc)
turns-chain None (x ∷ xs) links lands = omega arith
turns-chain (Some zero) (Start kind link ∷ xs) links lands =
    let on = linked_index (Start kind link) in
    omega (
      arith,
      turns_of-cons (Start kind link) xs,
      turns_of-cons tombstone (erased on xs),
      turns-chain on xs links.1 (Lands-linked_index (Start kind link) xs links.0),
      link_turns-linked_index kind link,
    )
turns-chain (Some zero) (x ∷ xs) links lands = absurd (cc)
turns-chain (Some (suc n)) (x ∷ xs) links lands =
    omega (arith, turns_of-cons x xs, turns_of-cons x (erased (Some n) xs), turns-chain (Some n) xs links.1 lands)

-- ---- the log from an index on

drop-erased : (log : Log) (index : ℕ) (d : Event) → index < length log
    → drop (suc index) (erased (Some index) log) ≡ erased (linked_index (get_or log index d)) (drop (suc index) log)
drop-erased [] index d lt = absurd (omega arith)
drop-erased (x ∷ xs) zero d lt = refl
drop-erased (x ∷ xs) (suc n) d lt = drop-erased xs n d (omega arith)

chain-drop : (log : Log) (index : ℕ) → index < length log → chain (Some index) log ≡ chain (Some 0) (drop index log)
chain-drop [] index lt = absurd (omega arith)
chain-drop (x ∷ xs) zero lt = refl
chain-drop (x ∷ xs) (suc n) lt = chain-drop xs n (omega arith)

module _ (log : Log) (index : ℕ) (d : Event) (within : index < length log) (links : LinksLead log) (kind : ℕ) (link : Option ℕ) (is : get_or log index d ≡ Start kind link) where
  abbrev on : Option ℕ
  on = linked_index (Start kind link)

  abbrev behind : Log
  behind = drop (suc index) log

  abbrev left : Log
  left = drop (suc index) (erased (Some index) log)

  lands : LandsAt behind on
  lands = rw is at (LandsAt-linked_index log index d within links)

  begins : drop index log ≡ Start kind link ∷ behind
  begins = drop-cons log index d within ∙ ap (λ x. x ∷ behind) is

  chain-here : chain (Some index) log ≡ kind ∷ chain on behind
  chain-here = chain-drop log index within ∙ ap (chain (Some 0)) begins

  left-here : left ≡ erased on behind
  left-here = drop-erased log index d within ∙ ap (λ x. erased (linked_index x) behind) is

  list-here : list_of (drop index log) ≡ entered_back (chain (Some index) log) ++ list_of left
  list-here =
      ap list_of begins
      ∙ (list_of-cons (Start kind link) behind
      ∙ (ap (λ ys. (ys ++ entering kind) ++ list_of (erased on behind)) (entered-chain on behind (LinksLead-drop log (suc index) links) lands) ∙ rw (chain-here, left-here) refl))

  turns-here : turns_of (drop index log) ≡ 2 * length (chain (Some index) log) + turns_of left
  turns-here =
      omega (
        arith,
        ap turns_of begins,
        turns_of-cons (Start kind link) behind,
        turns-chain on behind (LinksLead-drop log (suc index) links) lands,
        ap length chain-here,
        ap turns_of left-here,
        link_turns-linked_index kind link,
      )

-- ---- visits

entered-None : (log : Log) → entered None log ≡ []
entered-None [] = refl
entered-None (x ∷ xs) = refl

-- what the code finds at an index begins the rest of the log
pub begins-with : (log : Log) (index : ℕ) (x d event : Event) → index < length log → x ≡ get_or log index d → x ≡ event
    → drop index log ≡ event ∷ drop (index + 1) log
begins-with log index x d event within got is = rw add-one (drop-cons log index d within ∙ ap (λ y. y ∷ drop (suc index) log) (sym got ∙ is))

-- an event without a link begins the list of the log with its step
pub list-plain : (log : Log) (index : ℕ) (event : Event) → drop index log ≡ event ∷ drop (index + 1) log → linked_index event ≡ None
    → list_of (drop index log) ≡ steps_of_event event ++ list_of (drop (index + 1) log)
list-plain log index event begins alone =
    let behind = drop (index + 1) log in
    ap list_of begins ∙ (list_of-cons event behind ∙ rw (alone, entered-None behind, erased-None behind) refl)

-- the step of an event is one of those of the rest of the log
pub steps-first : (log : Log) (index : ℕ) (event : Event) → drop index log ≡ event ∷ drop (index + 1) log → length (steps_of_event event) ≤ length (list_of (drop index log))
steps-first log index event begins =
    let behind = drop (index + 1) log in
    omega (
      arith,
      ap length (ap list_of begins ∙ list_of-cons event behind),
      length-append (entered (linked_index event) behind ++ steps_of_event event) (list_of (erased (linked_index event) behind)),
      length-append (entered (linked_index event) behind) (steps_of_event event),
    )

-- one kind more is found, and one turn more is counted
pub counted-next : (output made turned : Built) (kinds more : List ℕ) (kind : ℕ) → made ≡ record output { turns = output.turns + length kinds }
    → turned ≡ record made { turns = made.turns + 1 } → more ≡ kinds ++ kind ∷ [] → turned ≡ record output { turns = output.turns + length more }
counted-next output made turned kinds more kind counted turn pushed =
    rw (turn, counted, pushed) (ap (λ n. record output { turns = n }) (omega (arith, length-append kinds (kind ∷ []))))

-- a Start with a link: its kind and those of the chain behind it are entered
module _ (log : Log) (output : Built) (index kind : ℕ) (link : Option ℕ) (d : Event) (within : index < length log) (links : LinksLead log) (whole : get_or log index d ≡ Start kind link)
    (kinds : List ℕ) (found : kinds ≡ kind ∷ chain (hop index link) log) where
  chained : kinds ≡ chain (Some index) log
  chained = found ∙ sym (chain-hop log index kind link d whole within links)

  pub kinds_fit : length log < 2 ^ 32 → output.turns < 2 ^ 35 → output.turns + length kinds + length kinds < 2 ^ 64
  kinds_fit few turns = omega (arith, ap length found, length-chain (hop index link) log)

  pub kinds_have_room : HasRoom log output index → length output.steps + length (entered_back kinds) ≤ output.room
  kinds_have_room room =
      let here = list-here log index d within links kind link whole in
      omega (
        arith,
        room,
        ap length here,
        ap (λ ys. length (entered_back ys)) chained,
        length-append (entered_back (chain (Some index) log)) (list_of (drop (suc index) (erased (Some index) log))),
      )

  pub Visits-linked : (after : Log) (made : Built) → after ≡ erased (hop index link) log
      → made ≡ record output { steps = output.steps ++ entered_back kinds; turns = output.turns + length kinds + length kinds } → Visits log output after made index
  Visits-linked after made left enter =
      let rest : drop (index + 1) after ≡ drop (suc index) (erased (Some index) log) = rw (add-one, left) (drop-hop log index kind link d whole within links) in
      record {
        same_length = ap length left ∙ length-erased (hop index link) log;
        links = rw left (LinksLead-erased (hop index link) log links);
        steps =
            rw (enter, rest, chained)
            (append_assoc output.steps (entered_back (chain (Some index) log)) (list_of (drop (suc index) (erased (Some index) log)))
            ∙ ap (λ ys. output.steps ++ ys) (sym (list-here log index d within links kind link whole)));
        turns = omega (arith, turns-here log index d within links kind link whole, ap turns_of rest, ap length chained, ap (λ w. w.turns) enter);
        room = ap (λ w. w.room) enter;
        texts = ap (λ w. w.texts) enter;
      }
