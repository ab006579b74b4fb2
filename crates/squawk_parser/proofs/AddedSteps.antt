-- What grammars may rely on: steps that parts add one after another, and nodes around them and in front of them.
use Rattle.std.proofs.Common.{◌≡◌, ◌∙◌, ℕ, ◌<◌, false, true, List, [], ◌∷◌, ◌++◌, arith, ap, sym, refl, subst, append_assoc}
use Rattle.std.specs.Prelude.{Contains, count_by}
use Rattle.std.proofs.lemmas.List.Elements.{All-nil, All-cons, All-append, Contains-append_left}
use Rattle.squawk_output.specs.Steps.{Step, Enter, Exit}
use Rattle.squawk_output.specs.Draft.{Draft, Item, Mark, Node, OpenMarker, Open, Close, HasNoOpenMarker, IsAboveIds, ids, is_open_marker, plain}
use Rattle.squawk_output.specs.declared.log.Made.{Made}
use Rattle.squawk_output.specs.declared.log.Made.TheVariants.{ByPrecede, ByStart}
use Rattle.squawk_output.specs.Edits.{completed, filled, is_opening_of, preceded_item, replaced}
use Rattle.squawk_output.proofs.Groups.{itself}
use Rattle.squawk_parser.specs.Composed.{Adds, AddsNode}
use Rattle.squawk_parser.specs.Eaten.{node}
use Rattle.squawk_parser.specs.Recorded.{Begins, Completes, Precedes, Puts, items_for}
use Rattle.squawk_parser.specs.State.{State, HasNotFailed, HasOpenMarker, HasNode, IsFresh}
use Rattle.squawk_parser.proofs.RecordedItems.{plain-append, eaten-append, filled-at, ids-append}
use Rattle.squawk_parser.proofs.RecordedSteps.{Keeps-then, went}
use Rattle.squawk_parser.proofs.Splits.{All-front, Contains-behind, count_by-append, count_by-passes, openings-once, replaced-at}
use Rattle.squawk_parser.proofs.StepsAtEnd.{closed-items_for, plain-items_for}

abbrev no_open_marker : Item → Type 0
no_open_marker item = is_open_marker item ≡ false

-- ---- steps

pub Adds-puts : {a b : State} {xs : List Step} → Puts xs a b → Adds xs a b
Adds-puts {a} {b} {xs} p = record {
  keeps = p.keeps;
  position = p.position;
  draft = λ goes. record {
    made = items_for a.draft.entries xs;
    items = ap (λ d. d.items) (p.draft goes);
    steps_made = plain-items_for a.draft.entries xs;
    closed = closed-items_for a.draft.entries xs;
  };
}

pub Adds-node : {a b : State} {xs : List Step} {n : Node} → AddsNode xs n a b → Adds xs a b
Adds-node {a} {b} {xs} {n} p = record {
  keeps = p.keeps;
  position = p.position;
  draft = λ goes.
      let put = p.draft goes in
      record {
        made = Open n.id n.kind true ∷ put.inner;
        items = put.items;
        steps_made = put.steps_made;
        closed = All-cons no_open_marker (Open n.id n.kind true) put.inner refl put.closed;
      };
}

pub Adds-then : {a b c : State} {xs ys : List Step} → Adds xs a b → Adds ys b c → Adds (xs ++ ys) a c
Adds-then {a} {b} {c} {xs} {ys} p q = record {
  keeps = Keeps-then p.keeps q.keeps;
  position = omega (arith, p.position, q.position, eaten-append xs ys);
  draft = λ goes.
      let first = p.draft (went q.keeps goes) in
      let second = q.draft goes in
      record {
        made = first.made ++ second.made;
        items = second.items ∙ (ap (λ zs. zs ++ second.made) first.items ∙ append_assoc a.draft.items first.made second.made);
        steps_made = plain-append first.made second.made ∙ (ap (λ zs. zs ++ plain second.made) first.steps_made ∙ ap (λ zs. xs ++ zs) second.steps_made);
        closed = All-append no_open_marker first.made second.made first.closed second.closed;
      };
}

-- a marker's item stays where steps are added
pub open_marker-added : {a b : State} {xs : List Step} (m : Mark) → HasOpenMarker a m → Adds xs a b → HasOpenMarker b m
open_marker-added {a} {b} {xs} m there adds goes =
    let added = adds.draft goes in
    let open_marker = OpenMarker m.id m.made in
    subst (λ items. Contains items open_marker) (sym added.items) (Contains-append_left a.draft.items added.made open_marker (there (went adds.keeps goes)))

-- an added node can be preceded
pub node-added : {a b : State} {xs : List Step} {n : Node} → AddsNode xs n a b → HasNode b n
node-added {a} {b} {xs} {n} adds goes =
    let added = adds.draft goes in
    let opening = Open n.id n.kind true in
    subst (λ items. Contains items opening) (sym added.items) (Contains-behind opening a.draft.items added.inner)

-- ---- nodes

-- an open marker with items behind it becomes an opening, and a closing stands at the end
closed_up : (old inner : List Item) (made : Made) (d e : Draft) (id kind : ℕ) → d.items ≡ old ++ OpenMarker id made ∷ inner → e ≡ completed d id kind
    → IsAboveIds id old → HasNoOpenMarker inner → e.items ≡ old ++ Open id kind true ∷ (inner ++ Close ∷ [])
closed_up old inner made d e id kind is ends above closed =
    ap (λ d. d.items) ends
    ∙ (ap (λ items. filled items id kind ++ Close ∷ []) is
    ∙ (ap (λ items. items ++ Close ∷ []) (filled-at id kind made old inner above closed) ∙ append_assoc old (Open id kind true ∷ inner) (Close ∷ [])))

closed_end : (inner : List Item) → HasNoOpenMarker inner → HasNoOpenMarker (inner ++ Close ∷ [])
closed_end inner closed = All-append no_open_marker inner (Close ∷ []) closed (All-cons no_open_marker Close [] refl (All-nil no_open_marker))

-- a started marker's id is above all that were before
pub is_below : {a b : State} {m : Mark} → Begins m a b → IsAboveIds m.id a.draft.items
is_below {a} {b} {m} begins = subst (λ id. IsAboveIds id a.draft.items) (sym (ap (λ m. m.id) begins.is)) begins.sound.logged.below

-- and behind its open marker stand the items of what is added
pub begun_items : {a b c : State} {m : Mark} {xs : List Step} (begins : Begins m a b) (adds : Adds xs b c) (goes : HasNotFailed c)
    → c.draft.items ≡ a.draft.items ++ OpenMarker m.id ByStart ∷ (adds.draft goes).made
begun_items {a} {b} {c} {m} {xs} begins adds goes =
    let made = (adds.draft goes).made in
    (adds.draft goes).items
    ∙ (ap (λ d. d.items ++ made) (begins.records.draft (went adds.keeps goes))
    ∙ (append_assoc a.draft.items (OpenMarker a.draft.entries ByStart ∷ []) made ∙ ap (λ m. a.draft.items ++ OpenMarker m.id ByStart ∷ made) (sym begins.is)))

-- a node is begun, steps are added, and it is completed
pub node_around : {a b c d : State} {m : Mark} {n : Node} {xs : List Step} {kind : ℕ} → Begins m a b → Adds xs b c → Completes m.id kind c d
    → n ≡ record { id = m.id; kind = kind } → AddsNode (node kind xs) n a d
node_around {a} {b} {c} {d} {m} {n} {xs} {kind} begins adds completes is =
    subst (λ (n : Node). AddsNode (node kind xs) n a d) (sym is)
    (record {
      keeps = Keeps-then begins.keeps (Keeps-then adds.keeps completes.keeps);
      position = omega (arith, begins.position, completes.position, adds.position, eaten-append xs (Exit ∷ []));
      draft = λ goes.
          let before = went completes.keeps goes in
          let put = adds.draft before in
          record {
            inner = put.made ++ Close ∷ [];
            items = closed_up a.draft.items put.made ByStart c.draft d.draft m.id kind (begun_items begins adds before) (completes.records.draft goes) (is_below begins) put.closed;
            steps_made = ap (λ zs. Enter kind ∷ zs) (plain-append put.made (Close ∷ []) ∙ ap (λ zs. zs ++ Exit ∷ []) put.steps_made);
            closed = closed_end put.made put.closed;
          };
    })

-- the items where an added node is preceded
preceded_items : {begun s t : State} {m : Mark} {n : Node} {xs : List Step} → (adds : AddsNode xs n begun s) → Precedes n m s t → (goes : HasNotFailed t) → (gone : HasNotFailed s)
    → t.draft.items ≡ begun.draft.items ++ OpenMarker s.draft.entries ByPrecede ∷ Open n.id n.kind false ∷ (adds.draft gone).inner
preceded_items {begun} {s} {t} {m} {n} {xs} adds precedes goes gone =
    let put = adds.draft gone in
    let p = is_opening_of n.id in
    let f = λ (item : Item). OpenMarker s.draft.entries ByPrecede ∷ preceded_item item ∷ [] in
    let opening = Open n.id n.kind true in
    let once = openings-once n.id s.draft.items precedes.sound.logged.once in
    let total = ap (count_by p) put.items ∙ count_by-append p begun.draft.items (opening ∷ put.inner) in
    let first = count_by-passes p opening put.inner (itself n.id) in
    ap (λ d. d.items) (precedes.records.draft goes)
    ∙ (ap (replaced p f) put.items ∙ replaced-at p f begun.draft.items put.inner opening (itself n.id) (omega (arith, total, first, once)) (omega (arith, total, first, once)))

-- a node is preceded, steps are added, and the new one is completed
pub node_before : {begun s t v w : State} {m : Mark} {left n : Node} {steps more : List Step} {kind : ℕ} → AddsNode steps left begun s → Precedes left m s t → Adds more t v
    → Completes m.id kind v w → n ≡ record { id = m.id; kind = kind } → AddsNode (Enter kind ∷ (steps ++ more) ++ Exit ∷ []) n begun w
node_before {begun} {s} {t} {v} {w} {m} {left} {n} {steps} {more} {kind} puts precedes adds completes is =
    subst (λ (n : Node). AddsNode (Enter kind ∷ (steps ++ more) ++ Exit ∷ []) n begun w) (sym is)
    (record {
      keeps = Keeps-then puts.keeps (Keeps-then precedes.keeps (Keeps-then adds.keeps completes.keeps));
      position = omega (arith, precedes.position, completes.position, puts.position, adds.position, eaten-append (steps ++ more) (Exit ∷ []), eaten-append steps more);
      draft = λ goes.
          let going = went completes.keeps goes in
          let first = went adds.keeps going in
          let gone = went precedes.keeps first in
          let put = puts.draft gone in
          let added = adds.draft going in
          let old = begun.draft.items in
          let node_items : List Item = Open left.id left.kind false ∷ put.inner in
          let inner = node_items ++ added.made in
          let id = ap (λ m. m.id) precedes.is in
          let items : v.draft.items ≡ old ++ OpenMarker m.id ByPrecede ∷ inner =
          added.items
          ∙ (ap (λ zs. zs ++ added.made) (preceded_items puts precedes first gone)
          ∙ (append_assoc old (OpenMarker s.draft.entries ByPrecede ∷ node_items) added.made ∙ ap (λ id. old ++ OpenMarker id ByPrecede ∷ inner) (sym id))) in
          let below : IsAboveIds s.draft.entries old =
          ids_front old (Open left.id left.kind true ∷ put.inner) (subst (λ items. IsAboveIds s.draft.entries items) put.items precedes.sound.logged.below) in
          let closed : HasNoOpenMarker inner = All-append no_open_marker node_items added.made (All-cons no_open_marker (Open left.id left.kind false) put.inner refl put.closed) added.closed in
          record {
            inner = inner ++ Close ∷ [];
            items = closed_up old inner ByPrecede v.draft w.draft m.id kind items (completes.records.draft goes) (subst (λ id. IsAboveIds id old) (sym id) below) closed;
            steps_made = ap (λ zs. Enter kind ∷ zs)
                (plain-append inner (Close ∷ [])
                ∙ ap (λ zs. zs ++ Exit ∷ [])
                (plain-append node_items added.made
                ∙ (ap (λ zs. zs ++ plain added.made) put.steps_made ∙ ap (λ zs. steps ++ zs) added.steps_made)));
            closed = closed_end inner closed;
          };
    })
  where
    ids_front : {id : ℕ} (xs ys : List Item) → IsAboveIds id (xs ++ ys) → IsAboveIds id xs
    ids_front {id} xs ys above = All-front (λ i. i < id) (ids xs) (ids ys) (rw (ids-append xs ys) at above)

-- ---- a whole run

-- what is added from the beginning on is all that the draft has
module _ {a b : State} {xs : List Step} (fresh : IsFresh a) (adds : Adds xs a b) (goes : HasNotFailed b) where
  all_items : b.draft.items ≡ (adds.draft goes).made
  all_items = (adds.draft goes).items ∙ ap (λ s. s.draft.items ++ (adds.draft goes).made) fresh

  pub closed-fresh : HasNoOpenMarker b.draft.items
  closed-fresh = subst HasNoOpenMarker (sym all_items) (adds.draft goes).closed

  pub plain-fresh : plain b.draft.items ≡ xs
  plain-fresh = ap plain all_items ∙ (adds.draft goes).steps_made
