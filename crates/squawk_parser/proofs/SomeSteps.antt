-- What grammars may rely on: steps that are added, whichever they are.
use Rattle.std.proofs.Common.{◌≡◌, ◌∙◌, ℕ, ◌-◌, false, true, Option, Some, None, List, [], ◌∷◌, ◌++◌, arith, ap, sym, refl, subst, append_assoc}
use Rattle.std.specs.Prelude.{count_by}
use Rattle.std.proofs.lemmas.List.{append-nil}
use Rattle.std.proofs.lemmas.List.Elements.{All-nil, All-cons, All-append, filter-append}
use Rattle.squawk_kinds.specs.Kinds.{EOF}
use Rattle.squawk_output.specs.Steps.{Step, Token, eaten}
use Rattle.squawk_output.specs.Draft.{Item, Mark, Node, OpenMarker, Open, Close, Token as token, Error, HasNoOpenMarker, HasNoIdTwice, open_markers_of, is_open_marker, plain}
use Rattle.squawk_output.specs.declared.log.Made.TheVariants.{ByPrecede}
use Rattle.squawk_output.specs.Edits.{filled, is_open_marker_of, is_opening_of, preceded_item, replaced}
use Rattle.squawk_output.proofs.Groups.{itself}
use Rattle.squawk_parser.specs.Composed.{Adds}
use Rattle.squawk_parser.specs.Recorded.{Begins, Completes, Precedes, Puts}
use Rattle.squawk_parser.specs.SomeSteps.{AddsSome, ClosesNode, EndsFile, HasAdded, HasAddedNode, HasAddedOnly, OpensBefore, OpensNode, open_markers_for}
use Rattle.squawk_parser.specs.State.{State, HasNotFailed, IsFresh, IsSound, kind_at}
use Rattle.squawk_parser.specs.Whole.{IsWholeFile}
use Rattle.squawk_parser.specs.declared.parser.parse_error.ParseError.{ParseError}
use Rattle.squawk_parser.proofs.AddedSteps.{Adds-node, Adds-puts, closed-fresh, node_around}
use Rattle.squawk_parser.proofs.OpenMarkers.{HasNoOpenMarker-none_open, none_open}
use Rattle.squawk_parser.proofs.RecordedItems.{eaten-append, plain-append}
use Rattle.squawk_parser.proofs.RecordedSteps.{Keeps-then, puts-none, went}
use Rattle.squawk_parser.proofs.Splits.{count_by-append, count_by-passes, open_markers-once, openings-once, replaced-at}
use Rattle.squawk_parser.proofs.WholeSteps.{whole_file}

abbrev no_open_marker : Item → Type 0
no_open_marker item = is_open_marker item ≡ false

-- joined items, regrouped
regroup : (old first made more : List Item) → (old ++ (first ++ made)) ++ more ≡ old ++ (first ++ (made ++ more))
regroup old first made more = append_assoc old (first ++ made) more ∙ ap (λ items. old ++ items) (append_assoc first made more)

-- ---- steps that are known

module _ {a b : State} {xs : List Step} (q : Adds xs a b) where
  longer : {first opened : List Mark} {begun : State} → HasAdded first opened begun a → HasAdded first opened begun b
  longer {first} {opened} {begun} p = record {
    keeps = Keeps-then p.keeps q.keeps;
    draft = λ goes.
        let before = p.draft (went q.keeps goes) in
        let added = q.draft goes in
        record {
          made = before.made ++ added.made;
          items = added.items ∙ (ap (λ zs. zs ++ added.made) before.items ∙ regroup begun.draft.items (open_markers_for first) before.made added.made);
          open_markers = filter-append is_open_marker before.made added.made
              ∙ (ap (λ hs. open_markers_of before.made ++ hs) (none_open added.made added.closed) ∙ (append-nil (open_markers_of before.made) ∙ before.open_markers));
        };
  }

  pub adds_some : AddsSome a b
  adds_some = record {
    some = record {
      keeps = q.keeps;
      draft = λ goes. let added = q.draft goes in record { made = added.made; items = added.items; open_markers = none_open added.made added.closed };
    };
    behind = λ first opened begun p. longer p;
  }

pub puts_some : {a b : State} {xs : List Step} → Puts xs a b → AddsSome a b
puts_some puts = adds_some (Adds-puts puts)

-- nothing
pub none_some : (a : State) → IsSound a → AddsSome a a
none_some a sound = puts_some (puts-none a sound)

-- ---- and back: some steps are added, one after another

pub some_adds : {a b : State} → IsSound a → AddsSome a b → (steps : List Step) × Adds steps a b
some_adds {a} {b} sound p = cases b.first_reason refl
  where
    cases : (f : Option ParseError) → b.first_reason ≡ f → (steps : List Step) × Adds steps a b
    cases None goes =
        let added = p.some.draft goes in
        let all = ap (λ items. eaten (plain items)) added.items in
        let parts = ap eaten (plain-append a.draft.items added.made) ∙ eaten-append (plain a.draft.items) (plain added.made) in
        let before = sound.exact (went p.some.keeps goes) in
        let after = p.some.keeps.sound.exact goes in (
          plain added.made,
          record {
            keeps = p.some.keeps;
            position = omega (arith, all, parts, before, after);
            draft = λ _. record { made = added.made; items = added.items; steps_made = refl; closed = HasNoOpenMarker-none_open added.made added.open_markers };
          },
        )
    cases (Some reason) failed =
        let forward = p.some.keeps.forward in (
          Token 0 (b.position - a.position) ∷ [],
          record {
            keeps = p.some.keeps;
            position = omega (arith, forward);
            draft = λ goes. absurd (let e = sym goes ∙ failed in cc);
          },
        )

-- ---- markers

begun_items : {a b : State} {m : Mark} → Begins m a b → HasNotFailed b → b.draft.items ≡ a.draft.items ++ OpenMarker m.id m.made ∷ []
begun_items {a} {b} {m} begins goes =
    ap (λ d. d.items) (begins.records.draft goes) ∙ ap (λ m. a.draft.items ++ OpenMarker m.id m.made ∷ []) (sym begins.is)

pub begins_opens : {a b : State} {m : Mark} → Begins m a b → OpensNode m a b
begins_opens {a} {b} {m} begins = record {
  some = record { keeps = begins.keeps; draft = λ goes. record { made = OpenMarker m.id m.made ∷ []; items = begun_items begins goes; open_markers = refl } };
  only = record { keeps = begins.keeps; draft = λ goes. record { made = []; items = begun_items begins goes; open_markers = refl } };
  behind = λ first opened begun p. record {
    keeps = Keeps-then p.keeps begins.keeps;
    draft = λ goes.
        let before = p.draft (went begins.keeps goes) in
        let open_marker = OpenMarker m.id m.made ∷ [] in
        record {
          made = before.made ++ open_marker;
          items = begun_items begins goes ∙ (ap (λ zs. zs ++ open_marker) before.items ∙ regroup begun.draft.items (open_markers_for first) before.made open_marker);
          open_markers = filter-append is_open_marker before.made open_marker ∙ ap (λ hs. hs ++ open_marker) before.open_markers;
        };
  };
}

-- items of which the last open marker is that of a marker
record LastOpenMarker (m : Mark) (open_markers items : List Item) : Type 0 where
  pub front : List Item
  pub inner : List Item
  pub is : items ≡ front ++ OpenMarker m.id m.made ∷ inner
  pub others : open_markers_of front ≡ open_markers
  pub closed : HasNoOpenMarker inner

-- an item that is no open marker, in front of them
further : {m : Mark} {open_markers items : List Item} (item : Item) → is_open_marker item ≡ false → LastOpenMarker m open_markers items → LastOpenMarker m open_markers (item ∷ items)
further item other r = record { front = item ∷ r.front; inner = r.inner; is = ap (λ zs. item ∷ zs) r.is; others = rw other r.others; closed = r.closed }

last_open_marker : (m : Mark) (open_markers items : List Item) → open_markers_of items ≡ open_markers ++ OpenMarker m.id m.made ∷ [] → LastOpenMarker m open_markers items
last_open_marker m [] [] e = absurd (cc)
last_open_marker m (open_marker ∷ open_markers) [] e = absurd (cc)
last_open_marker m [] (OpenMarker i made ∷ items) e =
    let rest : open_markers_of items ≡ [] = cc in
    let same : OpenMarker i made ≡ OpenMarker m.id m.made = cc in
    record { front = []; inner = items; is = ap (λ item. item ∷ items) same; others = refl; closed = HasNoOpenMarker-none_open items rest }
last_open_marker m (open_marker ∷ open_markers) (OpenMarker i made ∷ items) e =
    let rest : open_markers_of items ≡ open_markers ++ OpenMarker m.id m.made ∷ [] = cc in
    let same : OpenMarker i made ≡ open_marker = cc in
    let r = last_open_marker m open_markers items rest in
    record { front = OpenMarker i made ∷ r.front; inner = r.inner; is = ap (λ zs. OpenMarker i made ∷ zs) r.is; others = ap (λ zs. OpenMarker i made ∷ zs) r.others ∙ ap (λ h. h ∷ open_markers) same; closed = r.closed }
last_open_marker m open_markers (Open i kind free ∷ items) e = further (Open i kind free) refl (last_open_marker m open_markers items e)
last_open_marker m open_markers (Close ∷ items) e = further Close refl (last_open_marker m open_markers items e)
last_open_marker m open_markers (token kind n ∷ items) e = further (token kind n) refl (last_open_marker m open_markers items e)
last_open_marker m open_markers (Error text ∷ items) e = further (Error text) refl (last_open_marker m open_markers items e)

-- an open marker with items behind it becomes an opening, and a closing stands at the end
closed_items : {a b : State} {kind : ℕ} (m : Mark) (old inner : List Item) → HasNoIdTwice a.draft.items → Completes m.id kind a b → HasNotFailed b
    → a.draft.items ≡ old ++ OpenMarker m.id m.made ∷ inner → b.draft.items ≡ old ++ Open m.id kind true ∷ (inner ++ Close ∷ [])
closed_items {a} {b} {kind} m old inner no_id_twice completes goes items =
    let open_marker = OpenMarker m.id m.made in
    let test = is_open_marker_of m.id in
    let once = open_markers-once m.id a.draft.items no_id_twice in
    let total = ap (count_by test) items ∙ count_by-append test old (open_marker ∷ inner) in
    let first = count_by-passes test open_marker inner (itself m.id) in
    ap (λ d. d.items) (completes.records.draft goes)
    ∙ (ap (λ items. filled items m.id kind ++ Close ∷ []) items
    ∙ (ap (λ items. items ++ Close ∷ [])
    (replaced-at test (λ item. Open m.id kind true ∷ []) old inner open_marker (itself m.id) (omega (arith, total, first, once)) (omega (arith, total, first, once)))
    ∙ append_assoc old (Open m.id kind true ∷ inner) (Close ∷ [])))

closed_end : (inner : List Item) → HasNoOpenMarker inner → HasNoOpenMarker (inner ++ Close ∷ [])
closed_end inner closed = All-append no_open_marker inner (Close ∷ []) closed (All-cons no_open_marker Close [] refl (All-nil no_open_marker))

module _ {a b : State} {m : Mark} {n : Node} {kind : ℕ} (completes : Completes m.id kind a b) (is : n ≡ record { id = m.id; kind = kind }) where
  closed_last : {first opened : List Mark} {begun : State} → HasAdded first (m ∷ opened) begun a → HasAddedNode n first opened begun b
  closed_last {first} {opened} {begun} p = subst (λ (n : Node). HasAddedNode n first opened begun b) (sym is) (record {
    keeps = Keeps-then p.keeps completes.keeps;
    draft = λ goes.
        let before = p.draft (went completes.keeps goes) in
        let last = last_open_marker m (open_markers_for opened) before.made before.open_markers in
        let old = begun.draft.items ++ (open_markers_for first ++ last.front) in
        let items : a.draft.items ≡ old ++ OpenMarker m.id m.made ∷ last.inner =
        before.items
        ∙ (ap (λ made. begun.draft.items ++ (open_markers_for first ++ made)) last.is
        ∙ sym (regroup begun.draft.items (open_markers_for first) last.front (OpenMarker m.id m.made ∷ last.inner))) in
        record {
          front = last.front;
          inner = last.inner ++ Close ∷ [];
          items = closed_items m old last.inner p.keeps.sound.logged.once completes goes items
              ∙ regroup begun.draft.items (open_markers_for first) last.front (Open m.id kind true ∷ (last.inner ++ Close ∷ []));
          open_markers = last.others;
          closed = closed_end last.inner last.closed;
        };
  })

  closed_only : {begun : State} → HasAdded (m ∷ []) [] begun a → HasAddedOnly n begun b
  closed_only {begun} p = subst (λ (n : Node). HasAddedOnly n begun b) (sym is) (record {
    keeps = Keeps-then p.keeps completes.keeps;
    draft = λ goes.
        let before = p.draft (went completes.keeps goes) in
        record {
          inner = before.made ++ Close ∷ [];
          items = closed_items m begun.draft.items before.made p.keeps.sound.logged.once completes goes before.items;
          closed = closed_end before.made (HasNoOpenMarker-none_open before.made before.open_markers);
        };
  })

-- a node is one of the steps
node_added : {first opened : List Mark} {begun now : State} {n : Node} → HasAddedNode n first opened begun now → HasAdded first opened begun now
node_added {first} {opened} {begun} {now} {n} p = record {
  keeps = p.keeps;
  draft = λ goes.
      let put = p.draft goes in
      let opening = Open n.id n.kind true in
      record {
        made = put.front ++ opening ∷ put.inner;
        items = put.items;
        open_markers = filter-append is_open_marker put.front (opening ∷ put.inner)
            ∙ (ap (λ hs. open_markers_of put.front ++ hs) (none_open put.inner put.closed) ∙ (append-nil (open_markers_of put.front) ∙ put.open_markers));
      };
}

pub completes_closes : {a b : State} {m : Mark} {n : Node} {kind : ℕ} → Completes m.id kind a b → n ≡ record { id = m.id; kind = kind } → ClosesNode m n a b
completes_closes completes is = record {
  some = λ first opened begun p. node_added (closed_last completes is p);
  last = λ first opened begun p. closed_last completes is p;
  only = λ begun p. closed_only completes is p;
}

-- the items where a node is preceded
preceded_items : {a b : State} {m : Mark} {left : Node} (old inner : List Item) → Precedes left m a b → HasNotFailed b
    → a.draft.items ≡ old ++ Open left.id left.kind true ∷ inner → b.draft.items ≡ old ++ OpenMarker m.id m.made ∷ Open left.id left.kind false ∷ inner
preceded_items {a} {b} {m} {left} old inner precedes goes items =
    let opening = Open left.id left.kind true in
    let test = is_opening_of left.id in
    let edit = λ (item : Item). OpenMarker a.draft.entries ByPrecede ∷ preceded_item item ∷ [] in
    let once = openings-once left.id a.draft.items precedes.sound.logged.once in
    let total = ap (count_by test) items ∙ count_by-append test old (opening ∷ inner) in
    let first = count_by-passes test opening inner (itself left.id) in
    ap (λ d. d.items) (precedes.records.draft goes)
    ∙ (ap (replaced test edit) items
    ∙ (replaced-at test edit old inner opening (itself left.id) (omega (arith, total, first, once)) (omega (arith, total, first, once))
    ∙ ap (λ m. old ++ OpenMarker m.id m.made ∷ Open left.id left.kind false ∷ inner) (sym precedes.is)))

pub precedes_opens : {a b : State} {m : Mark} {left : Node} → Precedes left m a b → OpensBefore left m a b
precedes_opens {a} {b} {m} {left} precedes = record {
  only = λ begun p. record {
    keeps = Keeps-then p.keeps precedes.keeps;
    draft = λ goes.
        let put = p.draft (went precedes.keeps goes) in
        record {
          made = Open left.id left.kind false ∷ put.inner;
          items = preceded_items begun.draft.items put.inner precedes goes put.items;
          open_markers = none_open put.inner put.closed;
        };
  };
  behind = λ first opened begun p. record {
    keeps = Keeps-then p.keeps precedes.keeps;
    draft = λ goes.
        let put = p.draft (went precedes.keeps goes) in
        let opening : List Item = Open left.id left.kind true ∷ put.inner in
        let more : List Item = OpenMarker m.id m.made ∷ Open left.id left.kind false ∷ put.inner in
        record {
          made = put.front ++ more;
          items = preceded_items (begun.draft.items ++ (open_markers_for first ++ put.front)) put.inner precedes goes
              (put.items ∙ sym (regroup begun.draft.items (open_markers_for first) put.front opening))
              ∙ regroup begun.draft.items (open_markers_for first) put.front more;
          open_markers = filter-append is_open_marker put.front more
              ∙ (ap (λ hs. open_markers_of put.front ++ OpenMarker m.id m.made ∷ hs) (none_open put.inner put.closed) ∙ ap (λ hs. hs ++ OpenMarker m.id m.made ∷ []) put.open_markers);
        };
  };
}

-- ---- whole runs

-- what is added from the beginning on leaves no open marker
pub closed_some : {a b : State} → IsFresh a → AddsSome a b → HasNotFailed b → HasNoOpenMarker b.draft.items
closed_some {a} {b} fresh p goes =
    let added = p.some.draft goes in
    subst HasNoOpenMarker (sym (added.items ∙ ap (λ s. s.draft.items ++ added.made) fresh)) (HasNoOpenMarker-none_open added.made added.open_markers)

-- a node around what is added from the beginning on leaves none, and if it ends where the parser sees the end, it is a whole file
module _ {a b c d : State} {m : Mark} {kind : ℕ} (fresh : IsFresh a) (begins : Begins m a b) (adds : AddsSome b c) (completes : Completes m.id kind c d) where
  pub closed_file : HasNotFailed d → HasNoOpenMarker d.draft.items
  closed_file goes =
      let steps = some_adds begins.keeps.sound adds in
      closed-fresh fresh (Adds-node (node_around begins steps.1 completes refl)) goes

  pub whole_some : kind_at c 0 ≡ EOF → HasNotFailed d → IsWholeFile a.input d.draft
  whole_some end goes =
      let steps = some_adds begins.keeps.sound adds in
      whole_file fresh begins steps.1 completes end goes

pub completes_ends : {c d : State} {m : Mark} {kind : ℕ} → Completes m.id kind c d → EndsFile m c d
completes_ends completes = record {
  closed = λ begun inside begins fresh adds. closed_file fresh begins adds completes;
  whole = λ begun inside begins fresh adds. whole_some fresh begins adds completes;
}
