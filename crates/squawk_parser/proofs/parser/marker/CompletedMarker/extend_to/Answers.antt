use Rattle.std.proofs.Common.{◌≡◌, ◌∙◌, ap, sym, subst}
use Rattle.std.specs.Prelude.{true, Contains}
use Rattle.squawk_output.specs.Draft.{Draft, OpenMarker, IsLogged, Open, Mark, Node}
use Rattle.squawk_output.specs.Edits.{extended}
use Rattle.squawk_parser.specs.State.{State, HasNode, HasNotFailed}
use Rattle.squawk_parser.proofs.Soundness.{IsSound-extended}
use Rattle.squawk_parser.proofs.ParserViews.{seen, goes_on, Changes-edited, Changes-failed}
use Rattle.squawk_parser.proofs.Markers.{node-extended}
use Rattle.squawk_parser.proofs.parser.marker.CompletedMarker.extend_to.Goals as goal
use Rattle.squawk_parser.proofs.parser.marker.CompletedMarker.extend_to.Goals.{then-is_none, else-is_none}

pub invariant_of-p : goal.invariant_of-p
invariant_of-p c =
    let s = seen c.p.inside in
    let goes : HasNotFailed s = goes_on s (c.if-is_none.ensures) in
    let went : HasNotFailed c.args.p.now = subst HasNotFailed c.p.view_is goes in
    let node : Node = record { id = c.self.inside.id; kind = c.self.inside.kind } in
    let m : Mark = record { id = c.m.inside.id; made = c.m.inside.made } in
    let HasNode : State → Node → Type 0 = λ t m. Contains t.draft.items (Open m.id m.kind true) in
    let HasOpenMarker : State → Mark → Type 0 = λ t m. Contains t.draft.items (OpenMarker m.id m.made) in
    let there = subst (λ t. HasNode t node) (sym c.p.view_is)
    (subst (HasNode c.args.p.now) (sym c.self.view_is) (c.requires.node went)) in
    let open_marker = subst (λ t. HasOpenMarker t m) (sym c.p.view_is)
    (subst (HasOpenMarker c.args.p.now) (sym c.m.view_is) (c.requires.open_marker went)) in
    let edited = c.extend.ensures.extended node.kind there in
    rw edited (IsSound-extended s c.p.invariant goes node m.id m.made open_marker there (subst IsLogged edited c.extend.ensures.logged))

pub returns-clause-changes : goal.returns-clause-changes
returns-clause-changes c =
    let s = seen c.p.inside in
    let edited = extended c.args.p.now.draft c.args.self c.args.m.id in
    let same : extended s.draft (record { id = c.self.inside.id; kind = c.self.inside.kind }) c.m.inside.id ≡ edited =
    ap (λ t. extended t.draft (record { id = c.self.inside.id; kind = c.self.inside.kind }) c.m.inside.id) c.p.view_is
    ∙ (ap (λ node. extended c.args.p.now.draft node c.m.inside.id) c.self.view_is ∙ ap (λ m. extended c.args.p.now.draft c.args.self m.id) c.m.view_is) in
    elim c.if-is_none.branch [
      | then-is_none w ↦
          let goes : HasNotFailed s = goes_on s (w.if-is_none.ensures) in
          let Has : State → Node → Type 0 = λ t m. Contains t.draft.items (Open m.id m.kind true) in
          let there = subst (λ t. Has t (record { id = c.self.inside.id; kind = c.self.inside.kind })) (sym c.p.view_is)
          (subst (Has c.args.p.now) (sym c.self.view_is) (c.requires.node (subst HasNotFailed c.p.view_is goes))) in
          Changes-edited c.args.p.now s c.if-is_none.p edited c.p.view_is goes
          (w.p-is ∙ ap {A = Draft} (λ d. record s { draft = d }) (w.extend.ensures.extended c.self.inside.kind there ∙ same)) c.witness_sound.ensures
      | else-is_none w ↦ Changes-failed c.args.p.now s c.if-is_none.p edited c.p.view_is (w.if-is_none.ensures) w.p-is c.witness_sound.ensures
    ]

pub returns-clause-at_hand : goal.returns-clause-at_hand
returns-clause-at_hand c =
    subst (HasNode c.if-is_none.p) (sym c.self.view_is) (node-extended c.args.self c.args.m c.requires.node c.requires.open_marker (returns-clause-changes c))
