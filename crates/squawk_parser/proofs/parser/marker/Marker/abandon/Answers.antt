use Rattle.std.proofs.Common.{sym, subst}
use Rattle.std.specs.Prelude.{Contains}
use Rattle.squawk_output.specs.Draft.{OpenMarker, IsLogged, Mark}
use Rattle.squawk_parser.specs.State.{State, HasNotFailed}
use Rattle.squawk_parser.proofs.Soundness.{IsSound-abandoned}
use Rattle.squawk_parser.proofs.ParserViews.{seen, goes_on}
use Rattle.squawk_parser.proofs.parser.marker.Marker.abandon.Goals as goal

pub invariant_of-p : goal.invariant_of-p
invariant_of-p c =
    let s = seen c.p.inside in
    let goes : HasNotFailed s = goes_on s (c.if-is_none.ensures) in
    let m : Mark = record { id = c.self.inside.id; made = c.self.inside.made } in
    let Has : State → Mark → Type 0 = λ t m. Contains t.draft.items (OpenMarker m.id m.made) in
    let there = subst (λ t. Has t m) (sym c.p.view_is)
    (subst (Has c.args.p.now) (sym c.self.view_is) (c.requires (subst HasNotFailed c.p.view_is goes))) in
    rw c.abandon.ensures.abandoned
    (IsSound-abandoned s c.p.invariant goes m.id m.made there (subst IsLogged c.abandon.ensures.abandoned c.abandon.ensures.logged))
