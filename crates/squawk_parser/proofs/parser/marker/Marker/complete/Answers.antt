use Rattle.std.proofs.Common.{rules, ◌≡◌, ◌∙◌, ap, sym, refl, subst}
use Rattle.std.specs.Prelude.{Contains}
use Rattle.squawk_output.specs.Draft.{OpenMarker, IsLogged, Mark, Node}
use Rattle.squawk_output.specs.Edits.{completed}
use Rattle.squawk_parser.specs.Recorded.{Completes}
use Rattle.squawk_parser.specs.State.{State, HasOpenMarker, IsSound}
use Rattle.squawk_parser.proofs.FailedIfRefused.{failed_if_refused}
use Rattle.squawk_parser.proofs.Soundness.{IsSound-completed, IsSound-failed}
use Rattle.squawk_parser.proofs.ParserViews.{seen, has_room}
use Rattle.squawk_parser.proofs.Markers.{node-completed}
use Rattle.squawk_parser.proofs.SomeSteps.{completes_closes, completes_ends}
use Rattle.squawk_parser.proofs.SpentEvents.{completes_spends}
use Rattle.squawk_parser.proofs.parser.marker.Marker.complete.Goals as goal

pub invariant_of-p : goal.invariant_of-p
invariant_of-p c =
    let s = seen c.p.inside in
    let room = c.if-has_room.ensures.room refl in
    let same : s ≡ c.args.p.now = c.p.view_is ∙ room.0 in
    let can = has_room s c.args.p.now same (room.1, room.2) in
    let m : Mark = record { id = c.self.inside.id; made = c.self.inside.made } in
    let Has : State → Mark → Type 0 = λ t m. Contains t.draft.items (OpenMarker m.id m.made) in
    let there : Contains s.draft.items (OpenMarker m.id m.made) =
    subst (λ t. Has t m) (sym same) (subst (Has c.args.p.now) (sym c.self.view_is) (c.requires.open_marker room.1)) in
    let before = c.p.invariant in
    failed_if_refused IsLogged (λ draft reason. IsSound (record s { draft = draft; first_reason = reason })) s (completed s.draft m.id c.args.kind) c.complete.new.self
    c.fail_if_refused.new.first_reason c.complete.result c.complete.ensures.logged (IsSound-completed s before can.goes m.id c.args.kind m.made can.room there) (IsSound-failed s before)
    c.complete.ensures.ok c.complete.ensures.err c.fail_if_refused.ensures.ok c.fail_if_refused.ensures.err

pub returns-clause-at_hand : goal.returns-clause-at_hand
returns-clause-at_hand c =
    let old = c.args.p.now in
    let m : Mark = record { id = c.self.inside.id; made = c.self.inside.made } in
    let there : HasOpenMarker old m = subst (HasOpenMarker old) (sym c.self.view_is) c.requires.open_marker in
    let completes : Completes m.id c.args.kind old c.if-has_room.p = search rules in
    node-completed m c.args.kind there completes.records

pub returns-clause-closes : goal.returns-clause-closes
returns-clause-closes c =
    let completes : Completes c.args.self.id c.args.kind c.args.p.now c.if-has_room.p = search rules in
    let node = λ (m : Mark). let n : Node = record { id = m.id; kind = c.args.kind } in n in
    completes_closes completes (ap node c.self.view_is)

pub returns-clause-file : goal.returns-clause-file
returns-clause-file c =
    let completes : Completes c.args.self.id c.args.kind c.args.p.now c.if-has_room.p = search rules in
    completes_ends completes

pub returns-clause-spends : goal.returns-clause-spends
returns-clause-spends c =
    let completes : Completes c.args.self.id c.args.kind c.args.p.now c.if-has_room.p = search rules in
    completes_spends completes
