use Rattle.std.proofs.Common.{rules, ◌≡◌, ◌∙◌, sym, refl, subst}
use Rattle.std.specs.Prelude.{true, Contains}
use Rattle.squawk_output.specs.Draft.{IsLogged, Node, Open}
use Rattle.squawk_output.specs.Edits.{preceded}
use Rattle.squawk_parser.specs.State.{State, HasOpenMarker, HasNode, IsSound}
use Rattle.squawk_parser.proofs.FailedIfRefused.{failed_if_refused}
use Rattle.squawk_parser.proofs.Soundness.{IsSound-failed, IsSound-preceded}
use Rattle.squawk_parser.proofs.ParserViews.{seen, has_room}
use Rattle.squawk_parser.proofs.Markers.{open_marker-preceded}
use Rattle.squawk_parser.proofs.SomeSteps.{precedes_opens}
use Rattle.squawk_parser.proofs.SpentEvents.{precedes_spends}
use Rattle.squawk_parser.proofs.parser.marker.CompletedMarker.precede.Goals as goal

pub invariant_of-p : goal.invariant_of-p
invariant_of-p c =
    let s = seen c.p.inside in
    let room = c.if-has_room.ensures.room refl in
    let same : s ≡ c.args.p.now = c.p.view_is ∙ room.0 in
    let can = has_room s c.args.p.now same (room.1, room.2) in
    let node : Node = record { id = c.self.inside.id; kind = c.self.inside.kind } in
    let Has : State → Node → Type 0 = λ t m. Contains t.draft.items (Open m.id m.kind true) in
    let there = subst (λ t. Has t node) (sym same) (subst (Has c.args.p.now) (sym c.self.view_is) (c.requires room.1)) in
    let before = c.p.invariant in
    failed_if_refused IsLogged (λ draft reason. IsSound (record s { draft = draft; first_reason = reason })) s (preceded s.draft node.id) c.precede.new.self c.fail_if_refused.new.first_reason
    c.precede.result c.precede.ensures.logged (IsSound-preceded s before can.goes node.id node.kind can.room there) (IsSound-failed s before)
    c.precede.ensures.ok c.precede.ensures.err c.fail_if_refused.ensures.ok c.fail_if_refused.ensures.err

pub returns-clause-precedes : goal.returns-clause-precedes
returns-clause-precedes c = search rules

pub returns-clause-open_marker : goal.returns-clause-open_marker
returns-clause-open_marker c =
    let old = c.args.p.now in
    let there : HasNode old c.args.self = c.requires in
    let precedes = returns-clause-precedes c in
    subst (HasOpenMarker c.if-has_room.p) (sym precedes.is) (open_marker-preceded c.args.self precedes.sound.logged.once there precedes.records)

pub returns-clause-opens : goal.returns-clause-opens
returns-clause-opens c = precedes_opens (returns-clause-precedes c)

pub returns-clause-spends : goal.returns-clause-spends
returns-clause-spends c = precedes_spends (returns-clause-precedes c)
