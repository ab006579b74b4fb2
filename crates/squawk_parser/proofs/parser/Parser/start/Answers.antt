use Rattle.std.proofs.Common.{rules, ◌≡◌, ◌∙◌, refl}
use Rattle.squawk_output.specs.Draft.{IsLogged}
use Rattle.squawk_output.specs.Edits.{started}
use Rattle.squawk_parser.specs.Recorded.{Begins, started_mark}
use Rattle.squawk_parser.specs.State.{IsSound}
use Rattle.squawk_parser.proofs.FailedIfRefused.{failed_if_refused}
use Rattle.squawk_parser.proofs.Soundness.{IsSound-started, IsSound-failed}
use Rattle.squawk_parser.proofs.ParserViews.{seen, has_room}
use Rattle.squawk_parser.proofs.SpentEvents.{begins_spends}
use Rattle.squawk_parser.proofs.parser.Parser.start.Goals as goal

pub invariant_of-self : goal.invariant_of-self
invariant_of-self c =
    let s = seen c.self.inside in
    let room = c.if-has_room.ensures.room refl in
    let same : s ≡ c.args.self.now = c.self.view_is ∙ room.0 in
    let can = has_room s c.args.self.now same (room.1, room.2) in
    let before = c.self.invariant in
    failed_if_refused IsLogged (λ draft reason. IsSound (record s { draft = draft; first_reason = reason })) s (started s.draft) c.start.new.self c.fail_if_refused.new.first_reason c.start.result
    c.start.ensures.logged (IsSound-started s before can.goes can.room) (IsSound-failed s before) c.start.ensures.ok c.start.ensures.err c.fail_if_refused.ensures.ok c.fail_if_refused.ensures.err

pub returns-clause-spends : goal.returns-clause-spends
returns-clause-spends c =
    let begins : Begins (started_mark c.args.self.now) c.args.self.now c.if-has_room.self = search rules in
    begins_spends begins
