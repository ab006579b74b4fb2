use Rattle.std.proofs.Common.{◌+◌, ◌∙◌, refl, sym, subst}
use Rattle.std.specs.Prelude.{IsSome}
use Rattle.squawk_output.specs.Draft.{IsLogged}
use Rattle.squawk_output.specs.Edits.{with_token}
use Rattle.squawk_table.specs.Shape.{AreOneToken}
use Rattle.squawk_parser.specs.State.{IsSound, ahead}
use Rattle.squawk_parser.proofs.FailedIfRefused.{failed_if_refused}
use Rattle.squawk_parser.proofs.Soundness.{IsSound-with_token, IsSound-failed, IsSound-past}
use Rattle.squawk_parser.proofs.ParserViews.{seen, has_room, sees_same}
use Rattle.squawk_parser.proofs.parser.Parser.do_bump.Goals as goal
use Rattle.squawk_parser.proofs.parser.Parser.do_bump.Goals.{then-has_room, else-has_room}

pub invariant_of-self : goal.invariant_of-self
invariant_of-self c =
    let s = seen c.self.inside in
    let n = c.args.n_input_tokens in
    let old = c.args.self.now in
    let more = c.has_room.ensures in
    let one : AreOneToken n (ahead s 0) = sees_same s c.has_room.new.self old n c.self.view_is more.keeps more.position c.requires in
    let before = c.self.invariant in
    elim c.if-has_room.branch [
      | then-has_room w ↦
          let room = w.if-has_room.ensures.room refl in
          let can = has_room s old (c.self.view_is ∙ room.0) (room.1, room.2) in
          let after = IsSound-with_token s before can.goes c.args.kind n can.room one in
          let failed = IsSound-past (record s { first_reason = _ }) n (IsSound-failed s before) refl one in
          rw w.self-inside-is
          (failed_if_refused IsLogged (λ draft reason. IsSound (record s { draft = draft; first_reason = reason; position = s.position + n })) s (with_token s.draft c.args.kind n)
          w.token.new.self w.fail_if_refused.new.first_reason w.token.result w.token.ensures.logged after failed w.token.ensures.ok w.token.ensures.err w.fail_if_refused.ensures.ok w.fail_if_refused.ensures.err)
      | else-has_room w ↦
          let failed = (w.if-has_room.ensures.full refl).1 in
          let after = IsSound-past s n before (subst (λ t. IsSome t.first_reason) (sym c.self.view_is) failed) one in
          rw w.self-inside-is after
    ]
