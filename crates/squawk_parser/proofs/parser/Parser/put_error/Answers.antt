use Rattle.std.proofs.Common.{◌≡◌, ◌∙◌, ◌∷◌, [], arith, refl, subst}
use Rattle.std.specs.Prelude.{IfOk, string_bytes}
use Rattle.std.specs.Str.{chars}
use Rattle.squawk_output.specs.Edits.{with_error}
use Rattle.squawk_output.specs.Steps.{Error}
use Rattle.squawk_parser.specs.Recorded.{Puts}
use Rattle.squawk_parser.specs.State.{IsSound}
use Rattle.squawk_parser.specs.declared.parser.parse_error.ParseError.TheVariants.{OutOfMemory}
use Rattle.squawk_parser.proofs.FailedIfRefused.{failed_if_refused}
use Rattle.squawk_output.specs.Draft.{IsLogged}
use Rattle.squawk_parser.proofs.Soundness.{IsSound-with_error, IsSound-failed}
use Rattle.squawk_parser.proofs.ParserViews.{seen, has_room, errors_room}
use Rattle.squawk_parser.proofs.RefusedError.{Puts-error, Puts-refused}
use Rattle.squawk_parser.proofs.parser.Parser.put_error.Goals as goal

pub returns-in-Err : goal.returns-in-Err
returns-in-Err c =
    λ msg _. rw (c.fail_if_refused.ensures.err refl)
    (Puts-refused (seen c.self.inside) c.args.self.now msg OutOfMemory c.self.view_is c.requires.goes (c.requires.room, omega (arith, c.requires.errors), λ _. c.requires.errors) (IsSound-failed (seen c.self.inside) c.self.invariant))

pub invariant_of-self-2 : goal.invariant_of-self-2
invariant_of-self-2 c =
    let s = seen c.self.inside in
    let text = c.new-text.result in
    let can = has_room s c.args.self.now c.self.view_is (c.requires.goes, c.requires.room) in
    let errors = errors_room s c.args.self.now c.self.view_is c.requires.errors in
    let before = c.self.invariant in
    let after = IsSound-with_error s before can.goes text can.room errors in
    let failed = IsSound-failed s before in
    failed_if_refused IsLogged (λ draft reason. IsSound (record s { draft = draft; first_reason = reason })) s (with_error s.draft text) c.error.new.self c.fail_if_refused-2.new.first_reason
    c.error.result c.error.ensures.logged after failed c.error.ensures.ok c.error.ensures.err c.fail_if_refused-2.ensures.ok c.fail_if_refused-2.ensures.err

pub returns : goal.returns
returns c msg is =
    let s = seen c.self.inside in
    let old = c.args.self.now in
    let text = c.new-text.result in
    let same : text ≡ msg = c.new-text.ensures ∙ subst (λ t. IfOk t (λ s. chars (string_bytes s) ≡ msg)) c.in-Ok.is is in
    let refused = Puts-refused s old msg OutOfMemory c.self.view_is c.requires.goes (c.requires.room, omega (arith, c.requires.errors), λ _. c.requires.errors) (IsSound-failed s c.self.invariant) in
    let can = has_room s old c.self.view_is (c.requires.goes, c.requires.room) in
    let errors = errors_room s old c.self.view_is c.requires.errors in
    let sound = IsSound-with_error s c.self.invariant can.goes text can.room errors in
    let put : IsLogged (with_error s.draft text) → Puts (Error msg ∷ []) old (record s { draft = with_error s.draft text }) = λ logged. subst (λ m. Puts (Error m ∷ []) old (record s { draft = with_error s.draft text })) same (Puts-error s old text c.self.view_is c.requires.goes (sound logged)) in
    failed_if_refused IsLogged (λ draft reason. Puts (Error msg ∷ []) old (record s { draft = draft; first_reason = reason })) s (with_error s.draft text) c.error.new.self
    c.fail_if_refused-2.new.first_reason c.error.result c.error.ensures.logged put refused c.error.ensures.ok c.error.ensures.err c.fail_if_refused-2.ensures.ok c.fail_if_refused-2.ensures.err
