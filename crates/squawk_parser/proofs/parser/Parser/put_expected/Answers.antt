use Rattle.std.proofs.Common.{◌≡◌, ◌∙◌, ◌++◌, [], ◌∷◌, not, ap, subst}
use Rattle.std.specs.Prelude.{codes, string_bytes}
use Rattle.std.specs.Str.{chars}
use Rattle.std.proofs.lemmas.Result.{IfOk-weaker}
use Rattle.squawk_kinds.specs.KindNames.{Names, kind_name}
use Rattle.squawk_output.specs.Steps.{Error}
use Rattle.squawk_parser.specs.Eaten.{expected_text}
use Rattle.squawk_parser.specs.Recorded.{Puts}
use Rattle.squawk_parser.proofs.ParserViews.{seen}
use Rattle.squawk_parser.proofs.parser.Parser.put_expected.Goals as goal

pub returns-then-has_room_for_error : goal.returns-then-has_room_for_error
returns-then-has_room_for_error c =
    let old = c.args.self.now in
    let room : c.has_room_for_error.new.self ≡ old = (c.has_room_for_error.ensures.room c.if-has_room_for_error.true).0 in
    let seen_is : seen c.self.inside ≡ old = c.self.view_is ∙ room in
    let text = λ (names : Names). codes "expected " ++ kind_name names c.args.kind in
    let reads = IfOk-weaker c.expected-text.result (λ s. string_bytes s ≡ text c.self.inside.names) (λ s. chars (string_bytes s) ≡ expected_text old.words c.args.kind)
    (λ s is. ap chars (is ∙ ap (λ s. text s.words.names) seen_is)) c.expected-text.ensures.text in
    let puts = c.put_error.ensures (expected_text old.words c.args.kind) reads in
    let with_names = λ (names : Names). record (seen c.self.inside) { words = record { operator_first = c.self.inside.operator_first; names = names } } in
    subst (λ s. Puts (Error (expected_text old.words c.args.kind) ∷ []) s c.put_error.new.self) (ap with_names c.expected-text.ensures.same ∙ seen_is) puts

pub returns-else-has_room_for_error : goal.returns-else-has_room_for_error
returns-else-has_room_for_error c = c.has_room_for_error.ensures.full (ap not c.if-has_room_for_error.false) (expected_text c.args.self.now.words c.args.kind)
