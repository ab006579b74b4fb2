use Rattle.std.proofs.Common.{◌≡◌, ◌∙◌, ◌<◌, ap, sym, subst}
use Rattle.squawk_kinds.specs.TokenSets.{has}
use Rattle.squawk_parser.specs.Operators.{operator_length}
use Rattle.squawk_parser.specs.State.{IsSound, ahead}
use Rattle.squawk_parser.proofs.Progress.{operator-some}
use Rattle.squawk_parser.proofs.PlainKinds.{kind_at-ahead}
use Rattle.squawk_parser.proofs.parser.Parser.nth_op_len.Goals as goal

pub returns-clause-some : goal.returns-clause-some
returns-clause-some c some =
    let s = c.args.self.now in
    let n = c.args.n in
    let operator_kind = has s.words.operator_first in
    let len : c.operator_len.result ≡ operator_length operator_kind (ahead s n) =
    c.operator_len.ensures ∙ (ap (λ set. operator_length (has set) c.view.result) (ap (λ s. s.words.operator_first) c.self.view_is) ∙ ap (operator_length operator_kind) c.view.ensures) in
    let sound : IsSound s = subst IsSound c.self.view_is c.self.invariant in
    subst (λ n. 0 < n) (sym len) (operator-some operator_kind (ahead s n) sound.words (ap operator_kind (sym (kind_at-ahead s n sound)) ∙ some))
