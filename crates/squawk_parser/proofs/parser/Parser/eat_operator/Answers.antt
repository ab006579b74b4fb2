use Rattle.std.proofs.Common.{◌≡◌, ◌∙◌, arith, ap, sym, subst}
use Rattle.squawk_kinds.specs.TokenSets.{has}
use Rattle.squawk_parser.specs.Operators.{operator_length}
use Rattle.squawk_parser.specs.State.{IsSound, ahead}
use Rattle.squawk_parser.proofs.EatenOperator.{are_eaten-all, are_eaten-next}
use Rattle.squawk_parser.proofs.Progress.{operator-eats}
use Rattle.squawk_parser.proofs.Markers.{open_marker-put}
use Rattle.squawk_parser.proofs.RecordedSteps.{node_puts}
use Rattle.squawk_parser.proofs.SeenSteps.{ahead-still}
use Rattle.squawk_parser.proofs.parser.Parser.eat_operator.Goals as goal

pub loop-preserved : goal.loop-preserved
loop-preserved c =
    let old = c.args.self.now in
    let l = c.loop in
    let operator_kind = has c.self.inside.operator_first in
    let seen = c.view.ensures ∙ sym (ahead-still c.start-node.ensures.begins.keeps c.start-node.ensures.begins.position) in
    let len : c.operator_len-len.result ≡ operator_length operator_kind (ahead c.start-node.new.self 0) =
    c.operator_len-len.ensures ∙ ap (operator_length operator_kind) seen in
    are_eaten-next operator_kind l.counter c.start-node.new.self l.self c.bump_any.new.self c.self.invariant.words (omega (arith, len, c.loop-test.true)) l.invariant
    c.bump_any.ensures.puts

pub complete-requires-clause-open_marker : goal.complete-requires-clause-open_marker
complete-requires-clause-open_marker c =
    let start = c.start-node.ensures in
    open_marker-put c.start-node.result start.open_marker c.loop.invariant.puts

pub returns-clause-puts : goal.returns-clause-puts
returns-clause-puts c =
    let old = c.args.self.now in
    let begun = c.start-node.new.self in
    let l = c.loop in
    let start = c.start-node.ensures in
    let done = c.complete.ensures in
    let words : c.self.inside.operator_first ≡ old.words.operator_first = ap (λ s. s.words.operator_first) c.self.view_is in
    let len : c.operator_len-len.result ≡ operator_length (has old.words.operator_first) (ahead old 0) =
    c.operator_len-len.ensures ∙ (ap (λ set. operator_length (has set) c.view.result) words ∙ ap (operator_length (has old.words.operator_first)) c.view.ensures) in
    let all_of_it : l.counter ≡ operator_length (has old.words.operator_first) (ahead old 0) = omega (arith, len, c.loop-test.false, l.auto.counter-end) in
    let all = are_eaten-all (has old.words.operator_first) l.counter begun l.self (ahead old 0) all_of_it (ahead-still start.begins.keeps start.begins.position) l.invariant in
    node_puts start.begins all done.completes

pub returns-clause-eats : goal.returns-clause-eats
returns-clause-eats c first =
    let old = c.args.self.now in
    let sound : IsSound old = subst IsSound c.self.view_is c.self.invariant in
    let operator = operator-eats (has old.words.operator_first) c.args.kind (ahead old 0) sound.words first in
    omega (arith, operator, (returns-clause-puts c).position)
