use Rattle.std.proofs.Common.{◌∙◌, Err, subst, sym}
use Rattle.squawk_document.specs.DocumentGrammars.{by_calls}
use Rattle.squawk_table.specs.ParserInput.{input_of}
use Rattle.squawk_table.specs.Shape.{Fits}
use Rattle.squawk_document.specs.KeywordAnswers.{answers}
use Rattle.squawk_parser.specs.Words.{words_of}
use Rattle.squawk_answer.specs.Answers.{ParseReturns}
use Rattle.squawk_answer.specs.declared.fault.Fault.TheVariants.{Parse}
use Rattle.squawk_answer.proofs.Answered.{fault-returned, limit-returned, none-refused, refusal-same, steps-returned}
use Rattle.squawk_answer.proofs.parse.parse_calls.Goals as goal

pub returns-in_err-output-clause-parsed : goal.returns-in_err-output-clause-parsed
returns-in_err-output-clause-parsed c =
    let words = words_of (record { operator_first = c.args.operator_first; names = c.args.names }) in
    let cs = c.args.calls.items in
    let input = input_of (answers c.args.vocabulary.now).contextual.kind_of c.args.table.now in
    let reason = c.in_err-output.field-0.0 in
    fault-returned c.from_residual-in_err-output.result _ (λ fault. ParseReturns (by_calls c.args.entry cs) words input c.args.table.now (Err fault)) (Parse reason)
    c.from_residual-in_err-output.ensures.1 (
      c.in_ok-script.ensures.accepted,
      λ other. sym (refusal-same c.args.entry cs words input c.in_ok-script.script c.in_ok-input.input c.in_ok-script.ensures.script c.in_ok-input.ensures.input)
          ∙ limit-returned c.in_ok-script.script _ reason c.in_err-output.ensures.refused other,
    )

pub returns-then-not-stands_in_one_root-clause-parsed : goal.returns-then-not-stands_in_one_root-clause-parsed
returns-then-not-stands_in_one_root-clause-parsed c =
    let words = words_of (record { operator_first = c.args.operator_first; names = c.args.names }) in
    let cs = c.args.calls.items in
    let input = input_of (answers c.args.vocabulary.now).contextual.kind_of c.args.table.now in
    let parse = c.in_ok-output.ensures.output in
    let steps = steps-returned c.args.entry cs words input c.in_ok-script.script c.in_ok-input.input c.in_ok-script.ensures.script c.in_ok-input.ensures.input c.in_ok-output.output parse in
    let none = none-refused c.args.entry cs words input c.in_ok-script.script c.in_ok-input.input c.in_ok-script.ensures.script c.in_ok-input.ensures.input c.in_ok-output.output parse c.in_ok-output.ensures.within in
    ((c.in_ok-script.ensures.accepted, none), λ fits. absurd (let yes = c.stands_in_one_root.ensures.1 (subst (Fits c.args.table.now) (sym steps) fits).root in let no = c.if-not-stands_in_one_root.true in cc))

pub returns-clause-parsed : goal.returns-clause-parsed
returns-clause-parsed c =
    let words = words_of (record { operator_first = c.args.operator_first; names = c.args.names }) in
    let cs = c.args.calls.items in
    let input = input_of (answers c.args.vocabulary.now).contextual.kind_of c.args.table.now in
    let parse = c.in_ok-output.ensures.output in
    let steps = steps-returned c.args.entry cs words input c.in_ok-script.script c.in_ok-input.input c.in_ok-script.ensures.script c.in_ok-input.ensures.input c.in_ok-output.output parse in
    let none = none-refused c.args.entry cs words input c.in_ok-script.script c.in_ok-input.input c.in_ok-script.ensures.script c.in_ok-input.ensures.input c.in_ok-output.output parse c.in_ok-output.ensures.within in
    let fits : Fits c.args.table.now c.in_ok-output.output.steps =
    record { root = c.stands_in_one_root.ensures.0 (let p = c.if-not-stands_in_one_root.false in cc); over = c.in_ok-input.ensures.over c.in_ok-output.output.steps parse.over } in
    ((c.in_ok-script.ensures.accepted, none), fits, steps)
