use Rattle.std.proofs.Common.{Err}
use Rattle.squawk_document.specs.DocumentGrammars.{by_tiny}
use Rattle.squawk_document.specs.KeywordAnswers.{answers}
use Rattle.squawk_table.specs.ParserInput.{input_of}
use Rattle.squawk_parser.specs.Words.{Words}
use Rattle.squawk_answer.specs.Answers.{ParseReturns}
use Rattle.squawk_answer.specs.declared.fault.Fault.TheVariants.{Parse}
use Rattle.squawk_answer.proofs.Answered.{fault-returned}
use Rattle.squawk_answer.proofs.TinyAnswered.{none-tiny, refusal-tiny, steps-tiny}
use Rattle.squawk_answer.proofs.parse.parse_tiny.Goals as goal

pub returns-in_err-output-clause-parsed : goal.returns-in_err-output-clause-parsed
returns-in_err-output-clause-parsed c =
    let input = input_of (answers c.args.vocabulary.now).contextual.kind_of c.args.table.now in
    let reason = c.in_err-output.field-0.0 in
    fault-returned c.from_residual.result _ (λ fault. (words : Words) → ParseReturns by_tiny words input c.args.table.now (Err fault)) (Parse reason)
    c.from_residual.ensures.1
    (λ words. (tt, refusal-tiny words input _ reason c.in_err-output.ensures.refused))

pub returns-clause-parsed : goal.returns-clause-parsed
returns-clause-parsed c =
    let input = input_of (answers c.args.vocabulary.now).contextual.kind_of c.args.table.now in
    let output = c.in_ok-output.output in
    let known = c.in_ok-output.ensures in
    λ words. ((tt, none-tiny words input output known.output known.within), known.fits, steps-tiny words input output known.output)
