use Rattle.std.proofs.Common.{◌≡◌, ◌∙◌, ◌++◌, Ok, Err, ap, subst}
use Rattle.std.specs.Prelude.{map, string_bytes}
use Rattle.squawk_document.specs.Documents.{Content, content_of}
use Rattle.squawk_tokens.specs.AcceptedTokens.{AreAcceptedTokens}
use Rattle.squawk_table.specs.RawTable.{table_of}
use Rattle.squawk_parser.specs.Words.{words_of}
use Rattle.squawk_answer.specs.Answers.{ParseOf, Returns, steps as steps_of, table_for}
use Rattle.squawk_answer.specs.Lines.{last_line, lex_lines, step_lines}
use Rattle.squawk_answer.proofs.Answered.{fault-returned, parse-returned, parse_fault-returned, texts-returned}
use Rattle.squawk_answer.proofs.answer.Answer.to_document.Goals as goal

pub returns-in_err-output-clause-answer : goal.returns-in_err-output-clause-answer
returns-in_err-output-clause-answer c =
    let d : Content = content_of c.args.document in
    let tokens = c.deref.ensures.value in
    let accepted = subst (AreAcceptedTokens d.text) tokens c.in_ok-table.ensures.accepted in
    let table : c.in_ok-table.table ≡ table_for d = c.in_ok-table.ensures.table ∙ ap (table_of d.vocabulary.keywords.kind_of d.text) tokens in
    let names = c.deref-2.ensures.value in
    let words : words_of (record { operator_first = d.words.operator_first; names = c.deref-2.result }) ≡ d.words =
    λ i. record { operator_first = d.words.operator_first; names = map (λ pair. (pair.0, pair.1.now)) (names i) } in
    let fault = c.in_err-output.field-0.0 in
    fault-returned c.from_residual-in_err-output.result _ (λ f. Returns d (Err f)) fault c.from_residual-in_err-output.ensures.1
    (parse_fault-returned d fault accepted (parse-returned d c.in_ok-table.table _ (Err fault) table words c.in_err-output.ensures.parsed))

pub returns-clause-answer : goal.returns-clause-answer
returns-clause-answer c =
    let d : Content = content_of c.args.document in
    let tokens = c.deref.ensures.value in
    let accepted = subst (AreAcceptedTokens d.text) tokens c.in_ok-table.ensures.accepted in
    let table : c.in_ok-table.table ≡ table_for d = c.in_ok-table.ensures.table ∙ ap (table_of d.vocabulary.keywords.kind_of d.text) tokens in
    let names = c.deref-2.ensures.value in
    let words : words_of (record { operator_first = d.words.operator_first; names = c.deref-2.result }) ≡ d.words =
    λ i. record { operator_first = d.words.operator_first; names = map (λ pair. (pair.0, pair.1.now)) (names i) } in
    let parse = parse-returned d c.in_ok-table.table _ (Ok c.in_ok-output.output.steps) table words c.in_ok-output.ensures.parsed in
    let steps : c.in_ok-output.output.steps ≡ steps_of d = parse.2 in
    let errors = c.in_ok-errors.ensures ∙ ap lex_lines c.errors.ensures.errors in
    let all = c.str_steps.result.eaten_all in
    let sent = c.in_ok-steps.ensures ∙ ap (λ steps. step_lines steps ++ last_line all) c.str_steps.ensures.steps in
    let texts = texts-returned d c.in_ok-table.table c.in_ok-output.output.steps all (string_bytes c.in_ok-errors.errors) (string_bytes c.in_ok-steps.steps) table steps c.str_steps.ensures.all errors sent in
    ((accepted, subst (λ s. ParseOf d (Ok s)) steps parse), texts)
