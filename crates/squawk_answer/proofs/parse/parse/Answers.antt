use Rattle.std.proofs.Common.{ap}
use Rattle.squawk_document.specs.DocumentGrammars.{grammar_content}
use Rattle.squawk_document.specs.KeywordAnswers.{answers}
use Rattle.squawk_table.specs.ParserInput.{input_of}
use Rattle.squawk_parser.specs.Words.{words_of}
use Rattle.squawk_answer.proofs.TinyAnswered.{tiny-returned}
use Rattle.squawk_answer.proofs.parse.parse.Goals as goal

pub returns-in-Tiny-clause-parsed : goal.returns-in-Tiny-clause-parsed
returns-in-Tiny-clause-parsed c =
    tiny-returned c.parse_tiny.result (λ output. output.steps) (grammar_content c.args.grammar) (input_of (answers c.args.vocabulary.now).contextual.kind_of c.args.table.now)
    c.args.table.now (ap grammar_content c.in-Tiny.is) c.parse_tiny.ensures.parsed (words_of (record { operator_first = c.args.operator_first; names = c.args.names }))
