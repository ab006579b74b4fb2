use Rattle.std.proofs.Common.{rules}
use Rattle.squawk_document.specs.Documents.{content_of}
use Rattle.squawk_answer.specs.AnswerLines.{answer_texts}
use Rattle.squawk_answer.proofs.Laws.{the_answer-read}
use Rattle.squawk_answer.proofs.answer.Answer.to_value.Goals as goal

pub returns-clause-answer : goal.returns-clause-answer
returns-clause-answer c = λ input is.
    the_answer-read input (content_of c.in_ok-from_value.field-0) answer_texts c.to_document.result (search rules) c.to_document.ensures.answer
