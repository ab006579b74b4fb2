-- The lines of an answer.
use Rattle.std.specs.Prelude.{string_bytes}
use Rattle.squawk_answer.specs.Lines.{Texts}
use Rattle.squawk_answer.specs.declared.answer.Answer.{Answer}

-- its two texts
abbrev pub answer_texts : Answer → Texts
answer_texts answer = record { errors = string_bytes answer.errors; steps = string_bytes answer.steps }
