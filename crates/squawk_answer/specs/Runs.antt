-- What a run does with the bytes that a reader has left and a writer holds, if those are known.
use Rattle.std.specs.Prelude.{ℕ, List, Option, Ok, Err, IfSome}
use Rattle.std.specs.Io.KnownBytes.{Appends}
use Rattle.squawk_answer.specs.Answers.{IsTheAnswer}
use Rattle.squawk_answer.specs.Lines.{Texts, joined}
use Rattle.squawk_answer.specs.Writes.{AppendsPart}
use Rattle.squawk_answer.specs.declared.fault.Fault.{Fault}

-- the lines of the answer to the input are written
abbrev pub WritesAnswer : Option (List ℕ) → Option (List ℕ) → Option (List ℕ) → Type 0
WritesAnswer input old new = IfSome input (λ bytes. (texts : Texts) × IsTheAnswer bytes (Ok texts) × Appends old new (joined texts))

-- a prefix of them is, and not all
abbrev pub WritesPart : Option (List ℕ) → Option (List ℕ) → Option (List ℕ) → Type 0
WritesPart input old new = IfSome input (λ bytes. (texts : Texts) × IsTheAnswer bytes (Ok texts) × AppendsPart old new (joined texts))

-- the answer to the input is this fault
abbrev pub AnswersFault : Option (List ℕ) → Fault → Type 0
AnswersFault input fault = IfSome input (λ bytes. IsTheAnswer bytes (Err fault))
