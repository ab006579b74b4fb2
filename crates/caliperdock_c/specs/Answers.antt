-- Answers as numbers.
use Rattle.std.specs.Prelude.{ℕ}
use Rattle.squawk_tokens.specs.declared.check.TableError.TheVariants as table
use Rattle.squawk_parser.specs.declared.parser.parse_error.ParseError.{ParseError}
use Rattle.squawk_parser.specs.declared.parser.parse_error.ParseError.TheVariants as parse
use Rattle.sql_lexer.specs.declared.tokenizer.TokenizeError.{TokenizeError}
use Rattle.sql_lexer.specs.declared.tokenizer.TokenizeError.TheVariants as lexer
use Rattle.caliperdock_c.specs.declared.answer.CAnswer.{CAnswer}
use Rattle.caliperdock_c.specs.declared.answer.Refusal.{Refusal}
use Rattle.caliperdock_c.specs.declared.answer.Refusal.TheVariants.{OutOfMemory, NotUtf8, UnknownToken, Table, TooManyEvents, UnknownEvent, BadLink, NoRoot, DoesNotFit, TooManyErrors}

abbrev pub answer : ℕ → ℕ → CAnswer
answer status place = record { status = status; place = place }

-- all is written
abbrev pub done : CAnswer
done = answer 0 0

-- there is more than there is room for
abbrev pub too_small : CAnswer
too_small = answer 1 0

-- the status of a refusal, and the place that it speaks of
abbrev pub answer_of : Refusal → CAnswer
answer_of OutOfMemory = answer 2 0
answer_of (NotUtf8 at) = answer 3 at
answer_of (UnknownToken i) = answer 4 i
answer_of (Table table.OutOfMemory) = answer 2 0
answer_of (Table table.TextTooLong) = answer 5 0
answer_of (Table (table.BadToken i)) = answer 6 i
answer_of (Table (table.TextLeft at)) = answer 7 at
answer_of TooManyEvents = answer 8 0
answer_of (UnknownEvent i) = answer 9 i
answer_of (BadLink i) = answer 10 i
answer_of NoRoot = answer 11 0
answer_of DoesNotFit = answer 12 0
answer_of TooManyErrors = answer 13 0

-- the lexer's refusals
abbrev pub refusal_of_lexer : TokenizeError → Refusal
refusal_of_lexer lexer.TextTooLong = Table table.TextTooLong
refusal_of_lexer lexer.OutOfMemory = OutOfMemory

-- those of a parse
abbrev pub refusal_of_parse : ParseError → Refusal
refusal_of_parse parse.OutOfMemory = OutOfMemory
refusal_of_parse parse.TooManyEvents = TooManyEvents
refusal_of_parse parse.TooManyErrors = TooManyErrors
