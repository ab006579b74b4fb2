-- The refusals of a part as those of a call on a text of a script.
use Rattle.std.proofs.Common.{◌≢◌, ℕ, Bool, List}
use Rattle.std.specs.Prelude.{IsUtf8}
use Rattle.squawk_keywords.specs.declared.keywords.Keywords.{Keywords}
use Rattle.squawk_parser.specs.declared.parser.parse_error.ParseError.{ParseError}
use Rattle.squawk_parser.specs.declared.parser.parse_error.ParseError.TheVariants as parse
use Rattle.sql_grammar.specs.ReadParts.{BeginsText, IsRefusedPart, Reading}
use Rattle.sql_words.specs.SqlVocabulary.{KnowsKeywords}
use Rattle.caliperdock_c.specs.Answers.{refusal_of_parse}
use Rattle.caliperdock_c.specs.Parts.{IsRefusedFrom, place_of_number}
use Rattle.caliperdock_c.specs.Sql.{RefusesSql}

pub of_part : (place : ℕ) (is_last : Bool) (read : List ℕ) (reason : ParseError) (keywords : Keywords) (reading : Reading) → IsUtf8 read → KnowsKeywords keywords
    → BeginsText read (place_of_number place) is_last reading → (reason ≢ parse.OutOfMemory → IsRefusedPart keywords reading.begun reading.lexer.text reason)
    → RefusesSql (IsRefusedFrom place is_last) read (refusal_of_parse reason)
of_part place is_last read parse.OutOfMemory keywords reading utf8 known begins r = utf8
of_part place is_last read parse.TooManyEvents keywords reading utf8 known begins r =
    record { keywords = keywords; known = known; reading = reading; begins = begins; refused = r (λ same. let p = same in cc) }
of_part place is_last read parse.TooManyErrors keywords reading utf8 known begins r =
    record { keywords = keywords; known = known; reading = reading; begins = begins; refused = r (λ same. let p = same in cc) }
