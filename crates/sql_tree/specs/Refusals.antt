-- Why a text isn't told of to its end.
use Rattle.std.specs.Prelude.{ℕ, List, ◌++◌, codes}
use Rattle.std.specs.Fmt.{decimal}
use Rattle.squawk_parser.specs.declared.parser.parse_error.ParseError.{ParseError}
use Rattle.squawk_parser.specs.declared.parser.parse_error.ParseError.TheVariants as parse
use Rattle.sql_lexer.specs.declared.tokenizer.TokenizeError.{TokenizeError}
use Rattle.sql_lexer.specs.declared.tokenizer.TokenizeError.TheVariants as lexer
use Rattle.sql_reader.specs.ReadErrors.{io_words}
use Rattle.sql_reader.specs.declared.read_error.ReadError.{ReadError}
use Rattle.sql_reader.specs.declared.read_error.ReadError.TheVariants as reader
use Rattle.sql_tree.specs.declared.unread.Unread.{Unread}
use Rattle.sql_tree.specs.declared.unread.Unread.TheVariants.{Io, NotUtf8, TextTooLong, TooManyEvents, TooManyErrors, OutOfMemory}

-- the reader's refusals
abbrev pub unread_of_reader : ReadError → Unread
unread_of_reader (reader.Io kind) = Io kind
unread_of_reader (reader.NotUtf8 at) = NotUtf8 at

-- the lexer's
abbrev pub unread_of_lexer : TokenizeError → Unread
unread_of_lexer lexer.TextTooLong = TextTooLong
unread_of_lexer lexer.OutOfMemory = OutOfMemory

-- those of a parse
abbrev pub unread_of_parse : ParseError → Unread
unread_of_parse parse.OutOfMemory = OutOfMemory
unread_of_parse parse.TooManyEvents = TooManyEvents
unread_of_parse parse.TooManyErrors = TooManyErrors

-- what is printed for a text that isn't told of to its end
abbrev pub unread_line : Unread → List ℕ
unread_line (Io kind) = io_words kind
unread_line (NotUtf8 at) = codes "invalid UTF-8 at byte " ++ decimal at
unread_line TextTooLong = codes "more than 4294967295 bytes"
unread_line TooManyEvents = codes "too many events"
unread_line TooManyErrors = codes "too many errors"
unread_line OutOfMemory = codes "out of memory"
