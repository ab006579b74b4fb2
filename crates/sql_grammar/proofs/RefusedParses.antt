-- The refusal of a run is that of a parse.
use Rattle.std.proofs.Common.{◌≡◌, List, arith, subst}
use Rattle.squawk_kinds.specs.Keywords.{Keywords}
use Rattle.squawk_table.specs.ParserInput.{Entry, input_of}
use Rattle.squawk_table.specs.RawTable.{IsTable, Table}
use Rattle.squawk_parser.specs.Parse.{IsRefused}
use Rattle.squawk_parser.specs.SomeSteps.{Spends}
use Rattle.squawk_parser.specs.State.{fresh}
use Rattle.squawk_parser.specs.Words.{Words}
use Rattle.squawk_parser.specs.declared.parser.parse_error.ParseError.{ParseError}
use Rattle.squawk_parser.proofs.LimitsReached.{errors_reached, events_reached, input_of-le}
use Rattle.sql_grammar.specs.Files.{Runs}
use Rattle.sql_grammar.specs.Parses.{IsRefusedParse}
use Rattle.sql_grammar.specs.declared.Detail.{Detail}
use Rattle.sql_grammar.specs.declared.Detail.TheVariants.{Tokens}

abbrev Refused : Detail → List Entry → Words → ParseError → Type 0
Refused detail input words reason = IsRefused (λ begun left. Runs detail 3 2 begun left) (fresh input words 4294967295 2147483648) reason

pub refused_parse : (detail : Detail) (contextual : Keywords) (table : Table) (words : Words) (reason : ParseError) → IsTable table
    → Refused detail (input_of contextual table) words reason → IsRefusedParse detail contextual table reason
refused_parse detail contextual table words reason is r =
    let input = input_of contextual table in
    let within = input_of-le contextual table is in
    let Alone : ParseError → Type 0 = λ reason. IsRefused (λ begun left. Spends 3 2 begun left) (fresh input words 4294967295 2147483648) reason in
    let alone : detail ≡ Tokens → Alone reason = λ d. subst (λ (d : Detail). Refused d input words reason) d r in
    record {
      words = words;
      refused = r;
      events = λ d e. omega (arith, events_reached 3 2 4294967295 2147483648 input words (subst Alone e (alone d)), within);
      errors = λ d e. omega (arith, errors_reached 3 2 4294967295 2147483648 input words (subst Alone e (alone d)), within);
    }
