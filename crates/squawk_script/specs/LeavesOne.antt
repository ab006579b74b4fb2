-- A script leaves one draft.
use Rattle.std.specs.Prelude.{◌≡◌, List}
use Rattle.squawk_table.specs.ParserInput.{Entry}
use Rattle.squawk_output.specs.Draft.{Draft}
use Rattle.squawk_parser.specs.declared.parser.grammar.EntryPoint.{EntryPoint}
use Rattle.squawk_script.specs.Meaning.{Meaning}
use Rattle.squawk_script.specs.contracts.script.grammar.ScriptGrammar.TheImpl as grammar

-- What a script, as a grammar, may leave over an input is one draft, from whichever entry points.
abbrev pub LeavesOne : Meaning → Type 0
LeavesOne script = (input : List Entry) (from other : EntryPoint) (one two : Draft)
    → grammar.leaves-value.it script from input one → grammar.leaves-value.it script other input two → one ≡ two
