-- The grammar of a document.
use Rattle.std.specs.Prelude.{ℕ, List, Result, Ok, Err, codes, if◌then◌else◌}
use Rattle.serde_json.specs.Data.{Data}
use Rattle.squawk_parser.specs.declared.parser.grammar.EntryPoint.{EntryPoint}
use Rattle.squawk_parser.specs.declared.parser.grammar.EntryPoint.TheVariants.{SourceFile, Plpgsql}
use Rattle.squawk_script.specs.declared.call.Call.{Call}
use Rattle.squawk_document.specs.declared.document_error.DocumentError.{DocumentError}
use Rattle.squawk_document.specs.declared.document_error.DocumentError.TheVariants.{Shape}
use Rattle.squawk_document.specs.declared.grammar.DocumentGrammar.{DocumentGrammar}
use Rattle.squawk_document.specs.declared.grammar.DocumentGrammar.TheVariants.{Calls, Tiny}
use Rattle.squawk_document.specs.Calls.{calls_in}
use Rattle.squawk_document.specs.Values.{◌>>=◌, is_text, items_in, string_in, with_len}

-- calls from an entry point, or the small grammar
pub data GrammarContent : Type 0 where
  by_calls : EntryPoint → List Call → GrammarContent
  by_tiny : GrammarContent

-- these calls, from an entry point
abbrev pub calls_from : EntryPoint → Data → Result GrammarContent DocumentError
calls_from entry d = calls_in d >>= λ calls. Ok (by_calls entry calls)

-- the small grammar, which has no calls
abbrev pub no_calls_in : Data → Result GrammarContent DocumentError
no_calls_in d = items_in d >>= with_len 0 >>= λ none. Ok by_tiny

-- the grammar of this name, with the JSON of its calls
abbrev pub grammar_spelled : List ℕ → Data → Result GrammarContent DocumentError
grammar_spelled spelling d =
    if is_text spelling (codes "sql") then calls_from SourceFile d else
    if is_text spelling (codes "plpgsql") then calls_from Plpgsql d else
    if is_text spelling (codes "tiny") then no_calls_in d else
    Err Shape

-- the grammar of two members of a document: its name and its calls
abbrev pub grammar_in : Data → Data → Result GrammarContent DocumentError
grammar_in entry calls = string_in entry >>= λ spelling. grammar_spelled spelling calls

-- the content of a grammar that was read
abbrev pub grammar_content : DocumentGrammar → GrammarContent
grammar_content (Calls entry calls) = by_calls entry calls.items
grammar_content Tiny = by_tiny
