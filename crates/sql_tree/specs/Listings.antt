-- What is listed of a text.
use Rattle.std.specs.Prelude.{ℕ, List, []}
use Rattle.squawk_table.specs.declared.shortcuts.str_step.OwnedStep.{OwnedStep}
use Rattle.squawk_tree.specs.TreeText.{tree_text}
use Rattle.sql_lexer.specs.Scripts.{script_tokens}
use Rattle.squawk_kinds.specs.EngineNames.{names_of}
use Rattle.sql_report.specs.JsonLines.{json_lines}
use Rattle.sql_report.specs.Statements.{statement_lines, statements_of}
use Rattle.sql_report.specs.TokenLines.{token_lines}
use Rattle.sql_report.specs.declared.one_walk.Asked.{Asked}
use Rattle.sql_report.specs.declared.one_walk.Asked.TheVariants as asked
use Rattle.sql_tree.specs.declared.options.Listing.{Listing}
use Rattle.sql_tree.specs.declared.options.Listing.TheVariants.{Tree, Statements, Json, Tokens, Quiet}
use Rattle.sql_tree.specs.declared.sql.Sql.{Sql}

-- what is listed of a script for which these steps are sent
abbrev pub listed_in_parts : Sql → Listing → List ℕ → List OwnedStep → List ℕ
listed_in_parts sql Tree script sent = tree_text (names_of sql.names.items) sent
listed_in_parts sql Statements script sent = statement_lines script (names_of sql.names.items) (statements_of sent)
listed_in_parts sql Json script sent = json_lines (names_of sql.names.items) sent
listed_in_parts sql Tokens script sent = []
listed_in_parts sql Quiet script sent = []

-- the raw tokens of a script, where they are asked for
abbrev pub raw_lines : Listing → List ℕ → List ℕ
raw_lines Tokens script = token_lines 0 (script_tokens script)
raw_lines listing script = []

-- what is drawn of a parse for a listing
abbrev pub asked_for : Listing → Asked
asked_for Tree = asked.Tree
asked_for Statements = asked.Nothing
asked_for Json = asked.Json
asked_for Tokens = asked.Nothing
asked_for Quiet = asked.Nothing
