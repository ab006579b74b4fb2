-- The lines of texts without a tree.
use Rattle.std.specs.Prelude.{ℕ, List, codes}
use Rattle.squawk_tokens.specs.ErrorLines.{table_error_line}
use Rattle.squawk_parser.specs.ErrorLines.{parse_error_line}
use Rattle.syntax_tree.specs.declared.parse.errors.ParseTreeError.{ParseTreeError}
use Rattle.syntax_tree.specs.declared.parse.errors.ParseTreeError.TheVariants.{Table, Input, Parse, NoRoot, TooLarge, OutOfMemory}

-- what is printed where a stage refused: its own line
abbrev pub parse_tree_error_line : ParseTreeError → List ℕ
parse_tree_error_line (Table reason) = table_error_line reason
parse_tree_error_line (Input reason) = codes "memory"
parse_tree_error_line (Parse reason) = parse_error_line reason
parse_tree_error_line NoRoot = codes "no root"
parse_tree_error_line TooLarge = codes "tree too large"
parse_tree_error_line OutOfMemory = codes "memory"
