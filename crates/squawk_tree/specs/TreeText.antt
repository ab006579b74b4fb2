-- The text of a tree.
use Rattle.std.specs.Prelude.{ℕ, zero, suc, ◌+◌, ◌-◌, ◌==◌, if◌then◌else◌, List, [], ◌∷◌, ◌++◌, codes, length, encode_utf8, encode_utf8_all}
use Rattle.std.specs.List.{flat_map}
use Rattle.std.specs.Fmt.{decimal}
use Rattle.squawk_kinds.specs.KindNames.{Names, kind_name}
use Rattle.squawk_table.specs.Sent.{text_in}
use Rattle.squawk_table.specs.declared.shortcuts.str_step.OwnedStep.{OwnedStep}
use Rattle.squawk_table.specs.declared.shortcuts.str_step.OwnedStep.TheVariants.{Token, Enter, Exit, Error}

-- ---- texts

-- a character between quotes: line feed, carriage return, tab, backslash and quote have a backslash and a letter or a
-- sign, all others stand as they are
abbrev pub escaped : ℕ → List ℕ
escaped c =
    if c == 10 then codes "\\n" else (
    if c == 13 then codes "\\r" else (
    if c == 9 then codes "\\t" else (
    if c == 92 then codes "\\\\" else (
    if c == 34 then codes "\\\"" else encode_utf8 c))))

-- the characters of a text, in quotes
abbrev pub quoted_text : List ℕ → List ℕ
quoted_text text = codes "\"" ++ flat_map escaped text ++ codes "\""

-- ---- bytes and nodes

-- how many bytes the text of a step has
abbrev pub bytes_in : OwnedStep → ℕ
bytes_in step = length (encode_utf8_all (text_in step))

-- how many nodes are open behind a step: a closing closes one, if one is open
abbrev pub nodes_open_behind : ℕ → OwnedStep → ℕ
nodes_open_behind depth (Token kind text) = depth
nodes_open_behind depth (Enter kind) = suc depth
nodes_open_behind depth Exit = depth - 1
nodes_open_behind depth (Error text pos) = depth

-- How many bytes of tokens are left of a node, in which so many other nodes are open: those before its closing, or all
-- where no closing closes it.
abbrev pub bytes_left : List OwnedStep → ℕ → ℕ
bytes_left [] inner = 0
bytes_left (Token kind text ∷ steps) inner = length (encode_utf8_all text) + bytes_left steps inner
bytes_left (Enter kind ∷ steps) inner = bytes_left steps (suc inner)
bytes_left (Exit ∷ steps) zero = 0
bytes_left (Exit ∷ steps) (suc inner) = bytes_left steps inner
bytes_left (Error text pos ∷ steps) inner = bytes_left steps inner

-- ---- lines

-- two spaces for each node that is open
abbrev pub indentation : ℕ → List ℕ
indentation zero = []
indentation (suc depth) = codes "  " ++ indentation depth

-- a line
abbrev pub line : ℕ → List ℕ → List ℕ
line depth shown = indentation depth ++ shown ++ codes "\n"

-- a kind from a byte to another
abbrev pub span : Names → ℕ → ℕ → ℕ → List ℕ
span names kind start end = kind_name names kind ++ codes "@" ++ decimal start ++ codes ".." ++ decimal end

-- a token from a byte to another, with its text
abbrev pub token_shown : Names → ℕ → ℕ → ℕ → List ℕ → List ℕ
token_shown names kind start end text = span names kind start end ++ codes " " ++ quoted_text text

-- an error at a byte, with its text
abbrev pub error_shown : List ℕ → ℕ → List ℕ
error_shown text pos = codes "error@" ++ decimal pos ++ codes " " ++ quoted_text text

-- the line of a step inside of so many nodes, behind so many bytes of tokens and before other steps
abbrev pub tree_line : Names → ℕ → ℕ → OwnedStep → List OwnedStep → List ℕ
tree_line names depth start (Token kind text) behind = line depth (token_shown names kind start (start + length (encode_utf8_all text)) text)
tree_line names depth start (Enter kind) behind = line depth (span names kind start (start + bytes_left behind 0))
tree_line names depth start Exit behind = []
tree_line names depth start (Error text pos) behind = line depth (error_shown text pos)

-- the lines of steps inside of so many nodes, behind so many bytes of tokens
abbrev pub text_from : Names → ℕ → ℕ → List OwnedStep → List ℕ
text_from names depth start [] = []
text_from names depth start (step ∷ steps) =
    tree_line names depth start step steps ++ text_from names (nodes_open_behind depth step) (start + bytes_in step) steps

-- The text of a tree: a line for each step but a closing.
abbrev pub tree_text : Names → List OwnedStep → List ℕ
tree_text names steps = text_from names 0 0 steps
