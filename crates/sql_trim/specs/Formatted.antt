-- The text of a tree without blanks at the ends of lines.
use Rattle.std.specs.Prelude.{◌≡◌, ℕ, ◌==◌, ◌&&◌, ◌||◌, Bool, true, List, [], ◌∷◌, ◌++◌, encode_utf8_all, map, if◌then◌else◌}
use Rattle.squawk_kinds.specs.Kinds.{WHITESPACE}
use Rattle.squawk_parser.specs.Pipeline.{Given}
use Rattle.squawk_tree.specs.Forest.{Forest}
use Rattle.sql_syntax.specs.SqlTrees.{IsSqlTree}
use Rattle.syntax_tree.specs.Layout.{Laid}
use Rattle.syntax_tree.specs.Trees.{descendants_of, kind_at, text_at, tokens_among}
use Rattle.sql_trim.specs.Trimmed.{has_line_feed, trimmed}

-- the text of a token, and whether it is white space
pub record Piece : Type 0 where
  pub is_white : Bool
  pub bytes : List ℕ

abbrev pub white : List ℕ → Piece
white bytes = record { is_white = true; bytes = bytes }

abbrev pub piece_at : Forest → ℕ → Piece
piece_at tree at = record { is_white = kind_at tree at == WHITESPACE; bytes = encode_utf8_all (text_at tree at) }

-- those of all tokens of a tree, in order
abbrev pub pieces_of : Forest → List Piece
pieces_of tree = map (piece_at tree) (tokens_among tree (descendants_of tree 0))

-- whether a line ends in front of pieces: before a line feed, or the end, stands only white space
abbrev pub ends_line : List Piece → Bool
ends_line [] = true
ends_line (piece ∷ behind) = piece.is_white && (ends_line behind || has_line_feed piece.bytes)

-- what is left of a piece before others: no piece changes but white space, of which each blank goes behind which a line ends
abbrev pub left_of : Piece → List Piece → List ℕ
left_of piece behind = if piece.is_white then trimmed (ends_line behind) piece.bytes else piece.bytes

-- what is left of pieces
abbrev pub formatted : List Piece → List ℕ
formatted [] = []
formatted (piece ∷ behind) = left_of piece behind ++ formatted behind

-- a text is what is left of a tree that has all of what is given
pub record IsTrimmed (g : Given) (text : List ℕ) : Type 0 where
  pub laid : Laid
  pub is_tree : IsSqlTree g laid
  pub formatted_is : text ≡ formatted (pieces_of is_tree.parsed.tree)
