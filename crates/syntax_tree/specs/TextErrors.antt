-- All errors of a tree, the lexical ones too.
use Rattle.std.specs.Prelude.{◌≡◌, ℕ, Option, None, List, ◌++◌, encode_utf8_all, map}
use Rattle.std.specs.List.Sorted.{IsPermutation, IsSortedByKey, IsStableByKey}
use Rattle.std.specs.Ordering.{nat_cmp}
use Rattle.squawk_tokens.specs.LexicalErrors.{LexicalError}
use Rattle.squawk_tree.specs.Forest.{Forest}
use Rattle.syntax_tree.specs.Errors.{error_of}
use Rattle.syntax_tree.specs.Layout.{Laid, errors_of}
use Rattle.syntax_tree.specs.Walks.{InTree, in_tree}
use Rattle.syntax_tree.specs.declared.text_errors.TextError.{TextError}
use Rattle.syntax_tree.specs.declared.text_errors.TextError.TheVariants.{Lexical, Grammar}
use Rattle.syntax_tree.specs.declared.tree.TreeError.{TreeError}

-- where an error stands, what it says, and what is wanted; a lexical error stands where it starts
abbrev pub place_of : TextError → ℕ
place_of (Lexical error) = error.now.start
place_of (Grammar error) = (error_of error).it.pos

abbrev pub message_of : TextError → List ℕ
message_of (Lexical error) = error.now.message
message_of (Grammar error) = encode_utf8_all (error_of error).it.msg

abbrev pub hint_of : TextError → Option (List ℕ)
hint_of (Lexical error) = error.now.hint
hint_of (Grammar error) = None

-- an error that is a lexical one, or one of a tree
pub data Meaning : Type 0 where
  OfLexer : LexicalError → Meaning
  OfGrammar : InTree TreeError → Meaning

abbrev pub meant : TextError → Meaning
meant (Lexical error) = OfLexer error.now
meant (Grammar error) = OfGrammar (error_of error)

-- the lexical errors, and behind them those of the tree
abbrev pub all_errors : Laid → Forest → List Meaning
all_errors laid tree = map OfLexer laid.lexical ++ map OfGrammar (map (in_tree laid) (errors_of tree 4294967295 0 0))

-- These are all errors, sorted by their places. Those at one place stand as they stood.
pub record AreByPlace (laid : Laid) (tree : Forest) (errors : List TextError) : Type 0 where
  pub gathered : List TextError
  pub mean : map meant gathered ≡ all_errors laid tree
  pub same : IsPermutation gathered errors
  pub sorted : IsSortedByKey place_of nat_cmp errors
  pub stable : IsStableByKey place_of nat_cmp gathered errors
