-- What a document holds.
use Rattle.std.specs.Prelude.{◌≡◌, ◌≤◌, ℕ, Some, None, List, [], length}
use Rattle.squawk_keywords.specs.declared.keywords.Keywords.{Keywords}
use Rattle.rule_grammar.specs.declared.rules.RuleGrammar.{RuleGrammar}
use Rattle.sql_lexer.specs.declared.script.script_place.ScriptPlace.TheVariants as script
use Rattle.sql_words.specs.SqlVocabulary.{KnowsKeywords}
use Rattle.sql_grammar.specs.declared.script_parts.ScriptPart.{ScriptPart}
use Rattle.sql_document.specs.Pieces.{AreChain, text_of}
use Rattle.sql_document.specs.declared.piece.Piece.{Piece}

-- The pieces stand one after another from the front to the end of a script of so many bytes.
pub record IsHeld {Kept : Type 0} (keeps : ScriptPart → Kept → Type 0) (vocabulary : Keywords) (rules : RuleGrammar) (pieces : List (Piece Kept)) (len : ℕ) : Type 0 where
  pub knows : KnowsKeywords vocabulary
  pub chain : AreChain keeps vocabulary rules (Some script.Front) pieces None (text_of pieces) []
  pub len_is : len ≡ length (text_of pieces)
  pub short : len ≤ 4294967295
