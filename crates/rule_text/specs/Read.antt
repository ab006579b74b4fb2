-- When a text is rules, and when it isn't.
use Rattle.std.specs.Prelude.{ℕ, List, length, ⊤}
use Rattle.rule_parts.specs.declared.Part.{Part}
use Rattle.sql_lexer.specs.Tokens.{RefusesText, tokens_of}
use Rattle.rule_text.specs.declared.error.ReadError.{ReadError}
use Rattle.rule_text.specs.declared.error.ReadError.TheVariants.{Expected, Memory, Tokens, TooDeep}
use Rattle.rule_text.specs.declared.word.Word.{Word}
use Rattle.rule_text.specs.Rules.{Rules}
use Rattle.rule_text.specs.Words.{AreWords}

-- All the words of a text write these parts.
pub record IsRead (text : List ℕ) (parts : List Part) : Type 0 where
  pub words : List Word
  pub spelled : AreWords text (tokens_of text) (length (tokens_of text)) words
  pub written : Rules words 0 (length words) parts

-- No parts are written by all the words of a text.
pub record IsUnwritten (text : List ℕ) : Type 0 where
  pub words : List Word
  pub spelled : AreWords text (tokens_of text) (length (tokens_of text)) words
  pub unwritten : (parts : List Part) → Rules words 0 (length words) parts → ⊥

-- why a text isn't read
abbrev pub Refuses : List ℕ → ReadError → Type 0
Refuses text (Tokens reason) = RefusesText text reason
Refuses text (Expected what at) = IsUnwritten text
Refuses text (TooDeep at) = ⊤
Refuses text (Memory reason) = ⊤
