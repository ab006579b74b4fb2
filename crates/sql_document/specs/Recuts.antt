-- Old pieces are read again. Only private functions speak of it.
use Rattle.std.specs.Prelude.{◌≡◌, ◌≤◌, ◌<◌, ◌+◌, ℕ, suc, Some, None, List, [], ◌∷◌, ◌++◌, drop, length, string_bytes, take}
use Rattle.squawk_keywords.specs.declared.keywords.Keywords.{Keywords}
use Rattle.rule_grammar.specs.declared.rules.RuleGrammar.{RuleGrammar}
use Rattle.sql_lexer.specs.declared.script.script_place.ScriptPlace.{ScriptPlace}
use Rattle.sql_grammar.specs.declared.script_parts.ScriptPart.{ScriptPart}
use Rattle.sql_document.specs.Pieces.{AreChain, text_of}
use Rattle.sql_document.specs.declared.piece.Piece.{Piece}

-- a text ends with the piece of this index
pub record EndsWithPiece {Kept : Type 0} (old : List (Piece Kept)) (text : List ℕ) (k : ℕ) : Type 0 where
  pub piece : Piece Kept
  pub there : drop k old ≡ piece ∷ drop (suc k) old
  pub front : List ℕ
  pub text_is : text ≡ front ++ string_bytes piece.text

-- the texts of old pieces from one index up to another are added to a text
pub record Grows {Kept : Type 0} (old : List (Piece Kept)) (text now : List ℕ) (from last : ℕ) : Type 0 where
  pub added : List ℕ
  pub text_is : now ≡ text ++ added
  pub tail_is : text_of (drop from old) ≡ added ++ text_of (drop last old)
  pub order : from ≤ last
  pub within : last ≤ length old
  pub ends : (k : ℕ) → suc k ≡ last → from ≤ k → EndsWithPiece old now k

-- the old pieces from each index on stand one after another up to the end
abbrev pub AreTails : {Kept : Type 0} → (ScriptPart → Kept → Type 0) → Keywords → RuleGrammar → List (Piece Kept) → ℕ → Type 0
AreTails {Kept} keeps vocabulary rules old from = (k : ℕ) → from ≤ k → k < length old
    → (piece : Piece Kept) × (drop k old ≡ piece ∷ drop (suc k) old) × AreChain keeps vocabulary rules (Some piece.place) (drop k old) None (text_of (drop k old)) []

-- so many bytes are a piece's, which stands at this place
abbrev pub IsMet : {Kept : Type 0} → Piece Kept → ℕ → ScriptPlace → Type 0
IsMet piece left place = (length (string_bytes piece.text) ≡ left) × (piece.place ≡ place)

-- a piece that begins at a byte depends on nothing from a place on
abbrev pub IsBefore : {Kept : Type 0} → ℕ → Piece Kept → ℕ → Type 0
IsBefore start piece place = (seen : ℕ) × (piece.seen ≡ Some seen) × (start + length (string_bytes piece.text) + seen < place)

-- so do pieces, of which the first begins at a byte
abbrev pub StandBefore : {Kept : Type 0} → ℕ → List (Piece Kept) → ℕ → Type 0
StandBefore start [] place = Unit {0}
StandBefore start (piece ∷ pieces) place = IsBefore start piece place × StandBefore (start + length (string_bytes piece.text)) pieces place

-- the first piece that depends on what stands at a place, and where it begins
pub record IsTouched {Kept : Type 0} (pieces : List (Piece Kept)) (place first start : ℕ) : Type 0 where
  pub within : first < length pieces
  pub begins : start ≡ length (text_of (take first pieces))
  pub before : StandBefore 0 (take first pieces) place
