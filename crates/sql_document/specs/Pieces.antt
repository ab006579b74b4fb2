-- The pieces of a document, one after another.
use Rattle.std.specs.Prelude.{◌<◌, false, is_some, true, ◌≡◌, ◌≤◌, ℕ, ◌+◌, true, false, Option, Some, None, List, [], ◌∷◌, ◌++◌, drop, length, map, string_bytes, take, IsCharBoundary, IsUtf8}
use Rattle.squawk_keywords.specs.declared.keywords.Keywords.{Keywords}
use Rattle.squawk_table.specs.Sent.{sent_list}
use Rattle.squawk_table.specs.declared.shortcuts.str_step.OwnedStep.{OwnedStep}
use Rattle.squawk_table.specs.declared.shortcuts.str_step.OwnedStep.TheVariants as sent
use Rattle.squawk_tokens.specs.LexicalErrors.{LexicalError, shifted}
use Rattle.rule_grammar.specs.declared.rules.RuleGrammar.{RuleGrammar}
use Rattle.sql_lexer.specs.ScriptLexing.{begun_at, place_of}
use Rattle.sql_lexer.specs.declared.script.script_place.ScriptPlace.{ScriptPlace}
use Rattle.sql_words.specs.SqlVocabulary.{KnowsKeywords}
use Rattle.sql_grammar.specs.Kinds.{SOURCE_FILE}
use Rattle.sql_grammar.specs.Parts.{moved_by}
use Rattle.sql_grammar.specs.ReadParts.{HasRead, IsScriptParse, Reading, ReadsPart, at_front, begun_with}
use Rattle.sql_grammar.specs.declared.script_parts.Progress.TheVariants.{Inside}
use Rattle.sql_grammar.specs.declared.script_parts.ScriptPart.{ScriptPart}
use Rattle.sql_document.specs.declared.piece.Piece.{Piece}

-- ---- a document, as its readers see it

-- the text of pieces
abbrev pub text_of : {Kept : Type 0} → List (Piece Kept) → List ℕ
text_of [] = []
text_of (piece ∷ pieces) = string_bytes piece.text ++ text_of pieces

-- a text with another one in the place of some bytes
abbrev pub edited : ℕ → ℕ → List ℕ → List ℕ → List ℕ
edited start end replacement text = take start text ++ (replacement ++ drop end text)

-- a range of a text, which begins and ends between two characters
pub record IsRange (start end : ℕ) (text : List ℕ) : Type 0 where
  pub order : start ≤ end
  pub begins : IsCharBoundary text start
  pub ends : IsCharBoundary text end

-- Of each part that is held.
abbrev pub AreKept : {Kept : Type 0} → (ScriptPart → Kept → Type 0) → List ScriptPart → List (Piece Kept) → Type 0
AreKept keeps [] [] = Unit {0}
AreKept keeps (part ∷ parts) (piece ∷ pieces) = (string_bytes piece.text ≡ part.table.text) × (keeps part piece.kept × AreKept keeps parts pieces)
AreKept keeps [] (piece ∷ pieces) = ⊥
AreKept keeps (part ∷ parts) [] = ⊥

-- What the roots of these parts hold, one after another from a byte on, and their lexical errors.
abbrev pub AreParts : ℕ → List ScriptPart → List LexicalError → List OwnedStep → Type 0
AreParts at [] errors steps = (errors ≡ []) × (steps ≡ [])
AreParts at (part ∷ parts) errors steps =
    (inner : List OwnedStep) × (others : List OwnedStep) × (more : List LexicalError)
    × (sent_list part.table part.output.steps ≡ sent.Enter SOURCE_FILE ∷ inner ++ sent.Exit ∷ [])
    × (steps ≡ map (moved_by at) inner ++ others) × (errors ≡ map (shifted at) part.table.errors ++ more)
    × AreParts (at + length part.table.text) parts more others

-- The pieces are parts of the text, which make up its parse, by PostgreSQL's keywords.
pub record IsDocument {Kept : Type 0} (keeps : ScriptPart → Kept → Type 0) (text : List ℕ) (pieces : List (Piece Kept)) : Type 0 where
  pub vocabulary : Keywords
  pub knows : KnowsKeywords vocabulary
  pub text_is : text_of pieces ≡ text
  pub parts : List ScriptPart
  pub kept : AreKept keeps parts pieces
  pub errors : List LexicalError
  pub steps : List OwnedStep
  pub are : AreParts 0 parts errors steps
  pub parse : IsScriptParse vocabulary text errors (sent.Enter SOURCE_FILE ∷ steps ++ sent.Exit ∷ [])

-- ---- how pieces stand. Only private functions speak of it.

-- a part with which the script ends
pub record Ends (vocabulary : Keywords) (rules : RuleGrammar) (old new : Reading) (next : Option ScriptPlace) (rest : List ℕ) : Type 0 where
  pub last : old.is_last ≡ true
  pub none : next ≡ None
  pub nothing : rest ≡ []
  pub over : length new.lexer.text ≤ new.lexer.at
  pub parse : (read : List ℕ) (errors : List LexicalError) (done : List OwnedStep) → HasRead vocabulary rules new [] read errors done
      → IsScriptParse vocabulary read errors (done ++ sent.Exit ∷ [])

-- a part of so many bytes after which the script goes on, and how many bytes after it were seen
pub record GoesOn (old new : Reading) (size seen : ℕ) (next : Option ScriptPlace) : Type 0 where
  pub others : old.is_last ≡ false
  pub sees : length old.lexer.text ≡ size + seen
  pub place : ScriptPlace
  pub next_is : next ≡ Some place
  pub same : place_of place ≡ new.lexer.place
  pub inside : begun_with place ≡ Inside

abbrev pub Follows : Keywords → RuleGrammar → Reading → Reading → ℕ → Option ℕ → Option ScriptPlace → List ℕ → Type 0
Follows vocabulary rules old new size None next rest = Ends vocabulary rules old new next rest
Follows vocabulary rules old new size (Some seen) next rest = GoesOn old new size seen next

-- A piece is a part that stands in front of what is left of a script, and after which it goes on at the next place.
pub record IsPiece {Kept : Type 0} (keeps : ScriptPart → Kept → Type 0) (vocabulary : Keywords) (rules : RuleGrammar) (piece : Piece Kept) (next : Option ScriptPlace) (left : List ℕ) : Type 0 where
  pub part : ScriptPart
  pub old : Reading
  pub new : Reading
  pub begun : old.lexer ≡ begun_at piece.place old.lexer.text
  pub progress : old.progress ≡ begun_with piece.place
  pub reads : ReadsPart vocabulary rules old new part
  pub text : string_bytes piece.text ≡ part.table.text
  pub kept : keeps part piece.kept
  pub rest : List ℕ
  pub left_is : left ≡ old.lexer.text ++ rest
  pub follows : Follows vocabulary rules old new (length part.table.text) piece.seen next rest

-- Pieces stand one after another in a script, from a place with so much left of it to another one.
abbrev pub AreChain : {Kept : Type 0} → (ScriptPart → Kept → Type 0) → Keywords → RuleGrammar → Option ScriptPlace → List (Piece Kept) → Option ScriptPlace → List ℕ → List ℕ → Type 0
AreChain keeps vocabulary rules from [] to left end = (from ≡ to) × (left ≡ end)
AreChain keeps vocabulary rules from (piece ∷ pieces) to left end =
    (from ≡ Some piece.place) × (next : Option ScriptPlace) × IsPiece keeps vocabulary rules piece next left
    × AreChain keeps vocabulary rules next pieces to (drop (length (string_bytes piece.text)) left) end

-- A piece is found in a text at a place: some of the text is left where the script goes on, and reading has gone on.
pub record Finds {Kept : Type 0} (place : ScriptPlace) (text : List ℕ) (piece : Piece Kept) (next : Option ScriptPlace) : Type 0 where
  pub place_is : piece.place ≡ place
  pub within : length (string_bytes piece.text) ≤ length text
  pub left : is_some next ≡ true → length (string_bytes piece.text) < length text
  pub goes_on : 0 < length (string_bytes piece.text) + at_front (begun_with place)
  pub utf8 : IsUtf8 (string_bytes piece.text)
