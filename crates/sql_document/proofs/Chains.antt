-- Pieces that stand one after another.
use Rattle.std.proofs.Common.{◌≡◌, ◌∙◌, ℕ, Option, List, [], ◌∷◌, ◌++◌, length, drop, append_assoc, ap, sym, subst}
use Rattle.std.specs.Prelude.{string_bytes}
use Rattle.std.proofs.Math.Seq.{drop-append_seam}
use Rattle.squawk_keywords.specs.declared.keywords.Keywords.{Keywords}
use Rattle.rule_grammar.specs.declared.rules.RuleGrammar.{RuleGrammar}
use Rattle.sql_lexer.specs.ScriptLexing.{Lexing}
use Rattle.sql_lexer.specs.declared.script.script_place.ScriptPlace.{ScriptPlace}
use Rattle.sql_grammar.specs.ReadParts.{text_left}
use Rattle.sql_grammar.specs.declared.script_parts.ScriptPart.{ScriptPart}
use Rattle.sql_document.specs.Pieces.{AreChain, IsPiece, text_of}
use Rattle.sql_document.specs.declared.piece.Piece.{Piece}

module _ {Kept : Type 0} (keeps : ScriptPart → Kept → Type 0) (vocabulary : Keywords) (rules : RuleGrammar) where
  -- how many bytes a piece has
  abbrev pub size_of : Piece Kept → ℕ
  size_of piece = length (string_bytes piece.text)

  -- ---- one piece

  module _ (piece : Piece Kept) (next : Option ScriptPlace) (left : List ℕ) (is : IsPiece keeps vocabulary rules piece next left) where
    -- what is left after it
    abbrev pub left_after : List ℕ
    left_after = text_left is.new ++ is.rest

    pub lines_are : is.old.lexer.text ≡ is.part.table.text ++ text_left is.new
    lines_are = sym (ap (λ (l : Lexing). drop l.at l.text) is.begun) ∙ is.reads.text

    pub stands : left ≡ string_bytes piece.text ++ left_after
    stands =
        is.left_is
        ∙ (ap (λ xs. xs ++ is.rest) lines_are ∙ (append_assoc is.part.table.text (text_left is.new) is.rest ∙ ap (λ xs. xs ++ left_after) (sym is.text)))

    pub after_is : drop (size_of piece) left ≡ left_after
    after_is = ap (drop (size_of piece)) stands ∙ drop-append_seam (string_bytes piece.text) left_after

  -- ---- all of them

  pub chain_text : (from to : Option ScriptPlace) (pieces : List (Piece Kept)) (left end : List ℕ) → AreChain keeps vocabulary rules from pieces to left end → left ≡ text_of pieces ++ end
  chain_text from to [] left end (same, is) = is
  chain_text from to (piece ∷ pieces) left end (is, next, here, others) =
      stands piece next left here
      ∙ (ap (λ xs. string_bytes piece.text ++ xs) (sym (after_is piece next left here) ∙ chain_text next to pieces (drop (size_of piece) left) end others)
      ∙ sym (append_assoc (string_bytes piece.text) (text_of pieces) end))

  pub chain_append : (from mid to : Option ScriptPlace) (xs ys : List (Piece Kept)) (left between end : List ℕ)
      → AreChain keeps vocabulary rules from xs mid left between → AreChain keeps vocabulary rules mid ys to between end → AreChain keeps vocabulary rules from (xs ++ ys) to left end
  chain_append from mid to [] ys left between end (same, is) later =
      subst (λ from. AreChain keeps vocabulary rules from ys to left end) (sym same) (subst (λ left. AreChain keeps vocabulary rules mid ys to left end) (sym is) later)
  chain_append from mid to (piece ∷ xs) ys left between end (is, next, here, others) later =
      (is, next, here, chain_append next mid to xs ys (drop (size_of piece) left) between end others later)
