-- Texts of old pieces are added to a text.
use Rattle.std.proofs.Common.{◌≡◌, ◌∙◌, ℕ, zero, suc, ◌+◌, ◌<◌, ◌≤◌, List, [], ◌∷◌, ◌++◌, length, drop, get_or, append_assoc, arith, ap, sym, subst, refl}
use Rattle.std.specs.Prelude.{string_bytes}
use Rattle.std.proofs.lemmas.List.{append-nil}
use Rattle.sql_document.specs.Pieces.{text_of}
use Rattle.sql_document.specs.Recuts.{EndsWithPiece, Grows}
use Rattle.sql_document.specs.declared.piece.Piece.{Piece}

-- what stands at an index stands in front of what follows
pub drop-at : {A : Type 0} (k : ℕ) (xs : List A) (d : A) → k < length xs → drop k xs ≡ get_or xs k d ∷ drop (suc k) xs
drop-at zero [] d lt = absurd (omega (arith, lt))
drop-at zero (x ∷ xs) d lt = refl
drop-at (suc k) [] d lt = absurd (omega (arith, lt))
drop-at (suc k) (x ∷ xs) d lt = drop-at k xs d (omega (arith, lt))

module _ {Kept : Type 0} (old : List (Piece Kept)) (text : List ℕ) where
  pub grows_none : (from : ℕ) → from ≤ length old → Grows old text text from from
  grows_none from within = record {
    added = [];
    text_is = sym (append-nil text);
    tail_is = refl;
    order = omega arith;
    within = within;
    ends = λ k is le. absurd (omega (arith, is, le));
  }

  pub grows_next : (now : List ℕ) (from last : ℕ) (piece : Piece Kept) → Grows old text now from last → drop last old ≡ piece ∷ drop (suc last) old → last < length old
      → Grows old text (now ++ string_bytes piece.text) from (last + 1)
  grows_next now from last piece grows there lt =
      let next : suc last ≡ last + 1 = omega arith in
      record {
        added = grows.added ++ string_bytes piece.text;
        text_is = ap (λ xs. xs ++ string_bytes piece.text) grows.text_is ∙ append_assoc text grows.added (string_bytes piece.text);
        tail_is = grows.tail_is
            ∙ (ap (λ pieces. grows.added ++ text_of pieces) there
            ∙ (ap (λ n. grows.added ++ (string_bytes piece.text ++ text_of (drop n old))) next ∙ sym (append_assoc grows.added (string_bytes piece.text) (text_of (drop (last + 1) old)))));
        order = omega (arith, grows.order);
        within = omega (arith, lt);
        ends = λ k is le.
            let same : last ≡ k = omega (arith, is) in
            subst (EndsWithPiece old (now ++ string_bytes piece.text)) same (record { piece = piece; there = there; front = now; text_is = refl });
      }
