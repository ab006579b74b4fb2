-- Places between two characters, of a text and of its parts.
use Rattle.std.proofs.Common.{◌≡◌, ◌∙◌, ℕ, suc, ◌+◌, ◌-◌, ◌<◌, ◌≤◌, List, [], ◌∷◌, ◌++◌, drop, length, take, arith, ap, subst, sym, get_or-append-add, length-append}
use Rattle.std.specs.Prelude.{IsCharBoundary, string_bytes}
use Rattle.std.proofs.lemmas.List.{get_or_append_left}
use Rattle.sql_document.specs.Pieces.{text_of}
use Rattle.sql_document.specs.Recuts.{Grows}
use Rattle.sql_document.specs.declared.piece.Piece.{Piece}
use Rattle.sql_document.proofs.Edits.{text_split}

-- in a front of a text
pub enter : (a b : List ℕ) (n : ℕ) → n < length a → IsCharBoundary a n → IsCharBoundary (a ++ b) n
enter a b n lt boundary =
    let same = get_or_append_left a b 0 n lt in
    (omega (arith, lt, length-append a b), λ within high. let lead = boundary.1 lt (omega (arith, high, same)) in omega (arith, lead, same))

pub leave : (a b : List ℕ) (n : ℕ) → n ≤ length a → IsCharBoundary (a ++ b) n → IsCharBoundary a n
leave a b n le boundary = (
  le,
  λ lt high.
      let same = get_or_append_left a b 0 n lt in
      let lead = boundary.1 (omega (arith, lt, length-append a b)) (omega (arith, high, same)) in
      omega (arith, lead, same),
)

-- in what stands after a front
pub after : (a b : List ℕ) (n : ℕ) → IsCharBoundary b n → IsCharBoundary (a ++ b) (length a + n)
after a b n boundary =
    let same = get_or-append-add a b n 0 in
    let size = length-append a b in
    (omega (arith, boundary.0, size), λ within high. let lead = boundary.1 (omega (arith, within, size)) (omega (arith, high, same)) in omega (arith, lead, same))

pub from_after : (a b : List ℕ) (n : ℕ) → IsCharBoundary (a ++ b) (length a + n) → IsCharBoundary b n
from_after a b n boundary =
    let same = get_or-append-add a b n 0 in
    let size = length-append a b in
    (omega (arith, boundary.0, size), λ within high. let lead = boundary.1 (omega (arith, within, size)) (omega (arith, high, same)) in omega (arith, lead, same))

-- in a piece
module _ {Kept : Type 0} (pieces : List (Piece Kept)) (i : ℕ) (piece : Piece Kept) (there : drop i pieces ≡ piece ∷ drop (suc i) pieces) (n : ℕ) (lt : n < length (string_bytes piece.text)) where
  abbrev front : List ℕ
  front = text_of (take i pieces)

  abbrev back : List ℕ
  back = text_of (drop (suc i) pieces)

  whole : text_of pieces ≡ front ++ (string_bytes piece.text ++ back)
  whole = text_split i pieces ∙ ap (λ ps. front ++ text_of ps) there

  pub of_text : IsCharBoundary (string_bytes piece.text) n → IsCharBoundary (text_of pieces) (length front + n)
  of_text boundary = subst (λ text. IsCharBoundary text (length front + n)) (sym whole) (after front (string_bytes piece.text ++ back) n (enter (string_bytes piece.text) back n lt boundary))

  pub of_piece : IsCharBoundary (text_of pieces) (length front + n) → IsCharBoundary (string_bytes piece.text) n
  of_piece boundary =
      leave (string_bytes piece.text) back n (omega (arith, lt)) (from_after front (string_bytes piece.text ++ back) n (subst (λ text. IsCharBoundary text (length front + n)) whole boundary))

-- in pieces from an index on
module _ {Kept : Type 0} (pieces : List (Piece Kept)) (first start place : ℕ) (begins : start ≡ length (text_of (take first pieces))) (le : start ≤ place) where
  at : length (text_of (take first pieces)) + (place - start) ≡ place
  at = omega (arith, begins, le)

  pub from_first : IsCharBoundary (text_of (drop first pieces)) (place - start) → IsCharBoundary (text_of pieces) place
  from_first boundary =
      subst (IsCharBoundary (text_of pieces)) at
      (subst (λ text. IsCharBoundary text (length (text_of (take first pieces)) + (place - start))) (sym (text_split first pieces)) (after (text_of (take first pieces)) (text_of (drop first pieces)) (place - start) boundary))

  pub to_first : IsCharBoundary (text_of pieces) place → IsCharBoundary (text_of (drop first pieces)) (place - start)
  to_first boundary =
      from_after (text_of (take first pieces)) (text_of (drop first pieces)) (place - start)
      (subst (λ text. IsCharBoundary text (length (text_of (take first pieces)) + (place - start))) (text_split first pieces) (subst (IsCharBoundary (text_of pieces)) (sym at) boundary))

  -- of which the texts are joined
  module _ (last : ℕ) (text : List ℕ) (grows : Grows pieces [] text first last) where
    pub joined : place - start ≤ length text → IsCharBoundary (text_of pieces) place → IsCharBoundary text (place - start)
    joined within boundary =
        leave text (text_of (drop last pieces)) (place - start) within
        (subst (λ text. IsCharBoundary text (place - start)) (grows.tail_is ∙ ap (λ xs. xs ++ text_of (drop last pieces)) (sym grows.text_is)) (to_first boundary))
