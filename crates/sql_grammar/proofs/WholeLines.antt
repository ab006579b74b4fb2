-- A search for the last newline of a text.
use Rattle.std.proofs.Common.{◌≡◌, ◌≢◌, ◌∙◌, ℕ, zero, suc, ◌+◌, ◌-◌, ◌<◌, ◌≤◌, List, [], ◌∷◌, ◌++◌, All, length, take, drop, get_or, slice_index, arith, ap, sym, subst, append_assoc, length-append, take-append-drop, take-suc}
use Rattle.std.proofs.Math.Seq.{get_or-append_seam, take-append_seam}
use Rattle.std.specs.Prelude.{IsCharBoundary, IsUtf8}
use Rattle.std.proofs.lemmas.Str.{IsCharBoundary-after_ascii, IsCharBoundary-start}
use Rattle.sql_grammar.specs.WholeLines.{AreWholeLines}

-- no newline stands after this byte
pub record HasPassed (text : List ℕ) (end : ℕ) : Type 0 where
  pub within : end ≤ length text
  pub none : All (λ b. b ≢ 10) (drop end text)

pub stops : (text : List ℕ) (end : ℕ) → HasPassed text end → (0 < end → slice_index text (end - 1) ≡ 10) → AreWholeLines text (take end text)
stops text end passed newline = record {
  rest = drop end text;
  whole = sym (take-append-drop end text);
  none = passed.none;
  end = λ some.
      let lt : 0 < end = by_len end some in
      let next : suc (end - 1) ≡ end = omega (arith, lt) in
      record {
        front = take (end - 1) text;
        line = ap (λ n. take n text) (sym next)
            ∙ (take-suc text (end - 1) 0 (omega (arith, passed.within, lt)) ∙ ap (λ b. take (end - 1) text ++ b ∷ []) (newline lt));
      };
}
  where
    by_len : (n : ℕ) → 0 < length (take n text) → 0 < n
    by_len zero lt = lt
    by_len (suc n) lt = omega arith

-- a character begins after them
pub lines_end : (text lines : List ℕ) → IsUtf8 text → AreWholeLines text lines → IsCharBoundary text (length lines)
lines_end text [] utf8 are = IsCharBoundary-start text utf8
lines_end text (b ∷ lines) utf8 are =
    let all = b ∷ lines in
    let line = (are.end (omega arith)).line in
    let front = (are.end (omega arith)).front in
    let split : text ≡ front ++ 10 ∷ are.rest = are.whole ∙ (ap (λ xs. xs ++ are.rest) line ∙ append_assoc front (10 ∷ []) are.rest) in
    let size : length all ≡ length front + 1 = omega (arith, ap length line, length-append front (10 ∷ [])) in
    let newline : get_or text (length front) 0 ≡ 10 = ap (λ xs. get_or xs (length front) 0) split ∙ get_or-append_seam front 10 are.rest 0 in
    subst (IsCharBoundary text) (sym size)
    (IsCharBoundary-after_ascii text (length front) utf8 (omega (arith, ap length split, length-append front (10 ∷ are.rest))) (omega (arith, newline)))

pub is_front : (text lines : List ℕ) → AreWholeLines text lines → take (length lines) text ≡ lines
is_front text lines are = ap (take (length lines)) are.whole ∙ take-append_seam lines are.rest
