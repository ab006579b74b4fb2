-- No character begins where a text ends, if no longer front of the bytes is a text.
use Rattle.std.proofs.Common.{◌≡◌, ◌∙◌, ◌⊎◌, ⊎_elim, ℕ, ◌+◌, ◌≤◌, List, [], ◌++◌, length, take, ap, arith, subst, sym, length-append, encode_utf8}
use Rattle.std.specs.Str.{IsUtf8, IsValidUpTo, StartsWithNoChar}
use Rattle.std.proofs.Math.Seq.{take-append-add, take-append_seam}
use Rattle.std.proofs.lemmas.List.{append-nil, take-append-le}
use Rattle.std.proofs.lemmas.Str.{IsUtf8-append, IsUtf8-encode, len_utf8_bounds, length-encode}

-- A character has four bytes at most.
module _ (text left more : List ℕ) (utf8 : IsUtf8 text) (valid : IsValidUpTo (text ++ left) (length text)) (enough : (more ≡ []) ⊎ (4 ≤ length left)) where
  pub no_char : StartsWithNoChar (left ++ more)
  no_char c rest scalar begins =
      let char = encode_utf8 c in
      let size = length-encode c in
      let bounds = len_utf8_bounds c in
      let within : length char ≤ length left =
      ⊎_elim (λ (none : more ≡ []). omega (arith, ap length begins, ap (λ xs. length (left ++ xs)) none, ap length (append-nil left), length-append char rest)) (λ (four : 4 ≤ length left). omega (arith, size, bounds.1, four)) enough in
      let front : take (length char) left ≡ char = sym (take-append-le (length char) left more within) ∙ (ap (take (length char)) begins ∙ take-append_seam char rest) in
      let longer : take (length text + length char) (text ++ left) ≡ text ++ char = take-append-add text left (length char) ∙ ap (λ xs. text ++ xs) front in
      valid.longest (length text + length char) (omega (arith, size, bounds.0)) (subst IsUtf8 (sym longer) (IsUtf8-append text char utf8 (IsUtf8-encode c scalar)))
