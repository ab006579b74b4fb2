-- The characters of a table's raw tokens, and those of its source.
use Rattle.std.proofs.Common.{◌≡◌, ◌∙◌, ℕ, zero, suc, ◌+◌, ◌-◌, ◌<◌, ◌≤◌, List, [], ◌∷◌, ◌++◌, length, length-append, take, drop, slice_index, slice_range, arith, add-zero, append_assoc, ap, sym, refl}
use Rattle.std.specs.Prelude.{IsUtf8, encode_utf8_all}
use Rattle.std.specs.Str.{chars}
use Rattle.std.proofs.lemmas.List.{append_cancel_right, drop_all, length-take-le, take-append-drop}
use Rattle.std.proofs.lemmas.List.Elements.{All-cons}
use Rattle.std.proofs.lemmas.List.Folds.{drop_split}
use Rattle.std.proofs.lemmas.List.Sums.{sum_by-cons}
use Rattle.std.proofs.lemmas.Str.{IsUtf8-between, IsUtf8-take, chars-append, chars-nil, encodes-append, encodes-chars}
use Rattle.squawk_table.specs.RawTable.{Table, IsTable, piece, raw_at, raw_from, raw_after, raw_tokens, text_of}
use Rattle.squawk_table.specs.Sent.{text_in, texts_of, bytes_of}
use Rattle.squawk_table.specs.declared.shortcuts.str_step.OwnedStep.{OwnedStep}
use Rattle.squawk_table.proofs.RawTokens.{raw_after-next}
use Rattle.squawk_table.proofs.SentTexts.{AreTexts, raw_chars}

module _ (t : Table) (table : IsTable t) where
  -- a raw token's part of the source, and what stands behind it
  chars-piece : (i : ℕ) → i < length t.kinds → chars (drop (slice_index t.starts i) t.text) ≡ chars (piece t i) ++ chars (drop (slice_index t.starts (i + 1)) t.text)
  chars-piece i lt =
      let entries = table.entries in
      let rises = table.ascends i (i + 1) (omega arith) (omega arith) in
      let start = table.boundaries i (omega arith) in
      let end = table.boundaries (i + 1) (omega arith) in
      ap chars (drop_split t.text (slice_index t.starts i) (slice_index t.starts (i + 1)) (omega arith))
      ∙ chars-append (piece t i) (drop (slice_index t.starts (i + 1)) t.text) (IsUtf8-between t.text (slice_index t.starts i) (slice_index t.starts (i + 1)) table.utf8 (omega arith) start end)

  raw_chars-from : (n i : ℕ) → i + n ≡ length t.kinds → raw_chars (raw_from t i n) ≡ chars (drop (slice_index t.starts i) t.text)
  raw_chars-from zero i all =
      let last : slice_index t.starts i ≡ length t.text = ap (slice_index t.starts) (omega arith) ∙ table.ends in
      sym (ap chars (drop_all (slice_index t.starts i) t.text (omega arith)) ∙ chars-nil)
  raw_chars-from (suc n) i all =
      ap (λ xs. chars (piece t i) ++ xs) (raw_chars-from n (i + 1) (omega arith)) ∙ sym (chars-piece i (omega arith))

  -- the raw tokens from one on have the characters of the source from there on
  pub raw_chars-raw_after : (i : ℕ) → i ≤ length t.kinds → raw_chars (raw_after t i) ≡ chars (drop (slice_index t.starts i) t.text)
  raw_chars-raw_after i le = raw_chars-from (length t.kinds - i) i (omega arith)

  -- and all of them have those of the source
  pub raw_chars-raw_tokens : raw_chars (raw_tokens t) ≡ chars t.text
  raw_chars-raw_tokens = raw_chars-from (length t.kinds) 0 (omega arith) ∙ ap (λ i. chars (drop i t.text)) table.begins

  utf8_from : (n i : ℕ) → i + n ≡ length t.kinds → AreTexts (raw_from t i n)
  utf8_from zero i all = λ k d lt. absurd (omega arith)
  utf8_from (suc n) i all =
      let entries = table.entries in
      let rises = table.ascends i (i + 1) (omega arith) (omega arith) in
      let start = table.boundaries i (omega arith) in
      let end = table.boundaries (i + 1) (omega arith) in
      All-cons (λ r. IsUtf8 r.text) (raw_at t i) (raw_from t (i + 1) n)
      (IsUtf8-between t.text (slice_index t.starts i) (slice_index t.starts (i + 1)) table.utf8 (omega arith) start end) (utf8_from n (i + 1) (omega arith))

  -- their bytes are text
  pub AreTexts-raw_tokens : AreTexts (raw_tokens t)
  AreTexts-raw_tokens = utf8_from (length t.kinds) 0 (omega arith)

  starts-le : (n i : ℕ) → i + n ≤ length t.kinds → slice_index t.starts i ≤ slice_index t.starts (i + n)
  starts-le zero i le = omega (arith, ap (slice_index t.starts) (add-zero i))
  starts-le (suc n) i le =
      let entries = table.entries in
      omega (arith, table.ascends i (i + suc n) (omega arith) (omega arith))

  -- the source under n raw tokens is their texts, joined
  pub text_of-take : (n i : ℕ) → i + n ≤ length t.kinds
      → slice_range t.text (slice_index t.starts i) (slice_index t.starts (i + n)) ≡ text_of (take n (raw_after t i))
  text_of-take n i le =
      let start = slice_index t.starts i in
      let end = slice_index t.starts (i + n) in
      append_cancel_right (slice_range t.text start end) (text_of (take n (raw_after t i))) (drop end t.text)
      (sym (drop_split t.text start end (starts-le n i le)) ∙ sym (whole n i le))
    where
      whole : (n i : ℕ) → i + n ≤ length t.kinds → text_of (take n (raw_after t i)) ++ drop (slice_index t.starts (i + n)) t.text ≡ drop (slice_index t.starts i) t.text
      whole zero i le = ap (λ k. drop (slice_index t.starts k) t.text) (add-zero i)
      whole (suc n) i le =
          let next = raw_after-next t i (omega arith) in
          let same : i + suc n ≡ (i + 1) + n = omega arith in
          let behind = drop (slice_index t.starts (i + suc n)) t.text in
          let rest = text_of (take n (raw_after t (i + 1))) in
          ap (λ raws. text_of (take (suc n) raws) ++ behind) next
          ∙ (append_assoc (piece t i) rest behind
          ∙ (ap (λ k. piece t i ++ (rest ++ drop (slice_index t.starts k) t.text)) same
          ∙ (ap (λ xs. piece t i ++ xs) (whole n (i + 1) (omega arith))
          ∙ sym (drop_split t.text (slice_index t.starts i) (slice_index t.starts (i + 1)) (starts-le 1 i (omega arith))))))

-- ---- bytes

-- the bytes of steps are those of their texts
pub bytes_of-texts : (steps : List OwnedStep) → bytes_of steps ≡ length (encode_utf8_all (texts_of steps))
bytes_of-texts [] = refl
bytes_of-texts (s ∷ steps) =
    omega (
      arith,
      sum_by-cons (λ step. length (encode_utf8_all (text_in step))) s steps,
      bytes_of-texts steps,
      ap length (encodes-append (text_in s) (texts_of steps)),
      length-append (encode_utf8_all (text_in s)) (encode_utf8_all (texts_of steps)),
    )

-- where the source from a raw token on is left, as many bytes were sent as stand before it
pub bytes_of-raw : (t : Table) → IsTable t → (raw : ℕ) → raw ≤ length t.kinds → (steps : List OwnedStep)
    → texts_of steps ++ raw_chars (raw_after t raw) ≡ raw_chars (raw_tokens t) → bytes_of steps ≡ slice_index t.starts raw
bytes_of-raw t table raw le steps whole =
    let start = slice_index t.starts raw in
    let boundary = table.boundaries raw (omega (arith, table.entries)) in
    let utf8 = IsUtf8-take t.text start table.utf8 boundary in
    let all : texts_of steps ++ chars (drop start t.text) ≡ chars (take start t.text) ++ chars (drop start t.text) =
    ap (λ xs. texts_of steps ++ xs) (sym (raw_chars-raw_after t table raw le))
    ∙ (whole ∙ (raw_chars-raw_tokens t table
    ∙ (sym (ap chars (take-append-drop start t.text)) ∙ chars-append (take start t.text) (drop start t.text) utf8))) in
    let same = append_cancel_right (texts_of steps) (chars (take start t.text)) (chars (drop start t.text)) all in
    bytes_of-texts steps
    ∙ (ap (λ xs. length (encode_utf8_all xs)) same ∙ (ap length (encodes-chars (take start t.text) utf8) ∙ length-take-le start t.text boundary.0))
