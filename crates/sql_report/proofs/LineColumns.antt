-- The line and the column of the byte after those that are read.
use Rattle.std.proofs.Common.{◌≡◌, ◌∙◌, ℕ, ◌+◌, ◌-◌, ◌≤◌, ◌^◌, Bool, true, false, cond, not, List, [], ◌∷◌, ◌++◌, length, min, take, drop, append_assoc, ap, arith, sym, subst, length-append}
use Rattle.std.specs.List.{count_by}
use Rattle.std.proofs.lemmas.List.{append-nil, drop-take, take-append-drop, take-take, take_all}
use Rattle.std.proofs.lemmas.List.Sums.{count_by-le-length, sum_by_push}
use Rattle.sql_report.proofs.LastLines.{any_one, last_line-end, last_line-le, last_line-none}
use Rattle.sql_report.specs.Places.{AreCountable, IsCounted, IsLineColumn, begins_character, is_continuation, is_feed, last_line}
use Rattle.sql_report.specs.declared.line_column.LineColumn.{LineColumn}

all_read : (read : List ℕ) → take (length read) read ≡ read
all_read read = take_all (length read) read (omega arith)

pub line_read : (read : List ℕ) (c : LineColumn) → IsLineColumn read c → c.line ≡ count_by is_feed read + 1
line_read read c is = is.line_is ∙ ap (λ l. count_by is_feed l + 1) (all_read read)

pub column_read : (read : List ℕ) (c : LineColumn) → IsLineColumn read c → c.column ≡ count_by begins_character (last_line read) + 1
column_read read c is = is.column_is ∙ ap (λ l. count_by begins_character (last_line l) + 1) (all_read read)

counted : (read : List ℕ) (c : LineColumn) → c.line ≡ count_by is_feed read + 1 → c.column ≡ count_by begins_character (last_line read) + 1 → IsLineColumn read c
counted read c line column = record {
  line_is = line ∙ ap (λ l. count_by is_feed l + 1) (sym (all_read read));
  column_is = column ∙ ap (λ l. count_by begins_character (last_line l) + 1) (sym (all_read read));
}

pub countable_front : (front rest : List ℕ) → AreCountable (front ++ rest) → AreCountable front
countable_front front rest countable = omega (arith, countable, length-append front rest)

-- ---- one more

-- one more byte is counted, or isn't
count_push : (p : ℕ → Bool) (read : List ℕ) (byte : ℕ) (b : Bool) → p byte ≡ b → count_by p (read ++ byte ∷ []) ≡ count_by p read + cond b 1 0
count_push p read byte b is = sum_by_push _ read byte ∙ ap (λ v. count_by p read + cond v 1 0) is

module _ (read : List ℕ) (byte : ℕ) (c : LineColumn) (is : IsLineColumn read c) (countable : AreCountable (read ++ byte ∷ [])) where
  -- over a line feed
  pub counted_feed : (line : ℕ) → byte ≡ 10 → line ≡ min (c.line + 1) (2 ^ 64 - 1) → IsLineColumn (read ++ byte ∷ []) (record { line = line; column = 1 })
  counted_feed line feed next =
      let is_one : is_feed byte ≡ true = ap is_feed feed in
      let ends = last_line-end read byte is_one in
      counted (read ++ byte ∷ []) (record { line = line; column = 1 })
      (omega (arith, next, line_read read c is, count_push is_feed read byte true is_one, count_by-le-length is_feed read, length-append read (byte ∷ [])))
      (sym (ap (λ l. count_by begins_character l + 1) ends))

  -- over any other byte
  counted_more : (b : Bool) (column : ℕ) → is_feed byte ≡ false → begins_character byte ≡ b → column ≡ c.column + cond b 1 0
      → IsLineColumn (read ++ byte ∷ []) (record { line = c.line; column = column })
  counted_more b column other begins next =
      let more : last_line (read ++ byte ∷ []) ≡ last_line read ++ byte ∷ [] = last_line-none read (byte ∷ []) (any_one byte false other) in
      let line : c.line ≡ count_by is_feed (read ++ byte ∷ []) + 1 = omega (arith, line_read read c is, count_push is_feed read byte false other) in
      let count = ap (count_by begins_character) more ∙ count_push begins_character (last_line read) byte b begins in
      counted (read ++ byte ∷ []) (record { line = c.line; column = column }) line (omega (arith, next, column_read read c is, count))

  -- over the first byte of a character
  pub counted_begin : (column : ℕ) → is_feed byte ≡ false → is_continuation byte ≡ false → column ≡ min (c.column + 1) (2 ^ 64 - 1)
      → IsLineColumn (read ++ byte ∷ []) (record { line = c.line; column = column })
  counted_begin column other begins next =
      let few = count_by-le-length begins_character (last_line read) in
      counted_more true column other (ap not begins)
      (omega (arith, next, column_read read c is, few, last_line-le read, length-append read (byte ∷ [])))

  -- over another byte of it
  pub counted_inside : is_feed byte ≡ false → is_continuation byte ≡ true → IsLineColumn (read ++ byte ∷ []) c
  counted_inside other inside = counted_more false c.column other (ap not inside) (omega arith)

-- ---- on the way over a window

pub counted_start : (window : List ℕ) (before : LineColumn) → IsCounted window before 0 before
counted_start window before = record {
  within = omega arith;
  counts = λ passed is countable. subst (λ read. IsLineColumn read before) (sym (append-nil passed)) is;
}

-- over the bytes up to another
pub counted_to : (window : List ℕ) (before : LineColumn) (at end : ℕ) (here next : LineColumn) → IsCounted window before at here → at ≤ end → end ≤ length window
    → (let over = take (end - at) (drop at window) in
    (read : List ℕ) → IsLineColumn read here → AreCountable (read ++ over) → IsLineColumn (read ++ over) next) → IsCounted window before end next
counted_to window before at end here next counted from within passes = record {
  within = within;
  counts = λ passed is countable.
      let over = take (end - at) (drop at window) in
      let to : at + (end - at) ≡ end = omega arith in
      let front : take at window ++ over ≡ take end window =
      ap (λ l. l ++ over) (sym (take-take at end window from))
      ∙ (ap (λ l. take at (take end window) ++ l) (sym (drop-take at (end - at) window) ∙ ap (λ n. drop at (take n window)) to) ∙ take-append-drop at (take end window)) in
      let whole : (passed ++ take at window) ++ over ≡ passed ++ take end window = append_assoc passed (take at window) over ∙ ap (λ l. passed ++ l) front in
      let short = subst AreCountable (sym whole) countable in
      subst (λ read. IsLineColumn read next) whole
      (passes (passed ++ take at window) (counted.counts passed is (countable_front (passed ++ take at window) over short)) short);
}
