-- Lines and columns, and what is shown of a line.
use Rattle.std.specs.Prelude.{◌≡◌, ◌⊎◌, ℕ, ◌+◌, ◌-◌, ◌^◌, ◌<◌, ◌≤◌, ◌==◌, nat_lt, not, ◌&&◌, Bool, true, List, [], ◌∷◌, ◌++◌, length, take, drop, if◌then◌else◌}
use Rattle.std.specs.List.{count_by, list_any, prefix_len, take_while}
use Rattle.sql_report.specs.declared.line_column.LineColumn.{LineColumn}

-- a line feed
abbrev pub is_feed : ℕ → Bool
is_feed byte = byte == 10

-- a byte of UTF-8 that belongs to a character that begins before it: 128 to 191
abbrev pub is_continuation : ℕ → Bool
is_continuation byte = nat_lt 127 byte && nat_lt byte 192

-- a byte with which a character begins
abbrev pub begins_character : ℕ → Bool
begins_character byte = not (is_continuation byte)

-- what stands behind the last line feed
abbrev pub last_line : List ℕ → List ℕ
last_line [] = []
last_line (byte ∷ rest) = if list_any is_feed (byte ∷ rest) then last_line rest else byte ∷ rest

-- the number of the line in which a byte of a text stands, from 1
abbrev pub line_at : List ℕ → ℕ → ℕ
line_at text at = count_by is_feed (take at text) + 1

-- the number of the character in that line, from 1
abbrev pub column_at : List ℕ → ℕ → ℕ
column_at text at = count_by begins_character (last_line (take at text)) + 1

-- the last 100 bytes in front of it in its line, from the beginning of a character
abbrev pub shown_before : List ℕ → ℕ → List ℕ
shown_before text at =
    let front = last_line (take at text) in
    let near = drop (length front - 100) front in
    drop (prefix_len is_continuation near) near

-- a byte of a line
abbrev pub is_in_line : ℕ → Bool
is_in_line byte = not (is_feed byte)

-- the first 100 bytes of its line from it on, up to the end of a character
abbrev pub shown_behind : List ℕ → ℕ → List ℕ
shown_behind text at =
    let rest = drop at text in
    take_while is_in_line (take (100 + prefix_len is_continuation (drop 100 rest)) rest)

-- ---- the byte after those that are read

-- so few bytes that the line and the column after them fit 64 bits
abbrev pub AreCountable : List ℕ → Type 0
AreCountable bytes = length bytes + 1 < 2 ^ 64

-- the line and the column of the byte after these bytes of a script
pub record IsLineColumn (read : List ℕ) (c : LineColumn) : Type 0 where
  pub line_is : c.line ≡ line_at read (length read)
  pub column_is : c.column ≡ column_at read (length read)

-- ---- windows on a script

-- some bytes of a script, the line and the column of the first, and one of them or their end
pub record Spot : Type 0 where
  pub window : List ℕ
  pub before : LineColumn
  pub at : ℕ

-- another byte of the same window
pub record IsSameWindow (old new : Spot) : Type 0 where
  pub window : new.window ≡ old.window
  pub before : new.before ≡ old.before

-- A window stands in a script after some bytes and before a rest, and begins at the line and the column after these bytes. All
-- up to its end can be counted.
pub record IsWindowOf (script passed rest : List ℕ) (place : Spot) : Type 0 where
  pub script_is : script ≡ passed ++ (place.window ++ rest)
  pub before_is : IsLineColumn passed place.before
  pub countable : AreCountable (passed ++ place.window)

-- What is counted on the way to a byte is its line and its column, whatever stands before the window.
pub record IsCounted (window : List ℕ) (before : LineColumn) (at : ℕ) (here : LineColumn) : Type 0 where
  pub within : at ≤ length window
  pub counts : (passed : List ℕ) → IsLineColumn passed before → AreCountable (passed ++ take at window) → IsLineColumn (passed ++ take at window) here

-- The window has all that is shown of the line at a byte: before it 100 bytes or all of the script, and from it on a line feed or
-- all of the script.
pub record SeesLine (passed rest window : List ℕ) (at : ℕ) : Type 0 where
  pub enough_before : (passed ≡ []) ⊎ (100 ≤ length (take at window))
  pub line_ends : (rest ≡ []) ⊎ (list_any is_feed (drop at window) ≡ true)

-- A part with so many bytes begins at a byte of a script, which is a byte of a window. The window has all that is shown of the
-- line at each of them and at the part's end.
pub record IsPartOfWindow (script passed rest : List ℕ) (place : Spot) (at start len : ℕ) : Type 0 where
  pub window_of : IsWindowOf script passed rest place
  pub begins : at ≡ length passed + start
  pub within : start + len ≤ length place.window
  pub enough_before : (passed ≡ []) ⊎ (100 ≤ start)
  pub line_ends : (rest ≡ []) ⊎ (list_any is_feed (drop (start + len) place.window) ≡ true)
