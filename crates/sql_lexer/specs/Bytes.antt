-- The classes of bytes. A byte past 127 is part of a character of several bytes.
use Rattle.std.specs.Prelude.{ℕ, Bool, ◌==◌, nat_le, ◌||◌, not, [], ◌∷◌}
use Rattle.std.specs.Int.{is_in_range}
use Rattle.std.specs.List.{list_any}
use Rattle.std.specs.Char.{is_ascii_alphabetic, is_ascii_digit}

-- tab, newline, vertical tab, form feed, carriage return (9 to 13) and space
abbrev pub is_space : ℕ → Bool
is_space b = is_in_range 9 13 b || (b == 32)

-- a line ends at a newline or a carriage return
abbrev pub is_line_end : ℕ → Bool
is_line_end b = (b == 10) || (b == 13)

-- an identifier begins with a letter, an underscore (95) or a character that isn't ASCII
abbrev pub is_name_start : ℕ → Bool
is_name_start b = (is_ascii_alphabetic b || (b == 95)) || nat_le 128 b

-- the tag of a dollar quote goes on with these and with digits
abbrev pub is_tag_part : ℕ → Bool
is_tag_part b = is_name_start b || is_ascii_digit b

-- an identifier goes on with these and with dollar signs (36)
abbrev pub is_name_part : ℕ → Bool
is_name_part b = is_tag_part b || (b == 36)

-- the bytes with which other tokens begin, and those that are a token of one byte or the beginning of a longer one:
-- " (34), $ (36), ' (39), - (45), . (46), / (47), \ (92)
abbrev pub begins_several : ℕ → Bool
begins_several b = is_ascii_digit b || list_any (λ c. b == c) (34 ∷ 36 ∷ 39 ∷ 45 ∷ 46 ∷ 47 ∷ 92 ∷ [])

-- every other byte is a token, whatever stands behind it
abbrev pub stands_alone : ℕ → Bool
stands_alone b = not (is_name_start b || is_space b || begins_several b)
