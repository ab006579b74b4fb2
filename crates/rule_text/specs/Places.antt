-- Places in texts.
use Rattle.std.specs.Prelude.{ℕ, ◌+◌, ◌==◌, not, min, List, count_by, reverse, take}
use Rattle.std.specs.List.{prefix_len}
use Rattle.rule_text.specs.declared.error.Place.{Place}

-- one more, up to the greatest number
abbrev pub one_more : ℕ → ℕ
one_more n = min (n + 1) 18446744073709551615

-- the place after a text: line 1 more than its line feeds, column 1 more than the bytes after the last of these
abbrev pub place_after : List ℕ → Place
place_after before = record { line = one_more (count_by (λ b. b == 10) before); column = one_more (prefix_len (λ b. not (b == 10)) (reverse before)) }

-- the place of byte n of a text
abbrev pub place_of : List ℕ → ℕ → Place
place_of text n = place_after (take n text)
