-- White space without what stands at the ends of lines. All that is spoken of is ASCII, so bytes are as good as characters.
use Rattle.std.specs.Prelude.{ℕ, ◌==◌, ◌&&◌, ◌||◌, not, Bool, List, [], ◌∷◌, filter, if◌then◌else◌}
use Rattle.std.specs.List.{list_any}

-- whether a byte is a blank: a space, a tab, a vertical tab or a form feed
abbrev pub is_blank : ℕ → Bool
is_blank byte = (byte == 32) || (byte == 9) || (byte == 11) || (byte == 12)

abbrev pub without_blanks : List ℕ → List ℕ
without_blanks bytes = filter (λ byte. not (is_blank byte)) bytes

-- whether bytes have a line feed (10)
abbrev pub has_line_feed : List ℕ → Bool
has_line_feed bytes = list_any (λ byte. byte == 10) bytes

-- White space without each blank behind which a line ends: a line feed stands in what is behind it, or a line ends behind all of it.
abbrev pub trimmed : Bool → List ℕ → List ℕ
trimmed ends_line [] = []
trimmed ends_line (byte ∷ behind) =
    if is_blank byte && (ends_line || has_line_feed behind) then trimmed ends_line behind else byte ∷ trimmed ends_line behind
