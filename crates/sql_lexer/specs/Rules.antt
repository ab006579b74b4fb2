-- Rules, which cut a token off the front of a text. A rule fits, or it gives None.
use Rattle.std.specs.Prelude.{ℕ, ◌+◌, Bool, true, false, Option, Some, None, List, [], ◌∷◌, length, slice_index, option_map, nat_eq, if◌then◌else◌}
use Rattle.std.specs.List.{starts_with}
use Rattle.squawk_tokens.specs.declared.token.Token.{Token}
use Rattle.squawk_tokens.specs.declared.token.TokenKind.{TokenKind}

-- a token of so many bytes
abbrev pub token : TokenKind → ℕ → Token
token kind len = record { kind = kind; len = len }

-- a token where a text is as a rule wants it
abbrev pub when : Bool → Token → Option Token
when fits found = if fits then Some found else None

-- the byte in front, 0 of an empty text
abbrev pub first : List ℕ → ℕ
first text = slice_index text 0

-- a text begins with these bytes
abbrev pub begins : List ℕ → List ℕ → Bool
begins text front = starts_with nat_eq text front

-- ---- tokens with an end that is looked for

-- a place that is found n bytes further on
abbrev pub past : ℕ → Option ℕ → Option ℕ
past n found = option_map (λ m. n + m) found

-- A token whose end is looked for behind its first n bytes. Where there is none, the token isn't terminated: it has all
-- of the text.
abbrev pub closed_at : (Bool → TokenKind) → ℕ → List ℕ → Option ℕ → Token
closed_at kind n text (Some m) = token (kind true) (n + m)
closed_at kind n text None = token (kind false) (length text)

-- ---- choice

-- the first of two tokens that is there
abbrev pub or_else : Option Token → Option Token → Option Token
or_else (Some found) other = Some found
or_else None other = other

-- the token of the first rule that fits
abbrev pub first_of : List (List ℕ → Option Token) → List ℕ → Option Token
first_of [] text = None
first_of (rule ∷ rules) text = or_else (rule text) (first_of rules text)
