-- The words of a text: its raw tokens but white space and comments.
use Rattle.std.specs.Prelude.{◌≡◌, ℕ, ◌+◌, ◌-◌, ◌≤◌, ◌==◌, ◌||◌, Bool, true, false, Some, List, [], ◌∷◌, ◌++◌, length, get_or, slice_get, slice_range, if◌then◌else◌, IsCharBoundary, bytes_eq, codes}
use Rattle.std.specs.Char.{is_ascii_lowercase}
use Rattle.std.specs.List.{list_any}
use Rattle.squawk_tokens.specs.AcceptedTokens.{start_of}
use Rattle.squawk_tokens.specs.declared.token.LiteralKind.TheVariants.{Str}
use Rattle.squawk_tokens.specs.declared.token.Token.{Token}
use Rattle.squawk_tokens.specs.declared.token.TokenKind.{TokenKind}
use Rattle.squawk_tokens.specs.declared.token.TokenKind.TheVariants as kinds
use Rattle.rule_text.specs.declared.word.Word.{Word}
use Rattle.rule_text.specs.declared.word.Sort.{Sort}
use Rattle.rule_text.specs.declared.word.Sort.TheVariants as sorts

abbrev pub is_trivia : TokenKind → Bool
is_trivia kinds.Whitespace = true
is_trivia kinds.LineComment = true
is_trivia (kinds.BlockComment terminated) = true
is_trivia kind = false

-- whether a byte is the first one of a line (10 ends a line)
abbrev pub is_first : List ℕ → ℕ → Bool
is_first text at = at == 0 || get_or text (at - 1) 0 == 10

-- what a name names, by the case of its letters: that of a rule begins with a small one, and that of a class has one
abbrev pub case_of : List ℕ → Sort
case_of name =
    if is_ascii_lowercase (get_or name 0 0) then sorts.Call else if list_any is_ascii_lowercase name then sorts.Class else sorts.Kind

-- the same in front of a line, where the name of a rule begins the rule
abbrev pub first_sort : List ℕ → Sort
first_sort name =
    if bytes_eq name (codes "class") then sorts.ClassOf
    else if bytes_eq name (codes "words") then sorts.WordsOf
    else if bytes_eq name (codes "guard") then sorts.GuardOf
    else if is_ascii_lowercase (get_or name 0 0) then sorts.Rule
    else case_of name

-- what a name is, and whether it is in front of a line
abbrev pub name_sort : List ℕ → Bool → Sort
name_sort name first =
    if bytes_eq name (codes "_") then sorts.Operand
    else if bytes_eq name (codes "left") then sorts.Left
    else if bytes_eq name (codes "right") then sorts.Right
    else if bytes_eq name (codes "none") then sorts.Neither
    else if first then first_sort name
    else case_of name

-- what a token is
abbrev pub sort_of : TokenKind → List ℕ → Bool → Sort
sort_of kinds.Ident text first = name_sort text first
sort_of (kinds.QuotedIdent true false) text first = sorts.Message
sort_of (kinds.Literal (Str true)) text first = sorts.Kind
sort_of kinds.Eq text first = sorts.Equals
sort_of kinds.Gt text first = sorts.Greater
sort_of kinds.Or text first = sorts.Or
sort_of kinds.Slash text first = sorts.Slash
sort_of kinds.At text first = sorts.At
sort_of kinds.And text first = sorts.And
sort_of kinds.Tilde text first = sorts.Tilde
sort_of kinds.Question text first = sorts.Question
sort_of kinds.Star text first = sorts.Star
sort_of kinds.Plus text first = sorts.Plus
sort_of kinds.Minus text first = sorts.Minus
sort_of kinds.Percent text first = sorts.Percent
sort_of kinds.OpenParen text first = sorts.OpenParen
sort_of kinds.CloseParen text first = sorts.CloseParen
sort_of kinds.OpenCurly text first = sorts.OpenBrace
sort_of kinds.CloseCurly text first = sorts.CloseBrace
sort_of kind text first = sorts.Other

-- what stands in quotes
abbrev pub is_quoted : TokenKind → Bool
is_quoted (kinds.QuotedIdent terminated uescape) = true
is_quoted (kinds.Literal kind) = true
is_quoted kind = false

-- the text of a token without the byte in front and the last one, where these are whole characters
pub data Unquoted (spelled : List ℕ) : List ℕ → Type 0 where
  inside : 1 ≤ length spelled - 1 → Unquoted spelled (slice_range spelled 1 (length spelled - 1))
  whole : (1 ≤ length spelled - 1 → IsCharBoundary spelled 1 → IsCharBoundary spelled (length spelled - 1) → ⊥) → Unquoted spelled spelled

abbrev pub spelling : List ℕ → ℕ → Token → List ℕ
spelling text at token = slice_range text at (at + token.len)

-- the word that a token is
pub record IsWordOf (text : List ℕ) (at : ℕ) (token : Token) (word : Word) : Type 0 where
  pub sort : word.sort ≡ sort_of token.kind (spelling text at token) (is_first text at)
  pub at_is : word.name.at ≡ at
  pub plain : is_quoted token.kind ≡ false → word.name.text.now ≡ spelling text at token
  pub quoted : is_quoted token.kind ≡ true → Unquoted (spelling text at token) word.name.text.now

-- the words that so many tokens are
pub data AreWords (text : List ℕ) (tokens : List Token) : ℕ → List Word → Type 0 where
  no_words : AreWords text tokens 0 []
  trivia : {i : ℕ} {ws : List Word} {token : Token} → AreWords text tokens i ws → slice_get tokens i ≡ Some token → is_trivia token.kind ≡ true
      → AreWords text tokens (i + 1) ws
  word : {i : ℕ} {ws : List Word} {token : Token} {one : Word} → AreWords text tokens i ws → slice_get tokens i ≡ Some token → is_trivia token.kind ≡ false
      → IsWordOf text (start_of tokens i) token one → AreWords text tokens (i + 1) (ws ++ one ∷ [])
