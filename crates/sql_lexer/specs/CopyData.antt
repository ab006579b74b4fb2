-- The law of COPY's data: after COPY's line each token is a whole line or the end of one, up to the line `\.`. It is
-- stated by lines and doesn't follow the tokenizer's steps.
use Rattle.std.specs.Prelude.{ℕ, true, false, ◌≡◌, ◌≢◌, ◌+◌, ◌-◌, ◌==◌, List, [], ◌∷◌, ◌++◌, ◌⊎◌, length, take, drop, codes, IsUtf8, if◌then◌else◌}
use Rattle.std.specs.List.{All, before_first, flat_map}
use Rattle.std.specs.Io.BufRead.{strip_last}
use Rattle.squawk_tokens.specs.declared.token.Token.{Token}
use Rattle.squawk_tokens.specs.declared.token.TokenKind.{TokenKind}
use Rattle.squawk_tokens.specs.declared.token.TokenKind.TheVariants.{PsqlCommand, Whitespace}
use Rattle.sql_lexer.specs.declared.statements.Statement.{Statement}
use Rattle.sql_lexer.specs.declared.statements.Word.{Word}
use Rattle.sql_lexer.specs.declared.script.places.Place.{Place}
use Rattle.sql_lexer.specs.Rules.{token}
use Rattle.sql_lexer.specs.Scripts.{data_of, place_behind, place_behind_data, place_with, token_at}
use Rattle.sql_lexer.specs.ScriptWords.{word_of}
use Rattle.sql_lexer.specs.Statements.{after, data_follow}
use Rattle.sql_lexer.specs.Tokens.{tokens_by, tokens_of}

-- ---- lines

-- the content of a line: its bytes without a carriage return (13) at the end
abbrev pub content_of : List ℕ → List ℕ
content_of line = strip_last 13 line

-- a line of data has no newline (10) in it, and its content isn't `\.`
pub record IsDataLine (line : List ℕ) : Type 0 where
  pub one : All (λ b. b ≢ 10) line
  pub other : content_of line ≢ codes "\\."

-- a text of lines, each with its newline
abbrev pub text_of : List (List ℕ) → List ℕ
text_of lines = flat_map (λ line. line ++ 10 ∷ []) lines

-- a text begins with the end of a line: up to its first newline it is empty, or a carriage return
abbrev pub BeginsWithEnd : List ℕ → Type 0
BeginsWithEnd text = content_of (before_first (λ b. b == 10) text) ≡ []

-- a text of lines, the line `\.` and a rest
pub record HasEnd (text : List ℕ) : Type 0 where
  pub lines : List (List ℕ)
  pub rest : List ℕ
  pub are : All IsDataLine lines
  pub ends : BeginsWithEnd rest
  pub whole : text ≡ text_of lines ++ (codes "\\." ++ rest)

-- a text of lines without `\.`; the last line has no newline, and may be empty
pub record HasNoEnd (text : List ℕ) : Type 0 where
  pub lines : List (List ℕ)
  pub last : List ℕ
  pub are : All IsDataLine lines
  pub is : IsDataLine last
  pub whole : text ≡ text_of lines ++ last

-- ---- their tokens

-- a token of this length; none where it is 0
abbrev pub token_of_some : TokenKind → ℕ → List Token
token_of_some kind len = if len == 0 then [] else token kind len ∷ []

-- the end of a line is white space: a carriage return after the content, and the newline, which the last line lacks
abbrev pub end_of : List ℕ → List ℕ → List Token
end_of line newline = token_of_some Whitespace (length line + length newline - length (content_of line))

-- the content of a line of data is a command of psql that ends no query
abbrev pub tokens_of_line : List ℕ → List ℕ → List Token
tokens_of_line line newline = token_of_some (PsqlCommand false) (length (content_of line)) ++ end_of line newline

abbrev pub tokens_of_lines : List (List ℕ) → List Token
tokens_of_lines lines = flat_map (λ line. tokens_of_line line (10 ∷ [])) lines

-- ---- the rest of COPY's line

-- the words of a text with these tokens
abbrev pub words_of : List Token → List ℕ → List Word
words_of [] text = []
words_of (found ∷ tokens) text = word_of found.kind (take found.len text) ∷ words_of tokens (drop found.len text)

-- how many COPY statements end among these words
abbrev pub copies_among : Statement → List Word → ℕ
copies_among statement [] = 0
copies_among statement (word ∷ words) =
    (if data_follow statement word then 1 else 0) + copies_among (after statement word) words

-- how many end in a text
abbrev pub copies_in : Statement → List ℕ → ℕ
copies_in statement text = copies_among statement (words_of (tokens_of text) text)

-- ---- the law

-- the tokens of a text that begins at a place
abbrev pub tokens_from : Place → List ℕ → List Token
tokens_from place text = tokens_by token_at place_behind place 0 text

pub record DataAreLines : Type 0 where
  -- After the word that ends COPY, the rest of its line is cut as a text of its own. The end of the line is white space,
  -- and data begin with the next line. Further COPY statements that end on the line wait for theirs.
  pub begun : (statement : Statement) (word : Word) (line text : List ℕ)
      → data_follow statement word ≡ true → All (λ b. b ≢ 10) line → IsUtf8 (line ++ 10 ∷ text)
      → (next : Statement)
      × (tokens_from (place_with statement word (line ++ 10 ∷ text)) (line ++ 10 ∷ text)
      ≡ (tokens_of (content_of line) ++ end_of line (10 ∷ []))
      ++ tokens_from (data_of next (copies_in (after statement word) (content_of line))) text)
  -- Data are lines up to the line `\.`. That one is a command of psql that ends a query. After it the data of the next
  -- waiting COPY begin, or SQL.
  pub ended : (statement : Statement) (waiting : ℕ) (text : List ℕ) (has : HasEnd text)
      → tokens_from (data_of statement waiting) text
      ≡ tokens_of_lines has.lines ++ token (PsqlCommand true) 2 ∷ tokens_from (place_behind_data waiting) has.rest
  -- Without the line `\.` all of the text is data.
  pub unended : (statement : Statement) (waiting : ℕ) (text : List ℕ) (has : HasNoEnd text)
      → tokens_from (data_of statement waiting) text ≡ tokens_of_lines has.lines ++ tokens_of_line has.last []
  -- These are all texts.
  pub every : (text : List ℕ) → HasEnd text ⊎ HasNoEnd text
