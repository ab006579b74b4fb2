-- What is known at a place of a script. Only private functions speak of it.
use Rattle.std.specs.Prelude.{ℕ, Bool, true, false, ◌+◌, ◌<◌, ◌^◌, List, length, IsUtf8, IsCharBoundary}
use Rattle.squawk_tokens.specs.declared.token.TokenKind.{TokenKind}
use Rattle.squawk_tokens.specs.declared.token.TokenKind.TheVariants.{PsqlCommand, Semi}
use Rattle.sql_lexer.specs.declared.script.places.Place.{Place}
use Rattle.sql_lexer.specs.declared.script.places.Place.TheVariants.{Front, Sql, Data}
use Rattle.sql_lexer.specs.declared.statements.Statement.{Statement}
use Rattle.sql_lexer.specs.Statements.{unclosed_in}

-- in a plain statement only these may end it
abbrev pub may_end : TokenKind → Bool
may_end Semi = true
may_end (PsqlCommand ends_query) = true
may_end kind = false

-- what is left of a text is text, and a token
pub record IsRest (text : List ℕ) : Type 0 where
  pub some : 0 < length text
  pub short : length text < 2 ^ 32
  pub utf8 : IsUtf8 text

-- the line of COPY is one of the text, and the counts have room for one more
pub record HasLine (left : ℕ) (statement : Statement) (waiting : ℕ) (text : List ℕ) : Type 0 where
  pub boundary : IsCharBoundary text left
  pub unclosed : unclosed_in statement + 1 < 2 ^ 64
  pub waits : waiting + 1 < 2 ^ 64

-- the same at any place
abbrev pub HasRoom : Place → List ℕ → Type 0
HasRoom Front text = Unit {0}
HasRoom (Sql statement) text = unclosed_in statement + 1 < 2 ^ 64
HasRoom (Data left statement waiting) text = HasLine left statement waiting text

-- how many are counted as unclosed at a place, and how many COPY statements wait for their data
abbrev pub unclosed_at : Place → ℕ
unclosed_at Front = 0
unclosed_at (Sql statement) = unclosed_in statement
unclosed_at (Data left statement waiting) = unclosed_in statement

abbrev pub waiting_at : Place → ℕ
waiting_at Front = 0
waiting_at (Sql statement) = 0
waiting_at (Data left statement waiting) = waiting

-- how far a place reaches: to the end of the line of COPY
abbrev pub reach_of : Place → ℕ
reach_of Front = 0
reach_of (Sql statement) = 0
reach_of (Data left statement waiting) = left
