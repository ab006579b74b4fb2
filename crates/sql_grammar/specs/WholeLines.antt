-- The lines of a text that end.
use Rattle.std.specs.Prelude.{◌≡◌, ◌≢◌, ◌<◌, ℕ, List, ◌++◌, All, length}
use Rattle.sql_lexer.specs.Lines.{EndsLine}

-- a text up to its last newline (10), and with it
pub record AreWholeLines (text lines : List ℕ) : Type 0 where
  pub rest : List ℕ
  pub whole : text ≡ lines ++ rest
  pub none : All (λ b. b ≢ 10) rest
  pub end : 0 < length lines → EndsLine lines
