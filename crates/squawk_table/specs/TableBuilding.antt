-- A table that grows by one raw token after another.
use Rattle.std.specs.Prelude.{◌≡◌, ◌≢◌, ◌+◌, ◌<◌, All, ℕ, List, [], ◌∷◌, ◌++◌, length, IsCharBoundary, IsUtf8}
use Rattle.squawk_kinds.specs.Keywords.{Keywords}
use Rattle.squawk_kinds.specs.Kinds.{EOF}
use Rattle.std.specs.List.{HoldsAt}
use Rattle.squawk_tokens.specs.AcceptedTokens.{AreAcceptedTokens, IsGoodToken, start_of}
use Rattle.squawk_tokens.specs.Conversion.{Conversion, HasRead}
use Rattle.squawk_tokens.specs.declared.token.Token.{Token}
use Rattle.squawk_table.specs.RawTable.{kinds_from, starts_from}

-- The source, the kinds and the starts of its raw tokens so far, how many bytes these have, and what is read of their
-- lexical errors.
pub record Building : Type 0 where
  pub text : List ℕ
  pub kinds : List ℕ
  pub starts : List ℕ
  pub at : ℕ
  pub read : Conversion

-- What every builder keeps: the source is text, no raw token so far is the end, and they end at a character boundary.
pub record CanGrow (text kinds : List ℕ) (at : ℕ) : Type 0 where
  pub utf8 : IsUtf8 text
  pub no_end : All (λ kind. kind ≢ EOF) kinds
  pub boundary : IsCharBoundary text at

-- these tokens were added, with the kinds that these keywords give
pub record HasAdded (keyword : Keywords) (tokens : List Token) (b : Building) : Type 0 where
  pub at : b.at ≡ start_of tokens (length tokens)
  pub kinds : b.kinds ≡ kinds_from keyword b.text 0 tokens
  pub starts : b.starts ++ b.at ∷ [] ≡ starts_from 0 tokens
  pub read : HasRead tokens b.read
  pub text : b.read.text ≡ b.text

-- these are all of the source's
pub record HasAll (keyword : Keywords) (tokens : List Token) (b : Building) : Type 0 where
  pub added : HasAdded keyword tokens b
  pub accepted : AreAcceptedTokens b.text tokens

-- each of these tokens is good where the one before it ends
abbrev pub AreNext : Building → List Token → Type 0
AreNext b tokens = (i : ℕ) → i < length tokens → HoldsAt (IsGoodToken b.text (b.at + start_of tokens i)) tokens i
