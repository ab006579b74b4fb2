-- A rule agrees on a text that ends a line with what it makes of a longer text.
use Rattle.std.proofs.Common.{◌≡◌, ℕ, zero, suc, ◌<◌, Option, Some, List, [], ◌∷◌, ◌++◌, ◌⊎◌, length, drop, arith, ap}
use Rattle.squawk_tokens.specs.declared.token.Token.{Token}
use Rattle.sql_lexer.specs.Lines.{EndsLine}

-- a token up to the end of the text
pub record Reaches (text : List ℕ) (found : Option Token) : Type 0 where
  pub token : Token
  pub is : found ≡ Some token
  pub end : token.len ≡ length text

-- what is found in a text and in one that goes on is the same, or reaches the end of the first
abbrev pub Agrees : (List ℕ → Option Token) → List ℕ → List ℕ → Type 0
Agrees rule text rest = (rule (text ++ rest) ≡ rule text) ⊎ Reaches text (rule text)

-- ---- what is left of a text that ends a line

pub ends_next : (b c : ℕ) (text : List ℕ) → EndsLine (b ∷ c ∷ text) → EndsLine (c ∷ text)
ends_next b c text ends = next ends.front ends.line
  where
    next : (front : List ℕ) → (b ∷ c ∷ text) ≡ front ++ 10 ∷ [] → EndsLine (c ∷ text)
    next [] e = cc
    next (f ∷ front) e = record { front = front; line = ap (drop 1) e }

pub ends_drop : (n : ℕ) (text : List ℕ) → EndsLine text → n < length text → EndsLine (drop n text)
ends_drop zero text ends lt = ends
ends_drop (suc n) [] ends lt = absurd (omega (arith, lt))
ends_drop (suc n) (b ∷ []) ends lt = absurd (omega (arith, lt))
ends_drop (suc n) (b ∷ c ∷ text) ends lt = ends_drop n (c ∷ text) (ends_next b c text ends) (omega (arith, lt))
