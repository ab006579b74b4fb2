-- A token fits the front of a text.
use Rattle.std.proofs.Common.{◌≡◌, ℕ, ◌<◌, true, false, Bool, Option, Some, None, List, [], ◌∷◌, take, refl}
use Rattle.std.specs.Prelude.{IfSome, IsCharBoundary}
use Rattle.squawk_tokens.specs.declared.token.Token.{Token}
use Rattle.squawk_tokens.specs.TokenRules.{MeetsKind}
use Rattle.sql_lexer.specs.Rules.{when, or_else, first_of}

-- it isn't empty, a character ends where it ends, and its text is what its kind says
pub record Fits (text : List ℕ) (token : Token) : Type 0 where
  pub nonempty : 0 < token.len
  pub boundary : IsCharBoundary text token.len
  pub kind : MeetsKind (take token.len text) token.kind

-- the token of a rule does, if the rule fits
abbrev pub RuleFits : List ℕ → Option Token → Type 0
RuleFits text found = IfSome found (Fits text)

pub when_fits : (text : List ℕ) (fits : Bool) (found : Token) → (fits ≡ true → Fits text found) → RuleFits text (when fits found)
when_fits text true found good = good refl
when_fits text false found good = tt

-- each of these rules does
abbrev pub AllFit : List (List ℕ → Option Token) → List ℕ → Type 0
AllFit [] text = Unit {0}
AllFit (rule ∷ rules) text = RuleFits text (rule text) × AllFit rules text

one_of_two : (text : List ℕ) (found other : Option Token) → RuleFits text found → RuleFits text other → RuleFits text (or_else found other)
one_of_two text None other fits others = others
one_of_two text (Some token) other fits others = fits

pub first_fits : (rules : List (List ℕ → Option Token)) (text : List ℕ) → AllFit rules text → RuleFits text (first_of rules text)
first_fits [] text fit = tt
first_fits (rule ∷ rules) text fit = one_of_two text (rule text) (first_of rules text) fit.0 (first_fits rules text fit.1)
