-- Rules that agree: by a test, and the first of several.
use Rattle.std.proofs.Common.{◌≡◌, ◌∙◌, ℕ, Bool, true, false, Option, Some, None, List, [], ◌∷◌, ◌++◌, ◌⊎◌, inl, inr, length, ap, refl, true≢false}
use Rattle.std.proofs.lemmas.Bool.{false≢true}
use Rattle.squawk_tokens.specs.declared.token.Token.{Token}
use Rattle.sql_lexer.specs.Rules.{when, or_else, first_of}
use Rattle.sql_lexer.proofs.lines.Agrees.{Agrees, Reaches}

-- a rule with a test, which gives one answer for both texts
pub when_agrees : (text : List ℕ) (longer fits : Bool) (other found : Token) → longer ≡ fits → (fits ≡ true → (other ≡ found) ⊎ (found.len ≡ length text))
    → (when longer other ≡ when fits found) ⊎ Reaches text (when fits found)
when_agrees text true true other found same agree =
    elim (agree refl) [ inl e ↦ inl (ap (λ t. Some t) e) | inr e ↦ inr (record { token = found; is = refl; end = e }) ]
when_agrees text false false other found same agree = inl refl
when_agrees text true false other found same agree = absurd (true≢false same)
when_agrees text false true other found same agree = absurd (false≢true same)

-- ---- the first of several

-- each of these rules does
abbrev pub AllAgree : List (List ℕ → Option Token) → List ℕ → List ℕ → Type 0
AllAgree [] text rest = Unit {0}
AllAgree (rule ∷ rules) text rest = Agrees rule text rest × AllAgree rules text rest

one_of_two : (text : List ℕ) (longer found others other : Option Token) → (longer ≡ found) ⊎ Reaches text found → (others ≡ other) ⊎ Reaches text other
    → (or_else longer others ≡ or_else found other) ⊎ Reaches text (or_else found other)
one_of_two text longer None others other (inl e) (inl f) = inl (ap (λ o. or_else o others) e ∙ f)
one_of_two text longer None others other (inl e) (inr reach) = inr reach
one_of_two text longer (Some found) others other (inl e) agree = inl (ap (λ o. or_else o others) e)
one_of_two text longer found others other (inr reach) agree =
    inr (record { token = reach.token; is = ap (λ o. or_else o other) reach.is; end = reach.end })

pub agrees-first_of : (rules : List (List ℕ → Option Token)) (text rest : List ℕ) → AllAgree rules text rest → Agrees (first_of rules) text rest
agrees-first_of [] text rest agree = inl refl
agrees-first_of (rule ∷ rules) text rest agree =
    one_of_two text (rule (text ++ rest)) (rule text) (first_of rules (text ++ rest)) (first_of rules text) agree.0 (agrees-first_of rules text rest agree.1)
