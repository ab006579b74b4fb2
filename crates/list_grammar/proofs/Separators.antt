-- What stands between the items of a list.
use Rattle.std.proofs.Common.{◌≡◌, ◌≢◌, ◌∙◌, ℕ, ◌<◌, ◌≤◌, ◌==◌, ◌||◌, Bool, true, false, IsTrue, [], ◌∷◌, arith, ap, sym, refl, subst}
use Rattle.std.proofs.lemmas.Bool.{ne_eqb}
use Rattle.squawk_kinds.specs.Kinds.{COMMA, EOF, R_PAREN}
use Rattle.squawk_kinds.specs.TokenSets.{has}
use Rattle.squawk_kinds.proofs.ConstantSets.{has-words_of, words_of}
use Rattle.squawk_table.specs.ParserInput.{kind_in}
use Rattle.squawk_output.specs.Steps.{Error}
use Rattle.squawk_parser.specs.Composites.{stands_at}
use Rattle.squawk_parser.specs.Eaten.{expect_steps, expected_text}
use Rattle.squawk_parser.specs.Recorded.{Puts}
use Rattle.squawk_parser.specs.State.{State, ahead, kind_at}
use Rattle.squawk_parser.proofs.SeenSteps.{ahead-moved, if-false, kind_at-first}

-- a list goes on at a comma and at its end, and at no other kind
recovers_not : (kind : ℕ) → kind ≢ COMMA → kind ≢ R_PAREN → has (words_of (COMMA ∷ R_PAREN ∷ [])) kind ≡ false
recovers_not kind comma closed =
    let no_comma : (COMMA == kind) ≡ false = ne_eqb COMMA kind (λ is. comma (sym is)) in
    let no_end : (R_PAREN == kind) ≡ false = ne_eqb R_PAREN kind (λ is. closed (sym is)) in
    has-words_of (COMMA ∷ R_PAREN ∷ []) refl kind ∙ (ap (λ b. b || ((R_PAREN == kind) || false)) no_comma ∙ ap (λ b. false || (b || false)) no_end)

-- A comma was expected, and an item behind it: a token was eaten, the comma or else what stood in its place.
module _ {a b : State} (c : State) (some : kind_at a 0 ≢ EOF) (inside : kind_at a 0 ≢ R_PAREN)
    (puts : Puts (expect_steps a.words COMMA (ahead a 0)) a b)
    (item : has (words_of (COMMA ∷ R_PAREN ∷ [])) (kind_at b 0) ≡ false → kind_at b 0 ≢ EOF → b.position < c.position)
    (forward : b.position ≤ c.position) where
  without_comma : stands_at (has a.words.operator_first) COMMA (ahead a 0) ≡ false → a.position < c.position
  without_comma none =
      let error : Puts (Error (expected_text a.words COMMA) ∷ []) a b = subst (λ steps. Puts steps a b) (if-false _ _ _ none) puts in
      let same : kind_at b 0 ≡ kind_at a 0 =
      kind_at-first b ∙ (ap (λ seen. kind_in seen 0) (ahead-moved 0 error.keeps error.position) ∙ sym (kind_at-first a)) in
      let no_comma : kind_at a 0 ≢ COMMA = λ is. grind (arith, none, is, kind_at-first a) in
      let eats = item (recovers_not (kind_at b 0) (λ is. no_comma (sym same ∙ is)) (λ is. inside (sym same ∙ is))) (λ is. some (sym same ∙ is)) in
      omega (arith, eats, error.position)

  pub next_eats : (found : Bool) → found ≡ stands_at (has a.words.operator_first) COMMA (ahead a 0) → (IsTrue found → a.position < b.position) → a.position < c.position
  next_eats true at eats = omega (arith, eats refl, forward)
  next_eats false at eats = without_comma (sym at)
