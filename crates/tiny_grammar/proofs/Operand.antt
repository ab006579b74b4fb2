-- An operand's token.
use Rattle.std.proofs.Common.{◌≡◌, ◌≢◌, ◌∙◌, true, false, [], ◌∷◌, ap, sym, refl, subst}
use Rattle.squawk_kinds.specs.Kinds.{EOF}
use Rattle.squawk_table.specs.ParserInput.{kind_in}
use Rattle.squawk_output.specs.Steps.{Error}
use Rattle.squawk_parser.specs.Eaten.{current_as, one}
use Rattle.squawk_parser.specs.Recorded.{Puts}
use Rattle.squawk_parser.specs.State.{State, ahead, kind_at}
use Rattle.squawk_parser.proofs.SeenSteps.{bump_puts, if-false, if-true, kind_at-first}
use Rattle.tiny_grammar.specs.Expressions.{expected_operand, is_operand, operand_step}

module _ {a b : State} where
  pub operand_there : is_operand (kind_at a 0) ≡ true → Puts (current_as (kind_in (ahead a 0) 0) (ahead a 0)) a b → Puts (operand_step (ahead a 0) ∷ []) a b
  operand_there there puts =
      let is : is_operand (kind_in (ahead a 0) 0) ≡ true = ap is_operand (sym (kind_at-first a)) ∙ there in
      let some : kind_in (ahead a 0) 0 ≢ EOF = λ end. absurd (let p = sym is ∙ ap is_operand end in cc) in
      let step : operand_step (ahead a 0) ≡ one (kind_in (ahead a 0) 0) = if-true _ _ _ is in
      subst (λ step. Puts (step ∷ []) a b) (sym step) (bump_puts (kind_in (ahead a 0) 0) refl some puts)

  pub operand_missing : is_operand (kind_at a 0) ≡ false → Puts (Error expected_operand ∷ []) a b → Puts (operand_step (ahead a 0) ∷ []) a b
  operand_missing none puts =
      let is : is_operand (kind_in (ahead a 0) 0) ≡ false = ap is_operand (sym (kind_at-first a)) ∙ none in
      let step : operand_step (ahead a 0) ≡ Error expected_operand = if-false _ _ _ is in
      subst (λ step. Puts (step ∷ []) a b) (sym step) puts
