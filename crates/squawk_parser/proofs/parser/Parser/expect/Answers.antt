use Rattle.std.proofs.Common.{◌≡◌, ◌∙◌, ℕ, List, [], ◌∷◌, false, not, ap, sym, subst}
use Rattle.squawk_kinds.specs.TokenSets.{has}
use Rattle.squawk_table.specs.ParserInput.{Entry}
use Rattle.squawk_output.specs.Steps.{Error}
use Rattle.squawk_parser.specs.Composites.{stands_at}
use Rattle.squawk_parser.specs.Eaten.{expect_steps, expected_text}
use Rattle.squawk_parser.specs.Recorded.{Puts}
use Rattle.squawk_parser.specs.State.{State, ahead}
use Rattle.squawk_parser.specs.Words.{Words}
use Rattle.squawk_parser.proofs.SeenSteps.{if-false}
use Rattle.squawk_parser.proofs.SomeSteps.{puts_some}
use Rattle.squawk_parser.proofs.parser.Parser.expect.Goals as goal

-- where the kind doesn't stand, the error is recorded
not_there : (words : Words) (kind : ℕ) (seen : List Entry) → stands_at (has words.operator_first) kind seen ≡ false
    → expect_steps words kind seen ≡ Error (expected_text words kind) ∷ []
not_there words kind seen none = if-false _ _ _ none

pub returns-clause-puts : goal.returns-clause-puts
returns-clause-puts c =
    let old = c.args.self.now in
    let same : c.eat.new.self ≡ old = c.eat.ensures.none (ap not c.if-eat.false) in
    subst (λ steps. Puts steps old c.put_expected.new.self)
    (sym (not_there old.words c.args.kind (ahead old 0) (sym c.eat.ensures.at ∙ c.if-eat.false)))
    (subst (λ (s : State). Puts (Error (expected_text s.words c.args.kind) ∷ []) s c.put_expected.new.self) same c.put_expected.ensures)

pub returns-clause-some : goal.returns-clause-some
returns-clause-some c = puts_some (returns-clause-puts c)
