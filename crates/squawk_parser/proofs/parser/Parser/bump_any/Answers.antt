use Rattle.std.proofs.Common.{◌≡◌, ◌≢◌, ◌∙◌, arith, refl, subst}
use Rattle.squawk_kinds.specs.Kinds.{EOF}
use Rattle.squawk_parser.specs.Eaten.{current_as}
use Rattle.squawk_parser.specs.Recorded.{Puts}
use Rattle.squawk_parser.specs.State.{ahead, kind_at}
use Rattle.squawk_parser.proofs.RecordedSteps.{records-most, token_puts}
use Rattle.squawk_parser.proofs.Recovery.{current-none, current-some}
use Rattle.squawk_parser.proofs.SeenSteps.{kind_at-first}
use Rattle.squawk_parser.proofs.SomeSteps.{puts_some}
use Rattle.squawk_parser.proofs.parser.Parser.bump_any.Goals as goal

pub returns-then-eq-clause-puts : goal.returns-then-eq-clause-puts
returns-then-eq-clause-puts c =
    let end : kind_at c.args.self.now 0 ≡ EOF = grind arith in
    current-none _ c.witness_sound.ensures end

pub returns-clause-puts : goal.returns-clause-puts
returns-clause-puts c =
    let bump = c.do_bump.ensures in
    let some : kind_at c.args.self.now 0 ≢ EOF = grind arith in
    subst (λ kind. Puts (current_as kind (ahead c.args.self.now 0)) c.args.self.now c.do_bump.new.self) (c.current-kind.ensures ∙ kind_at-first c.args.self.now)
    (current-some _ some (token_puts _ 1 bump.keeps bump.records bump.position))

pub returns-then-eq-clause-some : goal.returns-then-eq-clause-some
returns-then-eq-clause-some c = puts_some (returns-then-eq-clause-puts c)

pub returns-clause-some : goal.returns-clause-some
returns-clause-some c = puts_some (returns-clause-puts c)

pub returns-clause-spends : goal.returns-clause-spends
returns-clause-spends c = let most = records-most c.do_bump.ensures.records refl in let eats = c.do_bump.ensures.position in omega (arith, most, eats)
