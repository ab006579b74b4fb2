use Rattle.std.proofs.Common.{◌≡◌, ◌≢◌, arith, refl}
use Rattle.squawk_kinds.specs.Kinds.{EOF}
use Rattle.squawk_parser.specs.State.{kind_at}
use Rattle.squawk_parser.proofs.RecordedSteps.{records-most, token_puts}
use Rattle.squawk_parser.proofs.Recovery.{current-none, current-some}
use Rattle.squawk_parser.proofs.SomeSteps.{puts_some}
use Rattle.squawk_parser.proofs.parser.Parser.bump_remap.Goals as goal

pub returns-then-ne-clause-puts : goal.returns-then-ne-clause-puts
returns-then-ne-clause-puts c =
    let bump = c.do_bump.ensures in
    let some : kind_at c.args.self.now 0 ≢ EOF = grind arith in
    current-some _ some (token_puts _ 1 bump.keeps bump.records bump.position)

pub returns-else-ne-clause-puts : goal.returns-else-ne-clause-puts
returns-else-ne-clause-puts c =
    let end : kind_at c.args.self.now 0 ≡ EOF = grind arith in
    current-none _ c.witness_sound.ensures end

pub returns-then-ne-clause-some : goal.returns-then-ne-clause-some
returns-then-ne-clause-some c = puts_some (returns-then-ne-clause-puts c)

pub returns-else-ne-clause-some : goal.returns-else-ne-clause-some
returns-else-ne-clause-some c = puts_some (returns-else-ne-clause-puts c)

pub returns-then-ne-clause-spends : goal.returns-then-ne-clause-spends
returns-then-ne-clause-spends c = let most = records-most c.do_bump.ensures.records refl in let eats = c.do_bump.ensures.position in omega (arith, most, eats)
