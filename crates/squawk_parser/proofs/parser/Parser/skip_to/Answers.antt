use Rattle.std.proofs.Common.{◌∙◌, arith, sym}
use Rattle.std.specs.Str.{chars}
use Rattle.squawk_kinds.specs.TokenSets.{has}
use Rattle.squawk_parser.specs.Skipped.{before_stop}
use Rattle.squawk_parser.specs.State.{ahead}
use Rattle.squawk_parser.proofs.SkippedTokens.{skip_none, skip_puts, skips-next, skips-none}
use Rattle.squawk_parser.proofs.SomeSteps.{puts_some}
use Rattle.squawk_parser.proofs.SpentEvents.{skip_steps-few}
use Rattle.squawk_parser.proofs.parser.Parser.skip_to.Goals as goal

pub returns-then-stops_at-clause-puts : goal.returns-then-stops_at-clause-puts
returns-then-stops_at-clause-puts c =
    skip_none (chars c.args.message.now) (has c.args.set) c.witness_sound.ensures (sym c.stops_at.ensures ∙ c.if-stops_at.true)

pub loop-set-init : goal.loop-set-init
loop-set-init c = skips-none (has c.args.set) _ c.error.ensures.puts.keeps.sound

pub loop-set-preserved : goal.loop-set-preserved
loop-set-preserved c = skips-next c.loop-set.invariant (sym c.stops_at-in-loop-set.ensures ∙ c.loop-set-test.true) c.bump_any.ensures.puts

pub returns-clause-puts : goal.returns-clause-puts
returns-clause-puts c =
    skip_puts (sym c.stops_at.ensures ∙ c.if-stops_at.false) c.start-node.ensures.begins c.error.ensures.puts c.loop-set.invariant
    (sym c.stops_at-in-loop-set.ensures ∙ c.loop-set-test.false) c.complete.ensures.completes

pub returns-clause-some : goal.returns-clause-some
returns-clause-some c = puts_some (returns-clause-puts c)

pub returns-clause-spends : goal.returns-clause-spends
returns-clause-spends c =
    let puts = returns-clause-puts c in
    omega (arith, puts.few, puts.position, skip_steps-few (chars c.args.message.now) (before_stop (has c.args.set) (ahead c.args.self.now 0)))
