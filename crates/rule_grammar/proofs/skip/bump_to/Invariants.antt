use Rattle.std.proofs.Common.{◌-◌}
use Rattle.squawk_parser.specs.SomeSteps.{AddsSome}
use Rattle.rule_grammar.proofs.skip.bump_to.Given as goal

abbrev pub invariant-loop-p : goal.invariant-loop-p
invariant-loop-p l = AddsSome l.initial.p l.p

abbrev pub decreases-loop-p : goal.decreases-loop-p
decreases-loop-p l = l.p.limit - l.p.position
