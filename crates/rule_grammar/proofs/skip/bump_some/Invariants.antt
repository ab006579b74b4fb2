use Rattle.squawk_parser.specs.SomeSteps.{AddsSome}
use Rattle.rule_grammar.proofs.skip.bump_some.Given as goal

abbrev pub invariant-loop-left : goal.invariant-loop-left
invariant-loop-left l = AddsSome l.initial.p l.p

abbrev pub decreases-loop-left : goal.decreases-loop-left
decreases-loop-left l = l.left
