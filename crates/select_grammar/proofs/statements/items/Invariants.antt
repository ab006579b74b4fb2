use Rattle.std.proofs.Common.{◌-◌}
use Rattle.squawk_parser.specs.SomeSteps.{AddsSome, Spends}
use Rattle.select_grammar.proofs.statements.items.Given as goal

abbrev pub invariant-loop-p : goal.invariant-loop-p
invariant-loop-p l = record { adds : AddsSome l.initial.p l.p; spends : Spends 12 0 l.initial.p l.p }

abbrev pub decreases-loop-p : goal.decreases-loop-p
decreases-loop-p l = l.p.limit - l.p.position
