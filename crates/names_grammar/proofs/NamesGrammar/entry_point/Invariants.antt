use Rattle.std.proofs.Common.{◌-◌}
use Rattle.squawk_parser.specs.SomeSteps.{AddsSome, Spends}
use Rattle.names_grammar.proofs.NamesGrammar.entry_point.Given as goal

-- some steps were added behind the marker, at most four events a token
abbrev pub invariant-loop-p : goal.invariant-loop-p
invariant-loop-p l = record { adds : AddsSome l.initial.p l.p; spends : Spends 4 0 l.initial.p l.p }

-- the tokens that are left
abbrev pub decreases-loop-p : goal.decreases-loop-p
decreases-loop-p l = l.p.limit - l.p.position
