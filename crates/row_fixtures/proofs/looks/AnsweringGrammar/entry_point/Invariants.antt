use Rattle.std.proofs.Common.{[]}
use Rattle.squawk_parser.specs.State.{Keeps}
use Rattle.squawk_parser.proofs.OpenMarkers.{HasOpenMarkers}
use Rattle.row_fixtures.proofs.looks.AnsweringGrammar.entry_point.Given as goal

abbrev pub invariant-loop-question : goal.invariant-loop-question
invariant-loop-question l = Keeps l.initial.p l.p × HasOpenMarkers l.p []
