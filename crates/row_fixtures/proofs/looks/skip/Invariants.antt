use Rattle.std.proofs.Common.{[]}
use Rattle.squawk_output.specs.Draft.{HasNoOpenMarker}
use Rattle.squawk_parser.specs.State.{Keeps}
use Rattle.squawk_parser.proofs.OpenMarkers.{HasOpenMarkers}
use Rattle.row_fixtures.proofs.looks.skip.Given as goal

abbrev pub invariant-loop : goal.invariant-loop
invariant-loop l = Keeps l.initial.p l.p × (HasNoOpenMarker l.initial.p.draft.items → HasOpenMarkers l.p [])
