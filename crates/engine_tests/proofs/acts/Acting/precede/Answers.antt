use Rattle.std.proofs.Common.{◌∙◌}
use Rattle.squawk_parser.proofs.OpenMarkers.{marker_inside, open_markers-around}
use Rattle.squawk_parser.proofs.Markers.{went-changed}
use Rattle.squawk_parser.proofs.MovedOpenMarkers.{open_markers-in_vain}
use Rattle.squawk_parser.proofs.RecordedSteps.{went}
use Rattle.engine_tests.proofs.acts.Acting.precede.Goals as goal

pub complete-node-requires-clause-open_marker : goal.complete-node-requires-clause-open_marker
complete-node-requires-clause-open_marker g c = marker_inside c.start-marker.ensures.begins c.eat.ensures.keeps c.eat.ensures.open_markers

pub returns-clause-open_markers : goal.returns-clause-open_markers
returns-clause-open_markers g c goes =
    let outer = c.precede-outer.ensures.precedes in
    open_markers-in_vain c.complete-node.ensures.at_hand outer c.abandon.ensures goes
    ∙ open_markers-around c.start-marker.ensures.begins c.eat.ensures.keeps c.eat.ensures.open_markers c.complete-node.ensures.completes (went outer.keeps (went-changed c.abandon.ensures goes))
