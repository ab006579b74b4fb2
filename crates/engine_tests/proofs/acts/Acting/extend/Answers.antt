use Rattle.squawk_parser.proofs.OpenMarkers.{marker_inside}
use Rattle.squawk_parser.proofs.MovedOpenMarkers.{marker_still, open_markers-moved}
use Rattle.engine_tests.proofs.acts.Acting.extend.Goals as goal

pub complete-node-requires-clause-open_marker : goal.complete-node-requires-clause-open_marker
complete-node-requires-clause-open_marker g c = marker_inside c.start-begun.ensures.begins c.eat-2.ensures.keeps c.eat-2.ensures.open_markers

pub extend_to-requires-clause-open_marker : goal.extend_to-requires-clause-open_marker
extend_to-requires-clause-open_marker g c =
    marker_still c.start-marker.ensures.begins c.eat.ensures.keeps c.eat.ensures.open_markers c.start-begun.ensures.begins c.eat-2.ensures.keeps c.eat-2.ensures.open_markers
    c.complete-node.ensures.completes

pub returns-clause-open_markers : goal.returns-clause-open_markers
returns-clause-open_markers g c goes =
    open_markers-moved c.start-marker.ensures.begins c.eat.ensures.keeps c.eat.ensures.open_markers c.start-begun.ensures.begins c.eat-2.ensures.keeps c.eat-2.ensures.open_markers
    c.complete-node.ensures.completes (rw c.complete-node.ensures.node at c.extend_to.ensures.changes) goes
