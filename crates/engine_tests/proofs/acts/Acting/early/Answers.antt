use Rattle.squawk_parser.proofs.OpenMarkers.{marker_inside, open_markers-around}
use Rattle.engine_tests.proofs.acts.Acting.early.Goals as goal

pub complete-requires-clause-open_marker : goal.complete-requires-clause-open_marker
complete-requires-clause-open_marker g c = marker_inside c.start-marker.ensures.begins c.eat.ensures.keeps c.eat.ensures.open_markers

pub returns-clause-open_markers : goal.returns-clause-open_markers
returns-clause-open_markers g c = open_markers-around c.start-marker.ensures.begins c.eat.ensures.keeps c.eat.ensures.open_markers c.complete.ensures.completes
