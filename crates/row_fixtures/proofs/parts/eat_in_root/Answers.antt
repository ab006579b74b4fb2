use Rattle.squawk_parser.proofs.OpenMarkers.{marker_inside, open_markers-around}
use Rattle.row_fixtures.proofs.parts.eat_in_root.Goals as goal

pub complete-requires-clause-open_marker : goal.complete-requires-clause-open_marker
complete-requires-clause-open_marker c = marker_inside c.start-root.ensures.begins c.eat_with.ensures.keeps c.eat_with.ensures.open_markers

pub returns-clause-open_markers : goal.returns-clause-open_markers
returns-clause-open_markers c = open_markers-around c.start-root.ensures.begins c.eat_with.ensures.keeps c.eat_with.ensures.open_markers c.complete.ensures.completes
