use Rattle.squawk_parser.proofs.OpenMarkers.{open_markers-eat_with}
use Rattle.row_fixtures.proofs.parts.eat_with.Goals as goal

pub returns-then-has_tail-clause-open_markers : goal.returns-then-has_tail-clause-open_markers
returns-then-has_tail-clause-open_markers c goes = open_markers-eat_with _ _ _ _ c.eat_with.result c.eat_with.ensures.eats c.eat_with.ensures.none goes
