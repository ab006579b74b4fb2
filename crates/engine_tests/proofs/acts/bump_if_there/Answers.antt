use Rattle.squawk_parser.proofs.OpenMarkers.{open_markers-puts}
use Rattle.engine_tests.proofs.acts.bump_if_there.Goals as goal

pub returns-then-at-clause-open_markers : goal.returns-then-at-clause-open_markers
returns-then-at-clause-open_markers c goes = open_markers-puts _ _ _ c.bump.ensures.puts goes
