use Rattle.squawk_parser.proofs.OpenMarkers.{open_markers-puts}
use Rattle.engine_tests.proofs.acts.Acting.expect.Goals as goal

pub returns-then-not-has_tail-clause-open_markers : goal.returns-then-not-has_tail-clause-open_markers
returns-then-not-has_tail-clause-open_markers g c goes = open_markers-puts _ _ _ c.expect-answer.ensures.puts goes
