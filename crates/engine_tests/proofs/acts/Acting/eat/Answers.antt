use Rattle.squawk_parser.proofs.OpenMarkers.{open_markers-eat}
use Rattle.engine_tests.proofs.acts.Acting.eat.Goals as goal

pub returns-then-not-has_tail-clause-open_markers : goal.returns-then-not-has_tail-clause-open_markers
returns-then-not-has_tail-clause-open_markers g c goes =
    open_markers-eat _ _ c.eat-answer.result _ c.eat-answer.ensures.puts c.eat-answer.ensures.none goes
