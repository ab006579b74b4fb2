use Rattle.squawk_parser.proofs.OpenMarkers.{open_markers-eat_with}
use Rattle.engine_tests.proofs.acts.Acting.eat_with.Goals as goal

pub returns-then-has_tail-clause-open_markers : goal.returns-then-has_tail-clause-open_markers
returns-then-has_tail-clause-open_markers g c goes =
    open_markers-eat_with _ _ _ _ c.eat_with-answer.result c.eat_with-answer.ensures.eats c.eat_with-answer.ensures.none goes
