use Rattle.std.proofs.Common.{[], rules}
use Rattle.sql_report.proofs.HeldSteps.{walked_none}
use Rattle.sql_report.proofs.one_walk.Walk.new.Goals as goal

pub returns-clause-begins : goal.returns-clause-begins
returns-clause-begins c =
    c.in_ok-step.ensures.walks [] []
    (walked_none _ (search rules) c.new-2.ensures.asked (λ rest. c.new-2.ensures.draws c.new.result rest) c.new.ensures)
