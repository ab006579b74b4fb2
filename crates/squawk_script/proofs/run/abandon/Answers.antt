use Rattle.squawk_script.proofs.MarkerCalls.{abandon-performs}
use Rattle.squawk_script.proofs.run.abandon.Goals as goal

pub returns-clause-performs : goal.returns-clause-performs
returns-clause-performs c =
    abandon-performs _ _ _ _ c.requires.tied c.args.marker c.take_marker.result c.take_marker.ensures.took c.abandon.ensures c.take_marker.ensures.left
