use Rattle.squawk_script.proofs.MarkerCalls.{start-performs}
use Rattle.squawk_script.proofs.run.start.Goals as goal

pub returns-clause-performs : goal.returns-clause-performs
returns-clause-performs c = start-performs _ _ _ _ c.requires.tied c.start-marker.result c.start-marker.ensures.begins c.push_reserved.ensures.items
