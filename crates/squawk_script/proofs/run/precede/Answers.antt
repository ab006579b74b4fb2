use Rattle.std.proofs.Common.{◌∙◌, ◌++◌, ◌∷◌, [], ap}
use Rattle.squawk_script.specs.declared.slot.Slot.TheVariants.{Open}
use Rattle.squawk_script.proofs.MarkerCalls.{precede-performs}
use Rattle.squawk_script.proofs.run.precede.Goals as goal

pub returns-clause-performs : goal.returns-clause-performs
returns-clause-performs c =
    precede-performs _ _ _ _ c.requires.tied c.args.node c.take_node.result c.precede-marker.result c.take_node.ensures.took c.precede-marker.ensures.precedes
    (c.push_reserved.ensures.items ∙ ap (λ slots. slots ++ Open c.precede-marker.result ∷ []) c.take_node.ensures.left)
