use Rattle.std.proofs.Common.{◌∙◌, ap, set}
use Rattle.std.proofs.lemmas.List.{set-set}
use Rattle.squawk_script.specs.declared.slot.Slot.TheVariants.{Done, Spent}
use Rattle.squawk_script.proofs.MarkerCalls.{complete-performs}
use Rattle.squawk_script.proofs.run.complete.Goals as goal

pub returns-clause-performs : goal.returns-clause-performs
returns-clause-performs c =
    complete-performs _ _ _ _ c.requires.tied c.args.marker c.args.kind c.take_marker.result c.take_marker.ensures.took c.complete-node.ensures.completes
    (c.keep_node.ensures.kept
    ∙ (ap (λ slots. set slots c.args.marker (Done c.complete-node.result)) c.take_marker.ensures.left
    ∙ (set-set c.args.slots.now.items c.args.marker Spent (Done c.complete-node.result)
    ∙ ap (λ node. set c.args.slots.now.items c.args.marker (Done node)) c.complete-node.ensures.node)))
