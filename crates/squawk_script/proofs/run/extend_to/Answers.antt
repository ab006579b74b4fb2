use Rattle.std.proofs.Common.{◌∙◌, [], ap, set}
use Rattle.squawk_script.specs.declared.slot.Slot.TheVariants.{Done}
use Rattle.squawk_script.proofs.MarkerCalls.{is_older, taken-older, taken-performs}
use Rattle.squawk_script.proofs.run.extend_to.Goals as goal

pub extend_to-extended-requires-clause-older : goal.extend_to-extended-requires-clause-older
extend_to-extended-requires-clause-older c =
    taken-older _ c.args.p.now _ [] c.requires.tied _ c.args.node c.args.marker c.take_node.result c.take_marker-older.result c.take_marker-older.ensures.took
    c.take_marker-older.ensures.left c.take_node.ensures.took (is_older _ _ c.args.marker c.args.node c.requires.admitted)

pub returns-clause-performs : goal.returns-clause-performs
returns-clause-performs c =
    taken-performs _ _ _ _ c.requires.tied _ c.args.node c.args.marker c.take_node.result c.take_marker-older.result c.take_marker-older.ensures.took
    c.take_marker-older.ensures.left c.take_node.ensures.took c.extend_to-extended.result c.extend_to-extended.ensures.node c.extend_to-extended.ensures.changes
    (c.keep_node.ensures.kept ∙ ap (λ slots. set slots c.args.node (Done c.extend_to-extended.result)) c.take_node.ensures.left)
