use Rattle.sql_trim.proofs.format.format.Goals as goal

pub returns-clause-formatted : goal.returns-clause-formatted
returns-clause-formatted g c =
    let tree = c.in_ok-tree.ensures.tree in
    record { laid = c.in_ok-tree.tree; is_tree = tree; formatted_is = c.in_ok-formatted.ensures tree.parsed.tree tree.parsed.is }
