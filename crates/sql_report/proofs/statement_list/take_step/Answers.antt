use Rattle.std.proofs.Common.{◌∙◌, ◌++◌, add-zero, ap, append_assoc}
use Rattle.sql_report.specs.OpenNodes.{closed, front_nodes, statements_left}
use Rattle.sql_report.proofs.OpenNodeLemmas.{left_exit}
use Rattle.sql_report.proofs.statement_list.take_step.Goals as goal

pub returns-in_ok-push_closed-in-Exit : goal.returns-in_ok-push_closed-in-Exit
returns-in_ok-push_closed-in-Exit c = λ steps.
    let before = c.args.statements.now.items in
    let nodes = c.args.nodes.now.items in
    let ends = c.in_ok-push_closed-in-Exit.ensures in
    rw (ends.statements, ends.nodes, c.in-Exit.is, add-zero)
    (append_assoc before (closed nodes c.args.at) (statements_left (front_nodes nodes) c.args.at steps)
    ∙ ap (λ l. before ++ l) (rw add-zero at (left_exit nodes c.args.at steps)))
