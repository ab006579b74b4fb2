use Rattle.std.proofs.Common.{◌∙◌, ap, length}
use Rattle.std.proofs.lemmas.Result.{IfOk-weaker}
use Rattle.sql_report.proofs.PartStatements.{part_statements, statements_within}
use Rattle.sql_report.specs.Statements.{statements_of}
use Rattle.sql_report.proofs.statement_list.statements.Goals as goal

pub returns-clause-within : goal.returns-clause-within
returns-clause-within c =
    let steps = c.steps_of.result.steps in
    IfOk-weaker c.statements_in.result _ _ (λ all are. statements_within (length c.args.table.now.text) steps all.items are c.steps_of.ensures.within) c.statements_in.ensures

pub returns-clause-part : goal.returns-clause-part
returns-clause-part c =
    IfOk-weaker c.statements_in.result _ _
    (λ all are. part_statements c.args.table.now c.args.output.now.steps all.items c.requires (are ∙ ap statements_of c.steps_of.ensures.steps))
    c.statements_in.ensures
