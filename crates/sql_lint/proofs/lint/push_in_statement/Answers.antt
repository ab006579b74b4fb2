use Rattle.std.proofs.Common.{◌∙◌, ◌++◌, ap, map, subst, sym}
use Rattle.sql_report.specs.Findings.{told}
use Rattle.syntax_tree.specs.Layout.{IsTree}
use Rattle.syntax_tree.specs.Views.{at_of}
use Rattle.sql_lint.specs.Rows.{row_of}
use Rattle.sql_lint.specs.Rules.{findings_at}
use Rattle.sql_lint.proofs.Findings.{by_all_rules, finds_all, finds_more, its_tree}
use Rattle.sql_lint.proofs.lint.push_in_statement.Goals as goal

pub loop-node-preserved : goal.loop-node-preserved
loop-node-preserved c = λ forest is.
    let left = c.loop-node.invariant forest is in
    let node = c.in-Some.node in
    let found = map told c.loop-node.findings.items in
    let own = subst (λ l. IsTree l forest) (sym (its_tree left (at_of node) c.next.new.self c.in-Some.ensures.steps)) is in
    finds_more left (at_of node) c.next.new.self c.in-Some.ensures.steps (map told c.push_told-in-loop-node-2.new.findings.items)
    (by_all_rules c.kind-of.result forest node.at c.text_range-at.result.start (c.text_range-at.ensures.start forest own)
    (map row_of c.changing_rules.result) (map row_of c.adding_rules.result) (map row_of c.type_rules.result)
    (c.changing_rules.ensures forest own) (c.adding_rules.ensures forest own) (c.type_rules.ensures forest own)
    found (map told c.push_told.new.findings.items) (map told c.push_told-in-loop-node.new.findings.items) (map told c.push_told-in-loop-node-2.new.findings.items)
    c.in_ok-push_told.ensures c.in_ok-push_told-2.ensures c.in_ok-push_told-3.ensures
    ∙ ap (λ of. found ++ findings_at of forest node.at) (c.kind-of.ensures forest is))

pub returns : goal.returns
returns c = λ forest is. finds_all (c.loop-node.invariant forest is) c.in-None.ensures.steps.0
