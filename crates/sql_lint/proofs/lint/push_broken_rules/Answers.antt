use Rattle.std.proofs.Common.{map, subst, sym}
use Rattle.sql_report.specs.Findings.{told}
use Rattle.syntax_tree.specs.Layout.{IsTree}
use Rattle.syntax_tree.specs.Views.{at_of}
use Rattle.sql_lint.proofs.Findings.{finds_all, finds_more, its_tree}
use Rattle.sql_lint.proofs.lint.push_broken_rules.Goals as goal

pub loop-statement-preserved : goal.loop-statement-preserved
loop-statement-preserved c = λ forest is.
    let left = c.loop-statement.invariant forest is in
    let place = at_of c.in-Some.statement in
    let own = subst (λ l. IsTree l forest) (sym (its_tree left place c.next.new.self c.in-Some.ensures.steps)) is in
    finds_more left place c.next.new.self c.in-Some.ensures.steps (map told c.push_in_statement.new.findings.items)
    (c.in_ok-push_in_statement.ensures forest own)

pub returns : goal.returns
returns c = λ forest is. finds_all (c.loop-statement.invariant forest is) c.in-None.ensures.steps.0
