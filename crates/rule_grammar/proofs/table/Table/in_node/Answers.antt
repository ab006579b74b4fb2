use Rattle.std.proofs.Common.{sym, ◌∙◌}
use Rattle.rule_grammar.proofs.Roots.{in_node}
use Rattle.rule_grammar.proofs.table.Table.in_node.Goals as goal

pub returns-in-Node-clause-inside : goal.returns-in-Node-clause-inside
returns-in-Node-clause-inside c = in_node c.in-Some.ensures.is (sym c.part.ensures ∙ c.in-Node.is)
