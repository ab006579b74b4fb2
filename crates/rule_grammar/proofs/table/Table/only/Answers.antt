use Rattle.rule_grammar.specs.Derivations.IsOnly.{alone}
use Rattle.rule_grammar.proofs.table.Table.only.Goals as goal

pub returns-then-is_one-clause-is : goal.returns-then-is_one-clause-is
returns-then-is_one-clause-is c = alone (c.is_one.ensures.only cc)
