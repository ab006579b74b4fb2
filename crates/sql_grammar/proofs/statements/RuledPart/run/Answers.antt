use Rattle.sql_grammar.proofs.AddedStatements.{ruled}
use Rattle.sql_grammar.proofs.statements.RuledPart.run.Goals as goal

pub returns-clause-does : goal.returns-clause-does
returns-clause-does c = ruled c.args.self.rules c.requires c.content.ensures.adds c.content.ensures.kind c.content.ensures.all c.content.ensures.derives
