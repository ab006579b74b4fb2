use Rattle.squawk_tree.specs.Forest.{Forest}
use Rattle.syntax_tree.specs.Layout.{IsTree}
use Rattle.syntax_tree.proofs.Searches.{NoToken}
use Rattle.syntax_tree.proofs.tokens.first_token_between.Given as goal

abbrev pub invariant-loop-at : goal.invariant-loop-at
invariant-loop-at l = (forest : Forest) → IsTree l.tree forest → NoToken forest l.from l.at
