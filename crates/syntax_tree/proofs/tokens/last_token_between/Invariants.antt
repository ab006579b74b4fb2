use Rattle.std.proofs.Common.{◌-◌, ◌≤◌}
use Rattle.squawk_tree.specs.Forest.{Forest}
use Rattle.syntax_tree.specs.Layout.{IsTree}
use Rattle.syntax_tree.proofs.Searches.{NoToken}
use Rattle.syntax_tree.proofs.tokens.last_token_between.Given as goal

abbrev pub invariant-loop-behind : goal.invariant-loop-behind
invariant-loop-behind l = (l.behind ≤ l.stop) × ((forest : Forest) → IsTree l.tree forest → NoToken forest l.behind l.stop)

abbrev pub decreases-loop-behind : goal.decreases-loop-behind
decreases-loop-behind l = l.behind - l.from
