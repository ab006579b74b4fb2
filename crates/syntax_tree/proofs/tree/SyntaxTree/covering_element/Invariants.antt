use Rattle.std.proofs.Common.{◌≡◌, ◌-◌, min}
use Rattle.squawk_tree.specs.Forest.{Forest}
use Rattle.syntax_tree.specs.Layout.{IsTree}
use Rattle.syntax_tree.proofs.CoveringElement.{Holds}
use Rattle.syntax_tree.proofs.tree.SyntaxTree.covering_element.Given as goal

abbrev pub invariant-loop-range : goal.invariant-loop-range
invariant-loop-range l = record {
  same : l.element.tree.now ≡ l.fn.self;
  holds : (tree : Forest) → IsTree l.fn.self tree → Holds l.fn.self tree (min l.range.start (l.len - 1)) l.range.start l.range.end l.element.at;
}

abbrev pub decreases-loop-range : goal.decreases-loop-range
decreases-loop-range l = l.element.at
