use Rattle.std.proofs.Common.{◌+◌, ◌-◌, ◌*◌}
use Rattle.squawk_parser.specs.SomeSteps.{AddsSome, AddsSomeNode, Spends}
use Rattle.select_grammar.proofs.expressions.+expressions.Given as goal

-- Each call of another has less depth, or as much and a lower rank.
abbrev pub decreases-expression : goal.decreases-expression
decreases-expression l = 4 * l.depth + 0

abbrev pub decreases-negation : goal.decreases-negation
decreases-negation l = 4 * l.depth + 1

abbrev pub decreases-list_items : goal.decreases-list_items
decreases-list_items l = 4 * l.depth + 1

abbrev pub decreases-list : goal.decreases-list
decreases-list l = 4 * l.depth + 2

abbrev pub decreases-operand : goal.decreases-operand
decreases-operand l = 4 * l.depth + 3

abbrev pub decreases-operation : goal.decreases-operation
decreases-operation l = 4 * l.depth + 1

-- the node on the left is all that was added
abbrev pub invariant-expression-loop-left : goal.invariant-expression-loop-left
invariant-expression-loop-left l = record { adds : AddsSomeNode l.left l.fn.p l.p; spends : Spends 12 3 l.fn.p l.p }

abbrev pub decreases-expression-loop-left : goal.decreases-expression-loop-left
decreases-expression-loop-left l = l.p.limit - l.p.position

abbrev pub invariant-list_items-loop-p : goal.invariant-list_items-loop-p
invariant-list_items-loop-p l = record { adds : AddsSome l.fn.p l.p; spends : Spends 12 3 l.fn.p l.p }

abbrev pub decreases-list_items-loop-p : goal.decreases-list_items-loop-p
decreases-list_items-loop-p l = l.p.limit - l.p.position
