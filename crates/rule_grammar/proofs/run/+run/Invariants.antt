use Rattle.std.proofs.Common.{◌≡◌, ◌+◌, ◌-◌, ◌*◌, ◌≤◌}
use Rattle.squawk_parser.specs.SomeSteps.{AddsSome, AddsSomeNode}
use Rattle.rule_grammar.specs.Derivations.{Counts, Derived, text_of}
use Rattle.rule_grammar.specs.Derivations.Span.{items, operation, rows, turns}
use Rattle.rule_grammar.specs.Parts.{part_at}
use Rattle.rule_grammar.specs.declared.part.Part.TheVariants.{Operators}
use Rattle.rule_grammar.proofs.run.+run.Given as goal

-- A call of another function has less depth; or as much, and rows further on; or the same rows, and a lower rank.
abbrev pub decreases-block : goal.decreases-block
decreases-block l = 16 * (65536 * l.rule.now.depth + (65536 - l.rows.start)) + 10

abbrev pub decreases-step : goal.decreases-step
decreases-step l = 16 * (65536 * l.rule.now.depth + (65536 - l.row)) + 9

abbrev pub decreases-node::node : goal.decreases-node::node
decreases-node::node l = 16 * (65536 * l.rule.now.depth + (65536 - l.row)) + 7

abbrev pub decreases-node::parts : goal.decreases-node::parts
decreases-node::parts l = 16 * (65536 * l.rule.now.depth + (65536 - l.rows.start)) + 11

abbrev pub decreases-node::node_called : goal.decreases-node::node_called
decreases-node::node_called l = 16 * (65536 * l.rule.now.depth + (65536 - l.rows.start)) + 10

abbrev pub decreases-groups::choice : goal.decreases-groups::choice
decreases-groups::choice l = 16 * (65536 * l.rule.now.depth + (65536 - l.row)) + 7

abbrev pub decreases-groups::optional : goal.decreases-groups::optional
decreases-groups::optional l = 16 * (65536 * l.rule.now.depth + (65536 - l.row)) + 7

abbrev pub decreases-groups::repeat : goal.decreases-groups::repeat
decreases-groups::repeat l = 16 * (65536 * l.rule.now.depth + (65536 - l.row)) + 6

abbrev pub decreases-groups::list : goal.decreases-groups::list
decreases-groups::list l = 16 * (65536 * l.rule.now.depth + (65536 - l.row)) + 7

abbrev pub decreases-call : goal.decreases-call
decreases-call l = 16 * (65536 * l.rule.now.depth) + 12

abbrev pub decreases-called : goal.decreases-called
decreases-called l = 16 * (65536 * l.rule.now.depth + (65536 - l.rows.start)) + 11

abbrev pub decreases-operators::inner_operand : goal.decreases-operators::inner_operand
decreases-operators::inner_operand l = 16 * (65536 * l.rule.now.depth) + 12

abbrev pub decreases-operators::called_operators : goal.decreases-operators::called_operators
decreases-operators::called_operators l = 16 * (65536 * l.rule.now.depth + (65536 - l.row)) + 10

abbrev pub decreases-operators::operators : goal.decreases-operators::operators
decreases-operators::operators l = 16 * (65536 * l.rule.now.depth + (65536 - l.row)) + 7

abbrev pub decreases-operators::operators_after_others : goal.decreases-operators::operators_after_others
decreases-operators::operators_after_others l = 16 * (65536 * l.rule.now.depth + (65536 - l.row)) + 6

abbrev pub decreases-operators::operators_node : goal.decreases-operators::operators_node
decreases-operators::operators_node l = 16 * (65536 * l.rule.now.depth + (65536 - l.row)) + 7

abbrev pub decreases-operators::climb : goal.decreases-operators::climb
decreases-operators::climb l = 16 * (65536 * l.rule.now.depth + (65536 - l.row)) + 5

abbrev pub decreases-operators::operand : goal.decreases-operators::operand
decreases-operators::operand l = 16 * (65536 * l.rule.now.depth + (65536 - l.row)) + 5

abbrev pub decreases-node::one_node : goal.decreases-node::one_node
decreases-node::one_node l = 16 * (65536 * l.rule.now.depth + (65536 - l.rows.start)) + 9

abbrev pub decreases-node::called_node : goal.decreases-node::called_node
decreases-node::called_node l = 16 * (65536 * l.rule.now.depth) + 11

abbrev pub decreases-groups::some : goal.decreases-groups::some
decreases-groups::some l = 16 * (65536 * l.rule.now.depth + (65536 - l.row)) + 7

abbrev pub decreases-operators::operation : goal.decreases-operators::operation
decreases-operators::operation l = 16 * (65536 * l.rule.now.depth + (65536 - l.rows.start)) + 11

-- some steps were added, and if no error was told, what was run derives what was eaten
abbrev pub invariant-block-loop-row : goal.invariant-block-loop-row
invariant-block-loop-row l = record {
  adds : AddsSome l.fn.p l.p;
  further : l.fn.rows.start ≤ l.row;
  derives : Derived (text_of l.rule.table.now l.fn.p) (rows l.fn.rows.start l.row) l.fn.told.place l.told.place l.fn.p.position l.p.position;
  counts : Counts l.fn.told.place l.told.place l.fn.p l.p;
}

abbrev pub decreases-block-loop-row : goal.decreases-block-loop-row
decreases-block-loop-row l = l.rows.end - l.row

abbrev pub invariant-groups::repeat-loop-p : goal.invariant-groups::repeat-loop-p
invariant-groups::repeat-loop-p l = record {
  adds : AddsSome l.fn.p l.p;
  derives : Derived (text_of l.rule.table.now l.fn.p) (turns (l.fn.row + 1) l.fn.end) l.fn.told.place l.told.place l.fn.p.position l.p.position;
  counts : Counts l.fn.told.place l.told.place l.fn.p l.p;
}

abbrev pub decreases-groups::repeat-loop-p : goal.decreases-groups::repeat-loop-p
decreases-groups::repeat-loop-p l = l.p.limit - l.p.position

abbrev pub invariant-groups::list-loop-separator : goal.invariant-groups::list-loop-separator
invariant-groups::list-loop-separator l = record {
  adds : AddsSome l.fn.p l.p;
  derives : Derived (text_of l.rule.table.now l.fn.p) (items (l.fn.row + 1) l.fn.end l.fn.separator) l.fn.told.place l.told.place l.fn.p.position l.p.position;
  counts : Counts l.fn.told.place l.told.place l.fn.p l.p;
}

abbrev pub decreases-groups::list-loop-separator : goal.decreases-groups::list-loop-separator
decreases-groups::list-loop-separator l = l.p.limit - l.p.position

abbrev pub invariant-operators::climb-loop-operator : goal.invariant-operators::climb-loop-operator
invariant-operators::climb-loop-operator l = record {
  adds : AddsSomeNode l.left l.fn.p l.p;
  derives : part_at l.rule.table.now.rows.now l.fn.row ≡ Operators l.fn.end
      → Derived (text_of l.rule.table.now l.fn.p) (operation l.fn.row l.fn.floor l.ceiling) l.fn.told.place l.told.place l.fn.p.position l.p.position;
  counts : Counts l.fn.told.place l.told.place l.fn.p l.p;
}

abbrev pub decreases-operators::climb-loop-operator : goal.decreases-operators::climb-loop-operator
decreases-operators::climb-loop-operator l = l.p.limit - l.p.position

abbrev pub decreases-groups::inner : goal.decreases-groups::inner
decreases-groups::inner l = 16 * (65536 * l.rule.now.depth + (65536 - l.row)) + 5

abbrev pub decreases-node::inner_node : goal.decreases-node::inner_node
decreases-node::inner_node l = 16 * (65536 * l.rule.now.depth + (65536 - l.row)) + 8

abbrev pub decreases-node::node_in : goal.decreases-node::node_in
decreases-node::node_in l = 16 * (65536 * l.rule.now.depth + (65536 - l.row)) + 8

abbrev pub decreases-groups::choice_after_others : goal.decreases-groups::choice_after_others
decreases-groups::choice_after_others l = 16 * (65536 * l.rule.now.depth + (65536 - l.arms.start)) + 15
