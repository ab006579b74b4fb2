use Rattle.squawk_tree.specs.Forest.{Forest}
use Rattle.syntax_tree.specs.Layout.{IsTree}
use Rattle.sql_trim.proofs.Pieces.{PutsPieces}
use Rattle.sql_trim.proofs.format.formatted.Given as goal

abbrev pub invariant-loop-element : goal.invariant-loop-element
invariant-loop-element l =
    (forest : Forest) → IsTree l.tree forest → PutsPieces l.tree forest l.out.items l.white_space.items l.element-iterator
