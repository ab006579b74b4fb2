use Rattle.std.proofs.Common.{◌+◌, ◌-◌, ◌*◌, ◌∷◌, List}
use Rattle.squawk_kinds.specs.Kinds.{R_PAREN}
use Rattle.squawk_output.specs.Steps.{Step}
use Rattle.squawk_parser.specs.Recorded.{Puts}
use Rattle.list_grammar.specs.Trees.{with_commas}
use Rattle.list_grammar.proofs.Reading.{ReadsSome}
use Rattle.list_grammar.proofs.+lists.Given as goal

-- Each list is one of fewer that may still nest, and else each call of another has a lower rank. So at most that many
-- calls stand in one another.
abbrev pub decreases-item : goal.decreases-item
decreases-item l = 4 * l.depth

abbrev pub decreases-next_item : goal.decreases-next_item
decreases-next_item l = 4 * l.depth + 1

abbrev pub decreases-items : goal.decreases-items
decreases-items l = 4 * l.depth + 2

abbrev pub decreases-list : goal.decreases-list
decreases-list l = 4 * l.depth + 3

-- steps were put behind those of the first item, and of well-formed items those that are done
abbrev pub invariant-items-loop-p : goal.invariant-items-loop-p
invariant-items-loop-p l = record { steps : List Step; puts : Puts steps l.initial.p l.p; reads : ReadsSome l.depth with_commas (λ rest. R_PAREN ∷ rest) l.initial.p l.p }

-- the tokens that are left
abbrev pub decreases-items-loop-p : goal.decreases-items-loop-p
decreases-items-loop-p l = l.p.limit - l.p.position
