use Rattle.std.proofs.Common.{◌≡◌, ◌+◌, length}
use Rattle.squawk_output.specs.Chain.{chain, hop}
use Rattle.squawk_output.specs.Pass.{Follows}
use Rattle.squawk_output.specs.StoredEvents.{HaveEventTexts, link_of, log_in}
use Rattle.squawk_output.proofs.pass.visit_linked.Given as goal

abbrev pub invariant-loop-next : goal.invariant-loop-next
invariant-loop-next l =
    Follows (log_in l.fn.builder.texts l.initial.events.items) l.initial.kinds.items (hop l.initial.at (link_of l.initial.next))
    (log_in l.fn.builder.texts l.events.items) l.kinds.items (hop l.at (link_of l.next))
    × HaveEventTexts l.fn.builder.texts l.events.items
    × (l.builder ≡ record l.fn.builder { turns = l.fn.builder.turns + length l.kinds.items })

abbrev pub decreases-loop-next : goal.decreases-loop-next
decreases-loop-next l = length (chain (hop l.at (link_of l.next)) (log_in l.fn.builder.texts l.events.items))
