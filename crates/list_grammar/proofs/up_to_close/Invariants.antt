use Rattle.std.proofs.Common.{◌-◌}
use Rattle.list_grammar.proofs.DeepLists.{Closing}
use Rattle.list_grammar.proofs.up_to_close.Given as goal

abbrev pub invariant-loop-unclosed : goal.invariant-loop-unclosed
invariant-loop-unclosed l = Closing l.initial.p l.p l.unclosed

-- the tokens that are left
abbrev pub decreases-loop-unclosed : goal.decreases-loop-unclosed
decreases-loop-unclosed l = l.p.limit - l.p.position
