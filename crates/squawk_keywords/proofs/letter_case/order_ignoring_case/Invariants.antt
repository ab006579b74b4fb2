use Rattle.std.proofs.Common.{◌≡◌}
use Rattle.squawk_keywords.proofs.OrderLemmas.{order_from}
use Rattle.squawk_keywords.proofs.letter_case.order_ignoring_case.Given as goal

abbrev pub invariant-loop-i : goal.invariant-loop-i
invariant-loop-i l = order_from l.i l.one l.other ≡ order_from 0 l.one l.other
