use Rattle.std.proofs.Common.{◌≡◌, ◌∙◌, arith, length, min, sym}
use Rattle.squawk_keywords.proofs.OrderLemmas.{order_from-end}
use Rattle.squawk_keywords.proofs.letter_case.order_ignoring_case.Goals as goal

pub returns : goal.returns
returns c =
    let ended : c.loop-i.i ≡ min (length c.args.one.now) (length c.args.other.now) = omega (arith, c.min-i-end.ensures, c.loop-i.auto.i-end) in
    c.cmp-2.ensures ∙ sym (order_from-end c.loop-i.i c.args.one.now c.args.other.now ended) ∙ c.loop-i.invariant
