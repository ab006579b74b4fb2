use Rattle.std.proofs.Common.{◌≡◌, ◌∙◌, ◌+◌, not, if◌then◌else◌, arith, ap, sym, subst}
use Rattle.squawk_table.specs.ParserInput.{kind_in}
use Rattle.squawk_parser.specs.Operators.{is_sign, is_special}
use Rattle.squawk_parser.specs.OperatorRuns.{IsPastLast, is_no_sign}
use Rattle.squawk_parser.proofs.RunEnds.{past_more, pasts_more}
use Rattle.squawk_parser.proofs.parser.tokens.operator_runs.past_last.Goals as goal

pub loop-i-preserved : goal.loop-i-preserved
loop-i-preserved c =
    let input = c.args.input.now in
    let i = c.loop-i.i in
    let before = c.loop-i.invariant in
    let special : c.past-past_special.result ≡ (if is_special (kind_in input i) then i + 1 else c.loop-i.past_special) =
    c.past-past_special.ensures ∙ ap (λ passes. if passes then i + 1 else c.loop-i.past_special) (c.is_special.ensures ∙ ap is_special c.kind-kind.ensures) in
    let other : c.past-past_other.result ≡ (if is_no_sign (kind_in input i) then i + 1 else c.loop-i.past_other) =
    c.past-past_other.ensures ∙ ap (λ sign. if not sign then i + 1 else c.loop-i.past_other) (c.is_sign.ensures ∙ ap is_sign c.kind-kind.ensures) in
    let special_here = subst (IsPastLast is_special input (i + 1)) (sym special) (past_more is_special input i c.loop-i.past_special before.special) in
    let other_here = subst (IsPastLast is_no_sign input (i + 1)) (sym other) (past_more is_no_sign input i c.loop-i.past_other before.other) in
    record {
      special = special_here;
      other = other_here;
      specials = rw c.push_reserved.ensures.items (pasts_more is_special input i c.past-past_special.result c.loop-i.past_specials.items before.specials special_here);
      others = rw c.push_reserved-in-loop-i.ensures.items (pasts_more is_no_sign input i c.past-past_other.result c.loop-i.past_others.items before.others other_here);
      specials_len = omega (arith, c.push_reserved.ensures.len, before.specials_len);
      others_len = omega (arith, c.push_reserved-in-loop-i.ensures.len, before.others_len);
      specials_room = c.push_reserved.ensures.capacity ∙ before.specials_room;
      others_room = c.push_reserved-in-loop-i.ensures.capacity ∙ before.others_room;
    }
