use Rattle.std.proofs.Common.{◌≡◌, ◌∙◌, ◌+◌, ◌-◌, arith, ap, sym, false, nat_lt}
use Rattle.squawk_table.specs.ParserInput.{is_joint_in}
use Rattle.squawk_parser.proofs.SeenTokens.{is_joint_next-drop, is_joint_next-drop-last}
use Rattle.squawk_parser.proofs.parser.view.View.is_joint_next.Goals as goal

pub returns-then-next-self : goal.returns-then-next-self
returns-then-next-self c =
    let view = c.self.inside in
    let at : c.saturating_add-next.result - 1 ≡ view.start + c.args.i = omega arith in
    let same = is_joint_next-drop view.tokens.now.input.now view.limit view.start c.args.i c.args.self.now c.self.view_is (omega arith) c.self.invariant in
    c.is_joint.ensures ∙ (ap (is_joint_in view.tokens.now.input.now) at ∙ sym same)

pub returns-else-next-self : goal.returns-else-next-self
returns-else-next-self c =
    let view = c.self.inside in
    let test : nat_lt c.saturating_add-next.result view.limit ≡ false = grind arith in
    test ∙ sym (is_joint_next-drop-last view.tokens.now.input.now view.limit view.start c.args.i c.args.self.now c.self.view_is (omega arith))
