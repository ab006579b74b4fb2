use Rattle.std.proofs.Common.{◌∙◌, length, arith, ap, sym}
use Rattle.squawk_table.specs.ParserInput.{is_joint_in}
use Rattle.squawk_table.proofs.InputEntries.{length-entries_in, is_joint_in-entries}
use Rattle.squawk_table.proofs.input.Input.is_joint.Goals as goal

pub get-requires : goal.get-requires
get-requires c =
    let all = length-entries_in c.self.inside.kinds.items c.self.inside.contextual_kinds.items c.self.inside.joints in
    omega (arith, all, ap length c.self.view_is, c.requires, c.self.invariant.0.joint)

pub returns : goal.returns
returns c =
    let kinds = c.self.inside.kinds.items in
    let contextual_kinds = c.self.inside.contextual_kinds.items in
    let joints = c.self.inside.joints in
    let all = length-entries_in kinds contextual_kinds joints in
    let told = is_joint_in-entries kinds contextual_kinds joints c.args.i (omega (arith, all, ap length c.self.view_is, c.requires)) in
    c.get.ensures ∙ (sym told ∙ ap (λ input. is_joint_in input c.args.i) c.self.view_is)
