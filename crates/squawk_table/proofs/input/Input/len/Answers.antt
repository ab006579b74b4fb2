use Rattle.std.proofs.Common.{length, ap, arith}
use Rattle.squawk_table.proofs.InputEntries.{length-entries_in}
use Rattle.squawk_table.proofs.input.Input.len.Goals as goal

pub returns-clause-len : goal.returns-clause-len
returns-clause-len c =
    let all = length-entries_in c.self.inside.kinds.items c.self.inside.contextual_kinds.items c.self.inside.joints in
    omega (arith, c.len.ensures, all, ap length c.self.view_is)
