use Rattle.std.proofs.Common.{arith, ap}
use Rattle.rule_text.specs.Written.{Written as forms, is_end}
use Rattle.rule_text.proofs.Expressions.{one_as}
use Rattle.rule_text.proofs.leaf.operand.Goals as goal

pub returns : goal.returns
returns c = one_as (forms.operand (omega arith)) (c.one.ensures (ap is_end c.requires))
