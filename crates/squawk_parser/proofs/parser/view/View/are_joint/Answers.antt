use Rattle.std.proofs.Common.{arith}
use Rattle.std.proofs.lemmas.Grind.{get_or_default_zero}
use Rattle.squawk_parser.proofs.CompositeLemmas.{are_joint-next, are_joint-end}
use Rattle.squawk_parser.proofs.parser.view.View.are_joint.Goals as goal

pub returns-then-ne : goal.returns-then-ne
returns-then-ne c = grind (arith, get_or_default_zero, are_joint-next)

pub loop-i-preserved : goal.loop-i-preserved
loop-i-preserved c = grind (arith, get_or_default_zero, are_joint-next)

pub returns : goal.returns
returns c = grind (arith, are_joint-end)
