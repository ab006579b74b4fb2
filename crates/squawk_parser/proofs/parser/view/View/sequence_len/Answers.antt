use Rattle.std.proofs.Common.{arith}
use Rattle.std.proofs.lemmas.Grind.{get_or_default_zero}
use Rattle.squawk_parser.proofs.CompositeLemmas.{length_with-start, length_with-next, length_with-end}
use Rattle.squawk_parser.proofs.parser.view.View.sequence_len.Goals as goal

pub loop-part-init : goal.loop-part-init
loop-part-init c = grind (arith, length_with-start)

pub returns-else-eq-2 : goal.returns-else-eq-2
returns-else-eq-2 c = grind (arith, get_or_default_zero, length_with-next)

pub loop-part-preserved : goal.loop-part-preserved
loop-part-preserved c = grind (arith, get_or_default_zero, length_with-next)

pub returns : goal.returns
returns c = grind (arith, length_with-end)
