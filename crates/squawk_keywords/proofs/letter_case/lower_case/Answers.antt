use Rattle.std.proofs.Common.{arith}
use Rattle.squawk_keywords.proofs.LowerCaseLemmas.{lower_case-lowered}
use Rattle.squawk_keywords.proofs.letter_case.lower_case.Goals as goal

pub returns : goal.returns
returns c = lower_case-lowered c.args.bytes (omega (arith, c.ranges.bytes))
