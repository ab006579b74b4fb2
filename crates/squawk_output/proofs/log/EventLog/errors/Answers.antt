use Rattle.std.proofs.Common.{arith}
use Rattle.squawk_output.proofs.KeptLog.{few_texts}
use Rattle.squawk_output.proofs.log.EventLog.errors.Goals as goal

pub overflow_cast-result : goal.overflow_cast-result
overflow_cast-result c = omega (arith, few_texts _ _ _ c.self.invariant)
