use Rattle.std.proofs.Common.{Ok, arith}
use Rattle.std.proofs.lemmas.Grind.{common_steps}
use Rattle.squawk_document.proofs.WrittenCalls.{calls-unwritten, calls-written}
use Rattle.squawk_document.proofs.calls.calls.Goals as goal

pub returns-in_err-call-clause-unwritten : goal.returns-in_err-call-clause-unwritten
returns-in_err-call-clause-unwritten c = calls-unwritten _ c.from_residual-in_err-call.result (grind (arith, common_steps))

pub returns-clause-written : goal.returns-clause-written
returns-clause-written c = calls-written _ (Ok c.loop-item.calls) (grind (arith, common_steps))
