use Rattle.std.proofs.Common.{arith}
use Rattle.std.proofs.lemmas.Grind.{common_steps}
use Rattle.squawk_document.proofs.WrittenCalls.{call-unwritten, call-written}
use Rattle.squawk_document.proofs.calls.call.Goals as goal

pub returns-clause-written : goal.returns-clause-written
returns-clause-written c = call-written _ _ (grind (arith, common_steps))

pub returns-clause-unwritten : goal.returns-clause-unwritten
returns-clause-unwritten c = call-unwritten _ c.call_named.result (grind (arith, common_steps))
