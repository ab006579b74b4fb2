use Rattle.std.proofs.Common.{arith, sym}
use Rattle.caliperdock_c.proofs.Starts.{is_start_at_get, is_start_at_past}
use Rattle.caliperdock_c.proofs.links.is_start_at.Goals as goal

pub returns-then-place-events : goal.returns-then-place-events
returns-then-place-events c = λ messages. sym (is_start_at_get messages c.args.events.now c.args.place _ c.if-place-events.true)

pub returns-else-place-events : goal.returns-else-place-events
returns-else-place-events c = λ messages. sym (is_start_at_past messages c.args.events.now c.args.place (omega (arith, c.if-place-events.false)))
