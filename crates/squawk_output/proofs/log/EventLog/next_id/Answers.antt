use Rattle.std.proofs.Common.{subst}
use Rattle.squawk_output.specs.Draft.{IsLogged}
use Rattle.squawk_output.proofs.KeptLog.{logged_kept}
use Rattle.squawk_output.proofs.log.EventLog.next_id.Goals as goal

pub returns-clause-logged : goal.returns-clause-logged
returns-clause-logged c = subst IsLogged c.self.view_is (logged_kept _ _ _ c.self.invariant)
