use Rattle.squawk_output.proofs.KeptLog.{kept-open_marker, logged_kept}
use Rattle.squawk_output.proofs.log.EventLog.start.Goals as goal

pub returns-in_err-push-clause-logged : goal.returns-in_err-push-clause-logged
returns-in_err-push-clause-logged c = rw c.in_err-push.ensures.items (logged_kept _ _ _ c.self.invariant)

pub invariant_of-self-2 : goal.invariant_of-self-2
invariant_of-self-2 c = (kept-open_marker _ _ _ _ c.self.invariant c.self.view_is _ (rw c.open_marker.ensures at c.in_ok-push.ensures.items) c.requires).kept

pub returns-clause-ok : goal.returns-clause-ok
returns-clause-ok c = (kept-open_marker _ _ _ _ c.self.invariant c.self.view_is _ (rw c.open_marker.ensures at c.in_ok-push.ensures.items) c.requires).is

pub returns-clause-logged : goal.returns-clause-logged
returns-clause-logged c = logged_kept _ _ _ (invariant_of-self-2 c)
