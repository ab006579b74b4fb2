use Rattle.std.proofs.Common.{subst}
use Rattle.std.proofs.lemmas.Result.{IfOk-weaker}
use Rattle.squawk_output.specs.Draft.{IsLogged}
use Rattle.squawk_output.proofs.KeptLog.{logged_kept}
use Rattle.squawk_output.proofs.PlainLog.{plain-draft_items}
use Rattle.squawk_output.proofs.log.EventLog.finish.Goals as goal

pub returns-clause-output : goal.returns-clause-output
returns-clause-output c =
    IfOk-weaker c.pass.result _ _ (λ o is. rw (← c.self.view_is) (rw (plain-draft_items _ _ c.self.invariant.log.open_markers) is)) c.pass.ensures

pub returns-clause-logged : goal.returns-clause-logged
returns-clause-logged c = subst IsLogged c.self.view_is (logged_kept _ _ _ c.self.invariant)
