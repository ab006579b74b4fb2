use Rattle.std.proofs.Common.{ap, arith}
use Rattle.squawk_output.proofs.KeptLog.{kept-error, logged_kept, texts-recorded}
use Rattle.squawk_output.proofs.log.EventLog.error.Goals as goal

pub push_error-requires-clause-few : goal.push_error-requires-clause-few
push_error-requires-clause-few c = omega (arith, texts-recorded _ _ _ c.self.invariant, ap (λ d. d.recorded) c.self.view_is, c.requires)

pub returns-in_err-push_error-clause-logged : goal.returns-in_err-push_error-clause-logged
returns-in_err-push_error-clause-logged c = rw (c.in_err-push_error.ensures.err.0, c.in_err-push_error.ensures.err.1) (logged_kept _ _ _ c.self.invariant)

pub invariant_of-self-2 : goal.invariant_of-self-2
invariant_of-self-2 c =
    let put = c.in_ok-push_error.ensures in
    (kept-error _ _ _ _ c.self.invariant c.self.view_is c.args.msg _ _ put.events put.marks put.texts put.count c.requires).kept

pub returns-clause-ok : goal.returns-clause-ok
returns-clause-ok c =
    let put = c.in_ok-push_error.ensures in
    (kept-error _ _ _ _ c.self.invariant c.self.view_is c.args.msg _ _ put.events put.marks put.texts put.count c.requires).is

pub returns-clause-logged : goal.returns-clause-logged
returns-clause-logged c = logged_kept _ _ _ (invariant_of-self-2 c)
