use Rattle.std.proofs.Common.{arith, refl}
use Rattle.squawk_output.proofs.KeptLog.{open_marker-within, kept-completed, logged_kept}
use Rattle.squawk_output.proofs.log.EventLog.complete.Goals as goal

pub returns-in_err-push-clause-logged : goal.returns-in_err-push-clause-logged
returns-in_err-push-clause-logged c = rw c.in_err-push.ensures.items (logged_kept _ _ _ c.self.invariant)

pub invariant_of-self-2 : goal.invariant_of-self-2
invariant_of-self-2 c = (kept-completed _ _ _ _ c.self.invariant c.self.view_is c.args.id c.requires.open_marker c.args.kind c.push.new.self.items _ (rw c.finish.ensures at c.in_ok-push.ensures.items) (rw c.start.ensures refl) c.requires.kind c.requires.room).kept

pub returns-clause-ok : goal.returns-clause-ok
returns-clause-ok c = (kept-completed _ _ _ _ c.self.invariant c.self.view_is c.args.id c.requires.open_marker c.args.kind c.push.new.self.items _ (rw c.finish.ensures at c.in_ok-push.ensures.items) (rw c.start.ensures refl) c.requires.kind c.requires.room).is

pub returns-clause-logged : goal.returns-clause-logged
returns-clause-logged c = logged_kept _ _ _ (invariant_of-self-2 c)

pub index_mut-requires : goal.index_mut-requires
index_mut-requires c = omega (arith, open_marker-within _ _ _ _ c.self.invariant c.self.view_is c.args.id c.requires.open_marker, c.in_ok-push.ensures.len)
