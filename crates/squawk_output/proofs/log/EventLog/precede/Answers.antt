use Rattle.std.proofs.Common.{◌-◌, arith, refl}
use Rattle.squawk_output.proofs.KeptLog.{kept-preceded, logged_kept, node-within}
use Rattle.squawk_output.proofs.log.EventLog.precede.Goals as goal

pub returns-in_err-push-clause-logged : goal.returns-in_err-push-clause-logged
returns-in_err-push-clause-logged c = rw c.in_err-push.ensures.items (logged_kept _ _ _ c.self.invariant)

pub invariant_of-self-2 : goal.invariant_of-self-2
invariant_of-self-2 c = (kept-preceded _ _ _ _ c.self.invariant c.self.view_is c.args.node c.args.kind c.requires.node (c.len.result - c.args.node) c.push.new.self.items _ (rw c.open_marker-open_marker.ensures at c.in_ok-push.ensures.items) (rw c.linked.ensures refl) (omega arith) c.requires.room).kept

pub returns-clause-ok : goal.returns-clause-ok
returns-clause-ok c = (kept-preceded _ _ _ _ c.self.invariant c.self.view_is c.args.node c.args.kind c.requires.node (c.len.result - c.args.node) c.push.new.self.items _ (rw c.open_marker-open_marker.ensures at c.in_ok-push.ensures.items) (rw c.linked.ensures refl) (omega arith) c.requires.room).is

pub returns-clause-logged : goal.returns-clause-logged
returns-clause-logged c = logged_kept _ _ _ (invariant_of-self-2 c)

pub index_mut-requires : goal.index_mut-requires
index_mut-requires c = omega (arith, node-within _ _ _ _ c.self.invariant c.self.view_is c.args.node c.args.kind c.requires.node, c.in_ok-push.ensures.len)

pub overflow_sub-link : goal.overflow_sub-link
overflow_sub-link c = omega (arith, node-within _ _ _ _ c.self.invariant c.self.view_is c.args.node c.args.kind c.requires.node)

pub linked-requires-clause-leads : goal.linked-requires-clause-leads
linked-requires-clause-leads c = omega (arith, node-within _ _ _ _ c.self.invariant c.self.view_is c.args.node c.args.kind c.requires.node)
