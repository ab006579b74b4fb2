use Rattle.std.proofs.Common.{arith, refl}
use Rattle.squawk_output.proofs.KeptLog.{kept-cleared, kept-popped, open_marker-within, logged_kept}
use Rattle.squawk_output.proofs.log.EventLog.abandon.Goals as goal

pub invariant_of-self : goal.invariant_of-self
invariant_of-self c =
    (kept-popped _ _ _ _ c.self.invariant c.self.view_is c.args.id c.args.made c.requires c.pop.new.self.items c.len.result (omega arith) c.if-is_last_start.ensures
    c.pop.result _ _ c.pop.ensures.items c.pop.ensures.cases (omega arith)).kept

pub returns-then-is_last_start-clause-abandoned : goal.returns-then-is_last_start-clause-abandoned
returns-then-is_last_start-clause-abandoned c =
    (kept-popped _ _ _ _ c.self.invariant c.self.view_is c.args.id c.args.made c.requires c.pop.new.self.items c.len.result (omega arith) c.if-is_last_start.ensures
    c.pop.result _ _ c.pop.ensures.items c.pop.ensures.cases (omega arith)).is

pub returns-then-is_last_start-clause-logged : goal.returns-then-is_last_start-clause-logged
returns-then-is_last_start-clause-logged c = logged_kept _ _ _ (invariant_of-self c)

pub index_mut-requires : goal.index_mut-requires
index_mut-requires c = omega (arith, open_marker-within _ _ _ _ c.self.invariant c.self.view_is c.args.id (c.args.made, c.requires))

pub invariant_of-self-else-is_last_start : goal.invariant_of-self-else-is_last_start
invariant_of-self-else-is_last_start c =
    (kept-cleared _ _ _ _ c.self.invariant c.self.view_is c.args.id c.args.made c.requires c.len.result _ (omega arith) c.if-is_last_start.ensures (rw c.tombstone.ensures refl)).kept

pub returns-else-is_last_start-clause-abandoned : goal.returns-else-is_last_start-clause-abandoned
returns-else-is_last_start-clause-abandoned c =
    (kept-cleared _ _ _ _ c.self.invariant c.self.view_is c.args.id c.args.made c.requires c.len.result _ (omega arith) c.if-is_last_start.ensures (rw c.tombstone.ensures refl)).is

pub returns-else-is_last_start-clause-logged : goal.returns-else-is_last_start-clause-logged
returns-else-is_last_start-clause-logged c = logged_kept _ _ _ (invariant_of-self-else-is_last_start c)
