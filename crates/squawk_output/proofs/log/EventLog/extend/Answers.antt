use Rattle.std.proofs.Common.{arith, refl}
use Rattle.squawk_output.proofs.KeptLog.{open_marker-within, kept-extended, logged_kept, node-within}
use Rattle.squawk_output.proofs.StoredEvents.{length-log_in}
use Rattle.squawk_output.proofs.log.EventLog.extend.Goals as goal

pub index_mut-start-requires : goal.index_mut-start-requires
index_mut-start-requires c = omega (arith, open_marker-within _ _ _ _ c.self.invariant c.self.view_is c.args.id c.requires.open_marker)

pub invariant_of-self : goal.invariant_of-self
invariant_of-self c =
    (kept-extended _ _ _ _ c.self.invariant c.self.view_is c.args.id c.requires.open_marker c.args.node c.requires.node.0 c.requires.node.1 c.requires.older _ (rw c.linked.ensures refl)).kept

pub returns-clause-extended : goal.returns-clause-extended
returns-clause-extended c kind there = (kept-extended _ _ _ _ c.self.invariant c.self.view_is c.args.id c.requires.open_marker c.args.node kind there c.requires.older _ (rw c.linked.ensures refl)).is

pub returns-clause-logged : goal.returns-clause-logged
returns-clause-logged c = logged_kept _ _ _ (invariant_of-self c)

pub linked-requires-clause-near : goal.linked-requires-clause-near
linked-requires-clause-near c =
    let log = c.self.invariant.log in
    omega (
      arith,
      node-within _ _ _ _ c.self.invariant c.self.view_is c.args.node c.requires.node.0 c.requires.node.1,
      log.few,
      log.small,
      length-log_in c.self.inside.errors.items c.self.inside.events.items,
    )
