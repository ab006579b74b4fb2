use Rattle.std.proofs.Common.{◌-◌, length}
use Rattle.rule_tables.specs.Walks.{plan_of, slots}
use Rattle.rule_tables.proofs.Closing.{IsClosing}
use Rattle.rule_tables.proofs.walk.Walk.go_all.Given as goal

abbrev pub invariant-loop-done : goal.invariant-loop-done
invariant-loop-done l = IsClosing (plan_of l.map) l.fn.self.reached.items l.self l.done

abbrev pub decreases-loop-done : goal.decreases-loop-done
decreases-loop-done l = slots (length l.map.rows.now) - l.done
