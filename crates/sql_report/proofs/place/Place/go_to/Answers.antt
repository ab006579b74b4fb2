use Rattle.std.proofs.Common.{ℕ, ◌≤◌, arith, length, subst, sym}
use Rattle.sql_report.specs.Places.{IsCounted}
use Rattle.sql_report.specs.declared.place.Place.TheInside.{Inside}
use Rattle.sql_report.proofs.LineColumns.{counted_start, counted_to}
use Rattle.sql_report.proofs.place.Place.go_to.Goals as goal
use Rattle.sql_report.proofs.place.Place.go_to.Goals.{then-end-self, else-end-self}

-- it is counted, and stands at a byte of the window or before it
abbrev IsUpTo : ℕ → Inside → Type 0
IsUpTo end place = IsCounted place.window.now place.before place.at place.here × ((place.at ≤ end) × (end ≤ length place.window.now))

pub invariant_of-self : goal.invariant_of-self
invariant_of-self c =
    let end = c.min-end.result in
    let place = c.if-end-self.self-inside in
    let up_to : IsUpTo end place =
    elim c.if-end-self.branch [
      | then-end-self w ↦ subst (IsUpTo end) (sym w.self-inside-is) (counted_start c.self.inside.window.now c.self.inside.before, (omega arith, omega arith))
      | else-end-self w ↦ subst (IsUpTo end) (sym w.self-inside-is) (c.self.invariant, (w.if-end-self.false, omega arith))
    ] in
    counted_to place.window.now place.before place.at end place.here c.pass.new.self up_to.0 up_to.1.0 up_to.1.1 c.pass.ensures
