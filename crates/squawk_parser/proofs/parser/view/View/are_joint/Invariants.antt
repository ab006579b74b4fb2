use Rattle.std.proofs.Common.{◌≡◌, drop}
use Rattle.squawk_parser.specs.Composites.{are_joint}
use Rattle.squawk_parser.proofs.parser.view.View.are_joint.Given as goal

-- the parts that are left are joint from this index on exactly where all of them are joint from the first
abbrev pub invariant-loop-i : goal.invariant-loop-i
invariant-loop-i l = are_joint (drop l.i l.parts) (drop l.i l.self) ≡ are_joint l.parts l.self
