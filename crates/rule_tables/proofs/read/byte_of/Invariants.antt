use Rattle.std.proofs.Common.{◌≡◌, drop}
use Rattle.rule_tables.specs.Texts.{first_byte}
use Rattle.rule_tables.proofs.read.byte_of.Given as goal

abbrev pub invariant-loop-one : goal.invariant-loop-one
invariant-loop-one l = first_byte (drop l.one-index l.one-items) ≡ first_byte l.one-items
