use Rattle.std.proofs.Common.{◌≡◌, drop}
use Rattle.rule_tables.specs.Rows.{named_kind}
use Rattle.rule_tables.proofs.classes.named_kind.Given as goal

abbrev pub invariant-loop-member : goal.invariant-loop-member
invariant-loop-member l = named_kind (drop l.member-index l.members) ≡ named_kind l.members
