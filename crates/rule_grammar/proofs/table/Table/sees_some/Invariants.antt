use Rattle.std.proofs.Common.{◌-◌}
use Rattle.rule_grammar.proofs.table.Table.sees_some.Given as goal

abbrev pub decreases-loop-row : goal.decreases-loop-row
decreases-loop-row l = 65536 - l.at
