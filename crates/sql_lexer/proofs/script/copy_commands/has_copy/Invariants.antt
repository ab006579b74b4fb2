use Rattle.std.proofs.Common.{◌-◌, length}
use Rattle.sql_lexer.proofs.CopyCommands.{HasNoCopyYet}
use Rattle.sql_lexer.proofs.script.copy_commands.has_copy.Given as goal

abbrev pub invariant-loop-at : goal.invariant-loop-at
invariant-loop-at l = HasNoCopyYet l.text l.statement l.at

abbrev pub decreases-loop-at : goal.decreases-loop-at
decreases-loop-at l = length l.text - l.at
