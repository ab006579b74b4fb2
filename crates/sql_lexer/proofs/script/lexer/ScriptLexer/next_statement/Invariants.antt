use Rattle.std.proofs.Common.{length, ◌-◌}
use Rattle.sql_lexer.proofs.ScriptLexing.{HasCut}
use Rattle.sql_lexer.proofs.script.lexer.ScriptLexer.next_statement.Given as goal

abbrev pub invariant-loop-at : goal.invariant-loop-at
invariant-loop-at l =
    HasCut (record { text = l.self-inside.text.now; at = l.self-inside.at; place = l.self-inside.place }) (record { text = l.bytes; at = l.at; place = l.place })
    l.initial.tokens.items l.tokens.items

abbrev pub decreases-loop-at : goal.decreases-loop-at
decreases-loop-at l = length l.bytes - l.at
