use Rattle.std.proofs.Common.{◌≡◌, ◌++◌, length, ◌-◌}
use Rattle.sql_lexer.specs.ScriptLexing.{tokens_left}
use Rattle.sql_lexer.specs.Scripts.{script_tokens}
use Rattle.sql_lexer.proofs.script.tokenize_script.Given as goal

abbrev pub invariant-loop-lexer : goal.invariant-loop-lexer
invariant-loop-lexer l = record {
  text : l.lexer.text ≡ l.fn.text;
  left : l.tokens.items ++ tokens_left l.lexer ≡ script_tokens l.fn.text;
}

abbrev pub decreases-loop-lexer : goal.decreases-loop-lexer
decreases-loop-lexer l = length l.lexer.text - l.lexer.at
