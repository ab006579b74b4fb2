use Rattle.std.proofs.Common.{◌≡◌, ◌+◌, ◌-◌, ◌≤◌, drop}
use Rattle.squawk_table.specs.ParserInput.{kinds_in}
use Rattle.squawk_parser.specs.State.{ahead}
use Rattle.sql_lexer.specs.Statements.{unclosed_in}
use Rattle.sql_grammar.specs.Statements.{len_from, len_of}
use Rattle.sql_grammar.proofs.cut.first_len.Given as goal

abbrev pub invariant-loop-statement : goal.invariant-loop-statement
invariant-loop-statement l = record {
  most : unclosed_in l.statement ≤ l.len;
  so_far : l.len + len_from l.statement (drop l.len (kinds_in (ahead l.p 0))) ≡ len_of (kinds_in (ahead l.p 0));
}

-- the tokens that are left
abbrev pub decreases-loop-statement : goal.decreases-loop-statement
decreases-loop-statement l = l.p.limit - (l.p.position + l.len)
