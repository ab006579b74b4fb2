use Rattle.std.proofs.Common.{◌≡◌, ◌+◌, ◌-◌, drop}
use Rattle.squawk_table.specs.ParserInput.{kinds_in}
use Rattle.squawk_parser.specs.State.{ahead}
use Rattle.sql_lexer.specs.declared.statements.Statement.TheVariants.{Plain}
use Rattle.sql_grammar.specs.Statements.{len_from}
use Rattle.sql_grammar.proofs.cut.plain_end.Given as goal

abbrev pub invariant-loop-kind : goal.invariant-loop-kind
invariant-loop-kind l = l.len + len_from Plain (drop l.len (kinds_in (ahead l.p 0))) ≡ l.fn.begun + len_from Plain (drop l.fn.begun (kinds_in (ahead l.p 0)))

-- the tokens that are left
abbrev pub decreases-loop-kind : goal.decreases-loop-kind
decreases-loop-kind l = l.p.limit - (l.p.position + l.len)
