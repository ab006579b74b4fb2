use Rattle.std.proofs.Common.{◌≡◌, drop}
use Rattle.sql_grammar.specs.Statements.{kind_for}
use Rattle.sql_grammar.proofs.statement_kinds.kind_for.Given as goal

abbrev pub invariant-loop-first : goal.invariant-loop-first
invariant-loop-first l = kind_for l.fn.word (drop l.first-index l.table) ≡ kind_for l.fn.word l.table
