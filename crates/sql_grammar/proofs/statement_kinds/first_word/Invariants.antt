use Rattle.std.proofs.Common.{◌≡◌, ◌+◌, ◌-◌, drop}
use Rattle.squawk_table.specs.ParserInput.{kinds_in}
use Rattle.squawk_parser.specs.State.{ahead}
use Rattle.sql_grammar.specs.Statements.{first_word}
use Rattle.sql_grammar.proofs.statement_kinds.first_word.Given as goal

abbrev pub invariant-loop-parens : goal.invariant-loop-parens
invariant-loop-parens l = first_word (drop l.parens (kinds_in (ahead l.p 0))) ≡ first_word (kinds_in (ahead l.p 0))

-- the tokens that are left
abbrev pub decreases-loop-parens : goal.decreases-loop-parens
decreases-loop-parens l = l.p.limit - (l.p.position + l.parens)
