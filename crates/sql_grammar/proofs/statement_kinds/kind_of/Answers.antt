use Rattle.std.proofs.Common.{◌∙◌, ap, sym}
use Rattle.squawk_table.specs.ParserInput.{kinds_in}
use Rattle.squawk_parser.specs.State.{ahead}
use Rattle.sql_grammar.specs.StatementKinds.{statement_kinds}
use Rattle.sql_grammar.specs.Statements.{is_psql, kind_for}
use Rattle.sql_grammar.proofs.Looks.{kind_nth}
use Rattle.sql_grammar.proofs.StatementKinds.{kind_of-psql, kind_of-word, statements_are_nodes}
use Rattle.sql_grammar.proofs.statement_kinds.kind_of.Goals as goal

pub returns-then-is_psql-clause-is : goal.returns-then-is_psql-clause-is
returns-then-is_psql-clause-is c =
    let told = ap is_psql (sym (c.current.ensures ∙ kind_nth c.args.p.now 0)) ∙ sym c.is_psql.ensures in
    sym (kind_of-psql (kinds_in (ahead c.args.p.now 0)) (told ∙ c.if-is_psql.true))

pub returns-else-is_psql-clause-is : goal.returns-else-is_psql-clause-is
returns-else-is_psql-clause-is c =
    let told = ap is_psql (sym (c.current.ensures ∙ kind_nth c.args.p.now 0)) ∙ sym c.is_psql.ensures in
    c.kind_for.ensures
    ∙ (ap (kind_for c.first_word.result) c.statements.ensures
    ∙ (ap (λ word. kind_for word statement_kinds) c.first_word.ensures ∙ sym (kind_of-word (kinds_in (ahead c.args.p.now 0)) (told ∙ c.if-is_psql.false))))

pub returns-else-is_psql-clause-kind : goal.returns-else-is_psql-clause-kind
returns-else-is_psql-clause-kind c e =
    statements_are_nodes c.first_word.result (sym (c.kind_for.ensures ∙ ap (kind_for c.first_word.result) c.statements.ensures) ∙ e)
