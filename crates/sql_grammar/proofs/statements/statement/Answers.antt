use Rattle.std.proofs.Common.{arith}
use Rattle.squawk_table.specs.ParserInput.{kinds_in}
use Rattle.squawk_parser.specs.SomeSteps.{Spends}
use Rattle.squawk_parser.specs.State.{ahead}
use Rattle.squawk_parser.proofs.AddedSteps.{open_marker-added}
use Rattle.sql_grammar.proofs.AddedFiles.{first_added, inner_added, is_first, statement_eats, statement_with}
use Rattle.sql_grammar.proofs.AddedStatements.{runs_as, spends_of}
use Rattle.sql_grammar.proofs.statements.statement.Goals as goal

pub complete-requires-clause-kind : goal.complete-requires-clause-kind
complete-requires-clause-kind c = c.with_limit-kind.ensures.does.is_node

pub complete-requires-clause-open_marker : goal.complete-requires-clause-open_marker
complete-requires-clause-open_marker c =
    let inner = c.with_limit-kind.ensures in
    open_marker-added c.start-node.result c.start-node.ensures.open_marker (inner_added c.first_len-len.result inner.keeps inner.does)

pub returns-clause-adds : goal.returns-clause-adds
returns-clause-adds c =
    let inner = c.with_limit-kind.ensures in
    let is = is_first (kinds_in (ahead c.args.p.now 0)) c.kind_of-kind.ensures.is c.first_len-len.ensures c.content_len.ensures in
    first_added (statement_with c.kind_of-kind.result c.first_len-len.result c.content_len.result) is c.requires c.start-node.ensures.begins inner.keeps inner.does c.complete.ensures.completes

pub returns-clause-eats : goal.returns-clause-eats
returns-clause-eats c = statement_eats c.requires (returns-clause-adds c)

pub returns-clause-runs : goal.returns-clause-runs
returns-clause-runs c = runs_as c.args.detail 3 0 c.args.p.now c.complete.new.p (λ alone.
    let inner : Spends 1 0 c.start-node.new.self c.with_limit-kind.new.self = spends_of 1 0 _ _ alone c.with_limit-kind.ensures.does.runs in
    let begins = c.start-node.ensures.begins.position in
    let forward = c.with_limit-kind.ensures.keeps.forward in
    let completes = c.complete.ensures.completes.position in
    let eats = returns-clause-eats c in
    omega (arith, c.start-node.ensures.spends, inner, c.complete.ensures.spends, begins, forward, completes, eats))
