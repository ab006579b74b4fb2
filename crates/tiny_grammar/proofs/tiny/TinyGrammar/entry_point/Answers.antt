use Rattle.std.proofs.Common.{◌≡◌, ◌∙◌, ◌++◌, ap, subst}
use Rattle.squawk_kinds.specs.TokenSets.{has}
use Rattle.squawk_parser.specs.Composed.{Adds, AddsNode, RecordsSteps}
use Rattle.squawk_parser.proofs.AddedSteps.{node_around}
use Rattle.squawk_parser.proofs.WholeSteps.{whole_file}
use Rattle.squawk_parser.proofs.StepsInOrder.{RecordsSteps-node}
use Rattle.tiny_grammar.specs.Expressions.{behind_expression, expression_steps, is_operator_kind, source, tail_steps, tiny_in_order, tiny_steps}
use Rattle.tiny_grammar.proofs.Source.{inside_adds, inside_records, source_closed, source_fails, source_leaves}
use Rattle.tiny_grammar.proofs.tiny.TinyGrammar.entry_point.Goals as goal

-- an expression and the tail are added in the root
inside : (c : goal.After-complete) → Adds (expression_steps c.args.p.now.input ++ tail_steps (behind_expression c.args.p.now.input)) c.start-root.new.self c.rest.new.p
inside c =
    let start = c.start-root.ensures.begins in
    inside_adds c.requires.fresh start.keeps start.position c.expression.ensures.rest c.rest.ensures.puts c.expression.ensures.adds

-- all that is added is one node
root : (c : goal.After-complete) → AddsNode (tiny_steps c.args.p.now.input) c.complete.result c.args.p.now c.complete.new.p
root c =
    let done = c.complete.ensures in
    node_around c.start-root.ensures.begins (inside c) done.completes done.node

-- and its steps are recorded in their order
recorded : (c : goal.After-complete) → RecordsSteps (tiny_in_order c.args.p.now.input) c.args.p.now c.complete.new.p
recorded c =
    let start = c.start-root.ensures in
    let done = c.complete.ensures in
    let inside = inside_records c.requires.fresh start.begins.keeps start.begins.position c.expression.ensures.rest c.rest.ensures.puts
    c.expression.ensures.records in
    RecordsSteps-node source start.begins inside done.completes

pub expression-requires : goal.expression-requires
expression-requires c =
    ap (λ words. has words.operator_first) (c.start-root.ensures.begins.keeps.words ∙ c.requires.words) ∙ subst (λ set. has set ≡ is_operator_kind) c.self.view_is c.self.invariant

pub rest-requires : goal.rest-requires
rest-requires c = c.expression.ensures.adds.keeps.sound

pub returns-clause-closed : goal.returns-clause-closed
returns-clause-closed c = source_closed c.requires.fresh (recorded c) (root c)

pub returns-clause-leaves : goal.returns-clause-leaves
returns-clause-leaves c =
    source_leaves c.requires.fresh (recorded c) (root c) (whole_file c.requires.fresh c.start-root.ensures.begins (inside c) c.complete.ensures.completes c.rest.ensures.end)

pub returns-clause-runs : goal.returns-clause-runs
returns-clause-runs c = source_fails c.requires.fresh (recorded c)
