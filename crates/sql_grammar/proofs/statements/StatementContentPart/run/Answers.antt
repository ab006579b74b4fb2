use Rattle.std.proofs.Common.{rules, ◌≡◌, ◌∙◌, arith, sym}
use Rattle.squawk_kinds.specs.Kinds.{EOF}
use Rattle.squawk_parser.specs.SomeSteps.{Spends}
use Rattle.squawk_table.specs.ParserInput.{kind_in}
use Rattle.squawk_parser.specs.State.{ahead, kind_at}
use Rattle.squawk_parser.proofs.RecordedSteps.{went}
use Rattle.sql_grammar.proofs.AddedStatements.{alone, asked, bumped, bumped_last, opened_as, opened_next, opened_none, opened_rest, opened_ruled, runs_as, spends_of, unasked}
use Rattle.sql_grammar.proofs.statements.StatementContentPart.run.Goals as goal
use Rattle.sql_grammar.proofs.statements.StatementContentPart.run.Goals.{in-Nodes, in_default-2, in_default}

pub loop-p-init : goal.loop-p-init
loop-p-init c =
    let detail = c.args.self.detail in
    let n = c.args.self.len in
    elim c.match-detail.branch [
      | in-Nodes w ↦ opened_as w.p-is w.kind-is
          (opened_ruled detail n w.in-Nodes.is (asked detail _ _ w.in-Nodes.is (sym w.is_parsed.ensures ∙ w.if-is_parsed.true)) w.with_limit-kind.ensures.keeps w.with_limit-kind.ensures.does)
      | in_default-2 w ↦ opened_as w.p-is w.kind-is
          (opened_none detail c.args.p.now c.requires c.args.self.node (unasked detail _ _ w.in-Nodes.is (sym w.is_parsed.ensures ∙ w.if-is_parsed.false)))
      | in_default w ↦ opened_as w.p-is w.kind-is (opened_none detail c.args.p.now c.requires c.args.self.node (alone detail _ _ w.in_default.is))
    ]

pub loop-p-preserved : goal.loop-p-preserved
loop-p-preserved c =
    let before = c.loop-p.invariant in
    let spends = runs_as c.args.self.detail 1 0 c.args.p.now c.bump_any.new.self (λ tokens.
    let spent : Spends 1 0 c.args.p.now c.loop-p.p = spends_of 1 0 _ _ tokens before.runs in
    omega (arith, spent, c.bump_any.ensures.spends)) in
    opened_next (search rules) spends (went c.bump_any.ensures.some.some.keeps) (bumped (kind_in (ahead c.loop-p.p 0) 0) (ahead c.loop-p.p 0) c.bump_any.ensures.puts)
    (bumped_last (kind_in (ahead c.loop-p.p 0) 0) (ahead c.loop-p.p 0) (search rules) c.bump_any.ensures.puts) before

pub returns-clause-does : goal.returns-clause-does
returns-clause-does c =
    let end : kind_at c.loop-p.p 0 ≡ EOF = grind arith in
    opened_rest c.requires end c.loop-p.invariant
