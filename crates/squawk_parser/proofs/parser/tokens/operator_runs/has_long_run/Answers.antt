use Rattle.std.proofs.Common.{◌*◌, arith, subst, inl, inr}
use Rattle.std.proofs.lemmas.Bool.{cases_eq}
use Rattle.squawk_kinds.specs.TokenSets.{has}
use Rattle.squawk_parser.specs.OperatorRuns.{IsInRun}
use Rattle.squawk_parser.proofs.LongRuns.{no_long_run}
use Rattle.squawk_parser.proofs.parser.tokens.operator_runs.has_long_run.Goals as goal

pub loop-block-preserved : goal.loop-block-preserved
loop-block-preserved c block lt run =
    elim (cases_eq block c.loop-block.block) [
      | inl same ↦ not_here (subst (λ b. IsInRun (has c.args.operator_first.now) c.args.input.now (b * 16)) same run)
      | inr other ↦ c.loop-block.invariant block (omega (arith, lt, other)) run
    ]
  where
    not_here : IsInRun (has c.args.operator_first.now) c.args.input.now (c.loop-block.block * 16) → ⊥
    not_here run = let known = c.is_in_run.ensures.1 run in let no = c.if-is_in_run.false in cc

pub returns : goal.returns
returns c _ limit index within =
    no_long_run (has c.args.operator_first.now) c.args.input.now limit within index
    (λ block before. c.loop-block.invariant block (omega (arith, c.loop-block-test.false, c.loop-block.auto.block-end, c.len-block-end.ensures.len)))
