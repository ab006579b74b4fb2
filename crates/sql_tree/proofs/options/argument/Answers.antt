use Rattle.std.proofs.Common.{◌∙◌, ap}
use Rattle.clap.specs.Walk.{rule_of}
use Rattle.sql_tree.specs.Options.{argument_of, excluded, flags, help_of}
use Rattle.sql_tree.proofs.OptionLemmas.{others_all, others_left, others_put}
use Rattle.sql_tree.proofs.options.argument.Goals as goal
use Rattle.sql_tree.proofs.options.argument.Goals.{then-ne+in_ok-arg, else-ne}

pub loop-other-preserved : goal.loop-other-preserved
loop-other-preserved c = elim c.if-ne.branch [
  | then-ne+in_ok-arg w ↦ record {
    said = ap (λ a. argument_of (rule_of a)) (w.arg-is ∙ w.in_ok-arg.ensures.0) ∙ c.loop-other.invariant.said;
    help = ap help_of (w.arg-is ∙ w.in_ok-arg.ensures.0) ∙ c.loop-other.invariant.help;
    local = ap (λ a. a.global) (w.arg-is ∙ w.in_ok-arg.ensures.0) ∙ c.loop-other.invariant.local;
    excludes = ap excluded w.arg-is
        ∙ others_put _ c.loop-other.other-index _ c.loop-other-test.true c.args.flag.now.name.now c.ne.result c.ne.ensures w.if-ne.true _ _
        w.in_ok-arg.ensures.1 c.loop-other.invariant.excludes;
  }
  | else-ne w ↦ record {
    said = ap (λ a. argument_of (rule_of a)) w.arg-is ∙ c.loop-other.invariant.said;
    help = ap help_of w.arg-is ∙ c.loop-other.invariant.help;
    local = ap (λ a. a.global) w.arg-is ∙ c.loop-other.invariant.local;
    excludes = ap excluded w.arg-is
        ∙ others_left _ c.loop-other.other-index _ c.loop-other-test.true c.args.flag.now.name.now c.ne.result c.ne.ensures w.if-ne.false _
        c.loop-other.invariant.excludes;
  }
]

pub returns-clause-excludes : goal.returns-clause-excludes
returns-clause-excludes c =
    others_all c.flags-other-items.result.now flags c.flags-other-items.ensures c.loop-other.other-index c.loop-other-test.false
    c.args.flag.now.name.now _ c.loop-other.invariant.excludes
