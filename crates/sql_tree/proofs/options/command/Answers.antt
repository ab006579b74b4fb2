use Rattle.std.proofs.Common.{◌∙◌, [], ap, map}
use Rattle.clap.specs.Simple.{App}
use Rattle.sql_tree.specs.Options.{argument_of, excluded, file_argument, flag_argument, flags, others, row_of}
use Rattle.sql_tree.proofs.OptionLemmas.{before_all, one_more}
use Rattle.sql_tree.proofs.options.command.Goals as goal

pub loop-flag-preserved : goal.loop-flag-preserved
loop-flag-preserved c = record {
  said = one_more _ c.loop-flag.flag-index _ c.loop-flag-test.true file_argument (λ flag. flag_argument (row_of flag)) argument_of _ _ _
      (ap (λ (app : App). app.top.rules) (c.in_ok-command-2.ensures.shape c.in_ok-argument.ensures.local)) c.loop-flag.invariant.said
      c.in_ok-argument.ensures.argument;
  excludes = one_more _ c.loop-flag.flag-index _ c.loop-flag-test.true [] (λ flag. others flag.name.now) excluded _ _ _
      c.in_ok-command-2.ensures.args c.loop-flag.invariant.excludes
      (ap (map (λ id. id.now)) c.in_ok-command-2.ensures.rules.conflicts ∙ c.in_ok-argument.ensures.excludes);
}

pub returns-clause-arguments : goal.returns-clause-arguments
returns-clause-arguments c =
    before_all c.flags-flag-items.result.now flags c.flags-flag-items.ensures c.loop-flag.flag-index c.loop-flag-test.false
    file_argument flag_argument _ c.loop-flag.invariant.said

pub returns-clause-excludes : goal.returns-clause-excludes
returns-clause-excludes c =
    before_all c.flags-flag-items.result.now flags c.flags-flag-items.ensures c.loop-flag.flag-index c.loop-flag-test.false
    [] (λ flag. others flag.name) _ c.loop-flag.invariant.excludes
