use Rattle.std.proofs.Common.{◌≡◌, Some, false}
use Rattle.clap.specs.Walk.{rule_of}
use Rattle.sql_tree.specs.Options.{argument_of, excluded, flag_argument, help_of, row_of}
use Rattle.sql_tree.proofs.OptionLemmas.{others_before}
use Rattle.sql_tree.proofs.options.argument.Given as goal

abbrev pub invariant-loop-other : goal.invariant-loop-other
invariant-loop-other l = record {
  said : argument_of (rule_of l.arg) ≡ flag_argument (row_of l.flag);
  help : help_of l.arg ≡ Some l.flag.help.now;
  local : l.arg.global ≡ false;
  excludes : excluded l.arg ≡ others_before l.flag.name.now l.other-items l.other-index;
}
