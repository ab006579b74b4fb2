use Rattle.std.proofs.Common.{◌≡◌, [], map}
use Rattle.clap.specs.Facts.{args_of}
use Rattle.clap.specs.Walk.{rules_of}
use Rattle.sql_tree.specs.Options.{argument_of, excluded, file_argument, flag_argument, others, row_of}
use Rattle.sql_tree.proofs.OptionLemmas.{before}
use Rattle.sql_tree.proofs.options.command.Given as goal

abbrev pub invariant-loop-flag : goal.invariant-loop-flag
invariant-loop-flag l = record {
  said : map argument_of (rules_of l.command) ≡ before file_argument (λ flag. flag_argument (row_of flag)) l.flag-items l.flag-index;
  excludes : map excluded (args_of l.command) ≡ before [] (λ flag. others flag.name.now) l.flag-items l.flag-index;
}
