use Rattle.clap.specs.Matches.{found_of}
use Rattle.sql_tree.specs.Options.{IsAsked, flags}
use Rattle.sql_tree.specs.declared.options.Listing.{Listing}
use Rattle.sql_tree.proofs.OptionLemmas.{rows_behind}
use Rattle.sql_tree.proofs.options.asked_listing.Given as goal

abbrev pub invariant-loop-flag : goal.invariant-loop-flag
invariant-loop-flag l =
    (listing : Listing) → IsAsked (found_of l.matches) (rows_behind l.flag-items l.flag-index) listing → IsAsked (found_of l.matches) flags listing
