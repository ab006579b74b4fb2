use Rattle.std.proofs.Common.{arith, refl}
use Rattle.clap.specs.Matches.{found_of}
use Rattle.sql_tree.specs.Options.{flags}
use Rattle.sql_tree.specs.declared.options.Listing.TheVariants.{Tree}
use Rattle.sql_tree.proofs.OptionLemmas.{asked_at, asked_first, asked_none}
use Rattle.sql_tree.proofs.options.asked_listing.Goals as goal

pub loop-flag-init : goal.loop-flag-init
loop-flag-init c = asked_first c.flags-flag-items.result.now flags c.flags-flag-items.ensures (found_of c.args.matches.now)

pub loop-flag-preserved : goal.loop-flag-preserved
loop-flag-preserved c = λ listing asked.
    c.loop-flag.invariant listing (asked_at _ _ c.loop-flag.flag-index _ c.get_flag.result listing (omega arith) (record { none = c.get_flag.ensures.none; on = c.get_flag.ensures.value; off = c.get_flag.ensures.other }) (rw c.if-get_flag.false asked))

pub returns-then-get_flag : goal.returns-then-get_flag
returns-then-get_flag c =
    c.loop-flag.invariant _ (asked_at _ _ c.loop-flag.flag-index _ c.get_flag.result _ (omega arith) (record { none = c.get_flag.ensures.none; on = c.get_flag.ensures.value; off = c.get_flag.ensures.other }) (rw c.if-get_flag.true refl))

pub returns : goal.returns
returns c = c.loop-flag.invariant Tree (asked_none _ _ c.loop-flag.flag-index c.loop-flag-test.false)
