use Rattle.rule_grammar.proofs.Counted.{counts_then, counts_some, counts_added, counts_completed}
use Rattle.rule_grammar.proofs.skip.skip_unexpected.Goals as goal

pub returns-clause-counts : goal.returns-clause-counts
returns-clause-counts c =
    counts_then (counts_added c.start-node.ensures.opens.some)
    (counts_then c.error.ensures.counts (counts_then (counts_some c.bump_to.ensures) (counts_completed c.complete.ensures.completes)))
