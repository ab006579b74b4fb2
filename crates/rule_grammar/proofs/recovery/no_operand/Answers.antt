use Rattle.rule_grammar.proofs.Counted.{counts_then, counts_added, counts_completed}
use Rattle.rule_grammar.proofs.recovery.no_operand.Goals as goal

pub returns-clause-counts : goal.returns-clause-counts
returns-clause-counts c =
    counts_then (counts_added c.start-node.ensures.opens.some) (counts_then c.missing.ensures.counts (counts_completed c.complete.ensures.completes))
