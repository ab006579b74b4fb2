use Rattle.rule_grammar.proofs.Counted.{counts_then, counts_some}
use Rattle.rule_grammar.proofs.tokens.composite.Goals as goal

pub returns-then-not-eats-clause-counts : goal.returns-then-not-eats-clause-counts
returns-then-not-eats-clause-counts c =
    counts_then (counts_some c.eats.ensures.adds) (counts_then c.missing.ensures.counts (counts_some c.eat_composite.ensures))
