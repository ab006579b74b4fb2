use Rattle.std.proofs.Common.{◌≡◌, ℕ, ◌<◌, length, Some}
use Rattle.rule_grammar.specs.Parts.{part_at}
use Rattle.rule_tables.specs.Forks.{AreDecided}
use Rattle.rule_tables.specs.Sets.{Extends}
use Rattle.rule_tables.specs.Strands.{IsUpTo}
use Rattle.rule_tables.specs.Walks.{plan_of}
use Rattle.rule_tables.specs.Rows.{ListsSome}
use Rattle.rule_tables.proofs.numbers.all_numbers.Given as goal

abbrev pub invariant-loop-index : goal.invariant-loop-index
invariant-loop-index l = record {
  keeps : Extends l.fn.looks.sets.list.items l.looks.sets.list.items;
  len : length l.numbers.items ≡ l.index;
  decided : AreDecided (plan_of l.map) l.parts l.index;
  up : (k : ℕ) → k < l.index → IsUpTo l.undecided k;
  say : ListsSome (λ i. Some (part_at l.numbers.items i)) l.index l.map.rows.now;
}
