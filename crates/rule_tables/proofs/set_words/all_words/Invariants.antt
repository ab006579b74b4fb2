use Rattle.std.proofs.Common.{◌≡◌, length}
use Rattle.rule_tables.specs.Sets.{HaveSets}
use Rattle.rule_tables.proofs.set_words.all_words.Given as goal

abbrev pub invariant-loop-set : goal.invariant-loop-set
invariant-loop-set l = record {
  len : length l.words.items ≡ l.set-index;
  have : HaveSets l.sets l.words.items l.set-index;
}
