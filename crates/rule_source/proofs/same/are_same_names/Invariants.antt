use Rattle.std.proofs.Common.{◌≡◌, length, take}
use Rattle.rule_source.specs.Same.{names_in}
use Rattle.rule_source.proofs.same.are_same_names.Given as goal

abbrev pub invariant-loop-index : goal.invariant-loop-index
invariant-loop-index l = record {
  len : length l.one ≡ length l.other;
  begun : take l.index (names_in l.one) ≡ take l.index (names_in l.other);
}
