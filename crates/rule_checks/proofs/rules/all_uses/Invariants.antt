use Rattle.std.proofs.Common.{◌≡◌, length}
use Rattle.rule_checks.specs.Rules.{Uses}
use Rattle.rule_checks.proofs.Lists.{Made}
use Rattle.rule_checks.proofs.rules.all_uses.Given as goal

abbrev pub invariant-loop-k : goal.invariant-loop-k
invariant-loop-k l = record {
  len : length l.lists.items ≡ l.k;
  made : Made (Uses l.rows) l.lists.items;
}
