-- Lists of sets that get longer.
use Rattle.std.proofs.Common.{◌∙◌, List, arith}
use Rattle.squawk_kinds.specs.declared.token_set.TokenSet.{TokenSet}
use Rattle.rule_tables.specs.Sets.{Extends}

pub extends_then : {a b c : List TokenSet} → Extends a b → Extends b c → Extends a c
extends_then p q = record {
  longer = omega (arith, p.longer, q.longer);
  same = λ n lt. q.same n (omega (arith, lt, p.longer)) ∙ p.same n lt;
}
