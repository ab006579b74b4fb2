use Rattle.std.proofs.Common.{arith, subst, ◌≡◌, ◌+◌, ◌-◌, ℕ}
use Rattle.rule_grammar.specs.Derivations.{IsEnd}
use Rattle.rule_grammar.specs.Derivations.IsEnd.{before_kind, itself}
use Rattle.rule_grammar.specs.Parts.{part_at}
use Rattle.rule_grammar.specs.declared.part.Part.TheVariants as parts
use Rattle.rule_grammar.proofs.table.Table.inside.Goals as goal

pub returns-in-Becomes : goal.returns-in-Becomes
returns-in-Becomes c =
    let is : part_at c.args.self.now.rows.now (c.args.end - 1) ≡ parts.Becomes c.in-Becomes.kind = cc in
    let after : (c.args.end - 1) + 1 ≡ c.args.end = omega arith in
    subst (λ (k : ℕ). IsEnd c.args.self.now.rows.now (c.args.end - 1) k) after (before_kind is)

pub returns : goal.returns
returns c = itself
