use Rattle.std.proofs.Common.{ℕ, ◌≤◌, List, length, subst, arith}
use Rattle.rule_grammar.specs.declared.part.Part.{Part}
use Rattle.rule_checks.specs.Empty.{IsArm}
use Rattle.rule_checks.specs.Rules.{Uses}
use Rattle.rule_checks.proofs.Empties.{row-past}
use Rattle.rule_checks.proofs.Lists.{made_all, made_more}
use Rattle.rule_checks.proofs.rules.all_uses.Goals as goal

uses-past : (rows : List Part) (k m : ℕ) → length rows ≤ k → Uses rows k m → ⊥
uses-past rows k m past uses = subst IsArm (row-past rows k past) uses.rule.arm

pub loop-k-preserved : goal.loop-k-preserved
loop-k-preserved c = record {
  len = omega (arith, c.in_ok-push.ensures.len);
  made = made_more _ _ _ _ c.loop-k.invariant.made c.in_ok-push.ensures.items (λ m. rw c.loop-k.invariant.len (c.in_ok-uses.ensures m));
}

pub returns-clause-is : goal.returns-clause-is
returns-clause-is c = made_all _ _ c.loop-k.invariant.made (λ k m past. uses-past c.args.rows.now k m (omega arith))
