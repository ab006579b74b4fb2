use Rattle.std.proofs.Common.{◌≡◌, ℕ, ◌+◌, ◌<◌, ◌≤◌, ◌++◌, ◌∷◌, [], Bool, true, List, length, below_more, arith}
use Rattle.std.proofs.Math.ListN.{get_or-append}
use Rattle.std.proofs.Math.Seq.{get_or-append_seam}
use Rattle.std.specs.Prelude.{◌↔◌, IsTrue}
use Rattle.rule_grammar.specs.declared.part.Part.{Part}
use Rattle.rule_checks.specs.Empty.{IsArm}
use Rattle.rule_checks.specs.Rows.{next_at, row_at}
use Rattle.rule_checks.specs.Rules.{IsRule}
use Rattle.rule_checks.specs.Sets.{IsSetBelow, has}
use Rattle.rule_checks.proofs.rules.rules.Goals as goal

rule_at : (rows : List Part) (past k : ℕ) (b : Bool) → ((o : ℕ) → o < k → next_at rows o ≤ past) → ((bound : ℕ) → ((o : ℕ) → o < k → next_at rows o ≤ bound) → past ≤ bound)
    → IsTrue b ↔ ((past ≤ k) × IsArm (row_at rows k)) → (b ≡ true) ↔ IsRule rows k
rule_at rows past k b bound least is = (
  (λ yes. let both = is.0 yes in record { arm = both.1; outermost = λ o less. let below = bound o less in let first = both.0 in omega arith }),
  λ rule. is.1 (least k rule.outermost, rule.arm),
)

more_rules : (rows : List Part) (rules longer : List Bool) (b : Bool) (k : ℕ) → length rules ≡ k → longer ≡ rules ++ b ∷ [] → IsSetBelow k (IsRule rows) rules → (b ≡ true) ↔ IsRule rows k
    → IsSetBelow (k + 1) (IsRule rows) longer
more_rules rows rules longer b k len longer_is is at = rw longer_is (below_more (λ i. (has (rules ++ b ∷ []) i ≡ true) ↔ IsRule rows i) k
    (λ i less. let within : i < length rules = omega arith in rw (get_or-append rules (b ∷ []) true i within) (is i less)) (rw (← len) (rw (get_or-append_seam rules b [] true) (rw len at))))

pub loop-k-preserved : goal.loop-k-preserved
loop-k-preserved c =
    let next : c.next_at.result ≡ next_at c.args.rows.now c.loop-k.k = c.next_at.ensures.is in
    record {
      len = omega (arith, c.in_ok-push.ensures.len);
      is = more_rules c.args.rows.now _ _ _ c.loop-k.k c.loop-k.invariant.len c.in_ok-push.ensures.items c.loop-k.invariant.is
          (rule_at c.args.rows.now c.loop-k.past c.loop-k.k _ c.loop-k.invariant.bound c.loop-k.invariant.least c.begins_rule.ensures);
      bound = below_more (λ o. next_at c.args.rows.now o ≤ c.max-past.result) c.loop-k.k
          (λ o less. let before = c.loop-k.invariant.bound o less in omega arith) (omega arith);
      least = λ b all. let before = c.loop-k.invariant.least b (λ o less. all o (omega arith)) in let here = all c.loop-k.k (omega arith) in omega arith;
    }
