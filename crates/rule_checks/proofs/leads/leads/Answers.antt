use Rattle.std.proofs.Common.{◌≡◌, ℕ, ◌+◌, List, true, false, inl, inr, subst}
use Rattle.std.specs.Prelude.{◌↔◌}
use Rattle.std.proofs.lemmas.Result.{IfOk-weaker}
use Rattle.rule_grammar.specs.declared.part.Part as part
use Rattle.rule_grammar.specs.declared.part.Part.TheVariants.{Choice, Operators}
use Rattle.rule_checks.specs.Empty.{Empty}
use Rattle.rule_checks.specs.Leads.{Begins, Leads, PartLeads}
use Rattle.rule_checks.specs.Rows.{Beside, row_at}
use Rattle.rule_checks.proofs.Lists.{iff_then}
use Rattle.rule_checks.proofs.leads.leads.Goals as goal

choice-leads : (rows : List part.Part) (k end m : ℕ) → Choice end ≡ row_at rows k
    → (Beside rows (k + 1) end m × Begins (false ≡ true) (row_at rows m)) ↔ Leads rows k m
choice-leads rows k end m is = subst (λ p. (Beside rows (k + 1) end m × Begins (false ≡ true) (row_at rows m)) ↔ PartLeads rows k p m) is
    (λ begins. elim begins.1 [ inl arm ↦ (begins.0, arm) | inr operator ↦ absurd (let impossible = operator.0 in cc) ], λ leads. (leads.0, inl leads.1))

operators-lead : (rows : List part.Part) (k end m : ℕ) (P : Type 0) → P ↔ Empty rows k → Operators end ≡ row_at rows k
    → (Beside rows (k + 1) end m × Begins P (row_at rows m)) ↔ Leads rows k m
operators-lead rows k end m P same is = subst (λ p. (Beside rows (k + 1) end m × Begins P (row_at rows m)) ↔ PartLeads rows k p m) is (
  λ begins. (begins.0, elim begins.1 [ inl arm ↦ inl arm | inr operator ↦ inr (same.0 operator.0, operator.1) ]),
  λ leads. (leads.0, elim leads.1 [ inl arm ↦ inl arm | inr operator ↦ inr (same.1 operator.0, operator.1) ]),
)

pub returns-in-Choice : goal.returns-in-Choice
returns-in-Choice c = IfOk-weaker c.begins.result _ _
    (λ list is m. iff_then (is m) (choice-leads c.args.rows.now c.args.k c.in-Choice.end m c.in-Choice.ensures)) c.begins.ensures

pub returns-in-Operators : goal.returns-in-Operators
returns-in-Operators c = IfOk-weaker c.begins-in-Operators.result _ _
    (λ list is m. iff_then (is m) (operators-lead c.args.rows.now c.args.k c.in-Operators.end m (c.has.result ≡ true) (rw c.has.ensures (c.requires.empties c.args.k)) c.in-Operators.ensures))
    c.begins-in-Operators.ensures
