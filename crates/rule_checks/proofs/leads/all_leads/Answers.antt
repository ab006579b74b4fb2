use Rattle.std.proofs.Common.{ℕ, ◌≤◌, List, length, subst, arith}
use Rattle.rule_grammar.specs.declared.part.Part.{Part}
use Rattle.rule_checks.specs.Leads.{Leads, PartLeads}
use Rattle.rule_checks.proofs.Empties.{row-past}
use Rattle.rule_checks.proofs.Lists.{made_all}
use Rattle.rule_checks.proofs.leads.all_leads.Goals as goal

leads-past : (rows : List Part) (k m : ℕ) → length rows ≤ k → Leads rows k m → ⊥
leads-past rows k m past leads = subst (λ p. PartLeads rows k p m) (row-past rows k past) leads

pub returns-clause-is : goal.returns-clause-is
returns-clause-is c = made_all _ _ c.loop-k.invariant.made (λ k m past. leads-past c.args.rows.now k m (omega arith))
