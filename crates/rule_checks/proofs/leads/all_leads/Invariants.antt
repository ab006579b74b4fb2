use Rattle.std.proofs.Common.{◌≡◌, length}
use Rattle.rule_checks.specs.Leads.{Leads}
use Rattle.rule_checks.proofs.Lists.{Made}
use Rattle.rule_checks.proofs.leads.all_leads.Given as goal

abbrev pub invariant-loop-k : goal.invariant-loop-k
invariant-loop-k l = record {
  len : length l.lists.items ≡ l.k;
  made : Made (Leads l.rows) l.lists.items;
}
