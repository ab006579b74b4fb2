use Rattle.std.proofs.lemmas.Result.{IfOk-weaker}
use Rattle.rule_checks.specs.Leads.{Leads}
use Rattle.rule_checks.specs.Steps.{Lists}
use Rattle.rule_checks.proofs.Afters.{after_same}
use Rattle.rule_checks.proofs.checks.is_left_recursive.Goals as goal

pub returns-then-is_call : goal.returns-then-is_call
returns-then-is_call c = IfOk-weaker c.comes_back.result _ _
    (λ back is.
    let same = after_same (Lists c.args.leads.now) (Leads c.args.rows.now) c.args.k c.args.k c.requires.leads in
    ((λ comes. record { call = c.is_call.ensures.0 (cc); back = same.0 (is.0 comes) }), (λ found. is.1 (same.1 found.back))))
    c.comes_back.ensures
