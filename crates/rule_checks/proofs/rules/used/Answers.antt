use Rattle.std.proofs.lemmas.Result.{IfOk-weaker}
use Rattle.rule_checks.specs.Rules.{Uses}
use Rattle.rule_checks.specs.Steps.{Lists}
use Rattle.rule_checks.proofs.Afters.{after_same}
use Rattle.rule_checks.proofs.Lists.{iff_then}
use Rattle.rule_checks.proofs.rules.used.Goals as goal

pub returns : goal.returns
returns c = IfOk-weaker c.after.result _ _
    (λ used is k within. iff_then (is k (rw c.in_ok-lists.ensures.len within))
    (after_same (Lists c.in_ok-lists.lists.items) (Uses c.args.rows.now) c.args.from k c.in_ok-lists.ensures.is))
    (rw c.deref.ensures.value at c.after.ensures)
