use Rattle.std.proofs.Common.{◌≡◌, ℕ, ◌+◌, List}
use Rattle.std.specs.Prelude.{◌↔◌}
use Rattle.std.proofs.lemmas.Result.{IfOk-weaker}
use Rattle.rule_grammar.specs.declared.part.Part.{Part}
use Rattle.rule_checks.specs.Rows.{next_at}
use Rattle.rule_checks.specs.Rules.{IsCalled, IsRule, Uses}
use Rattle.rule_checks.proofs.Lists.{iff_then}
use Rattle.rule_checks.proofs.rules.uses.Goals as goal

called-uses : (rows : List Part) (k r next : ℕ) → IsRule rows k → next ≡ next_at rows k → IsCalled rows (k + 1) next r ↔ Uses rows k r
called-uses rows k r next rule is = rw is ((λ call. record { rule = rule; call = call }), (λ uses. uses.call))

pub returns-then-has : goal.returns-then-has
returns-then-has c = IfOk-weaker c.calls.result _ _
    (λ list is r. iff_then (is r) (called-uses c.args.rows.now c.args.k r c.next_at.result ((c.requires.rules c.args.k c.requires.k).0 (cc)) c.next_at.ensures.is))
    c.calls.ensures
