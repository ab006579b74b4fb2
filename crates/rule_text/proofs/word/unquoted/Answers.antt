use Rattle.std.proofs.Common.{arith, ap, subst, sym, ℕ, List, ◌∙◌, ◌≡◌, ◌-◌, ◌≤◌, length, slice_range, IsCharBoundary}
use Rattle.rule_text.specs.Words.{Unquoted}
use Rattle.rule_text.specs.Words.Unquoted.{inside, whole}
use Rattle.rule_text.proofs.word.unquoted.Goals as goal

pub returns-in-Some : goal.returns-in-Some
returns-in-Some c =
    let end = c.saturating_sub.ensures in
    let cases = c.in-Some.ensures.cases in
    subst (λ (l : List ℕ). Unquoted c.args.text.now l) (sym (cases.0 ∙ ap (λ (n : ℕ). slice_range c.args.text.now 1 n) end))
    (inside (omega (arith, cases.1, end)))

pub returns-in-None : goal.returns-in-None
returns-in-None c =
    let end : c.saturating_sub.result ≡ length c.args.text.now - 1 = c.saturating_sub.ensures in
    whole (λ h begins ends. c.in-None.ensures.cases (subst (λ (n : ℕ). 1 ≤ n) (sym end) h) begins
    (subst (λ (n : ℕ). IsCharBoundary c.args.text.now n) (sym end) ends))
