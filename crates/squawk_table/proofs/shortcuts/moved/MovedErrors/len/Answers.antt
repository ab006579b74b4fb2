use Rattle.std.proofs.Common.{◌≡◌, ◌∙◌, length, arith, ap, sym, inl, inr}
use Rattle.std.proofs.lemmas.Bool.{cases_Bool}
use Rattle.squawk_table.specs.SinkViews.{behind_closing}
use Rattle.squawk_table.proofs.ErrorsMoved.{length-moved}
use Rattle.squawk_table.proofs.shortcuts.moved.MovedErrors.len.Goals as goal

pub returns : goal.returns
returns c =
    let s = c.self.inside in
    let all : length c.args.self.now ≡ length (behind_closing s.holds_closing s.steps) = ap length (sym c.self.view_is) ∙ length-moved (behind_closing s.holds_closing s.steps) in
    let steps = c.size_hint.ensures.exact.0 in
    elim (cases_Bool s.holds_closing) [
      | inl e ↦
          let held = rw e at c.from.ensures in
          omega (arith, all ∙ ap (λ b. length (behind_closing b s.steps)) e)
      | inr e ↦
          let none = rw e at c.from.ensures in
          omega (arith, all ∙ ap (λ b. length (behind_closing b s.steps)) e)
    ]
