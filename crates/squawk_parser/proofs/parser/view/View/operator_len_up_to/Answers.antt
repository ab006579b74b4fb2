use Rattle.std.proofs.Common.{◌≡◌, ◌∙◌, ◌+◌, ◌-◌, ◌<◌, ◌||◌, false, inl, inr, arith, ap, sym}
use Rattle.squawk_parser.specs.Operators.{is_special, operator_length}
use Rattle.squawk_kinds.specs.TokenSets.{has}
use Rattle.squawk_parser.proofs.OperatorLength.{longest_after, longest_from, longest_from-same, longest_after-one, longest_after-special, longest_after-no_sign, longest_after-sign, longest_after-bounds, longest_from-grows}
use Rattle.squawk_parser.proofs.JointRun.{run_at, longest_at-start, longest_at-limit, longest_at-other, longest_at-last, longest_at-next}
use Rattle.squawk_parser.proofs.parser.view.View.operator_len_up_to.Goals as goal
use Rattle.squawk_parser.proofs.parser.view.View.operator_len_up_to.Goals.{Joined-len-eq1, Joined-has_special, then-has_special, else-has_special, then-len-eq1, then-len-eq1-via-then-len-eq1, then-len-eq1-via-else-len-eq1+then-has_special-2, then-len-eq1-via-else-len-eq1+else-has_special-2+then-not-is_sign, else-len-eq1+else-has_special-2+else-not-is_sign}

pub loop-index-init : goal.loop-index-init
loop-index-init c =
    let view = c.self.inside in
    let operator_kind = has c.args.operator_first.now in
    let none : view.start - view.start ≡ 0 = omega arith in
    record {
      all = ap (λ len. longest_from len false 0 (run_at operator_kind view.tokens.now.input.now view.limit view.start)) none
          ∙ (longest_at-start operator_kind view.tokens.now.input.now view.limit view.start ∙ ap (operator_length operator_kind) c.self.view_is);
      within = omega arith;
    }

pub returns-after-loop-index : goal.returns-after-loop-index
returns-after-loop-index c =
    let view = c.self.inside in
    let l = c.loop-index in
    inl (sym (longest_at-limit (has c.args.operator_first.now) view.tokens.now.input.now view.limit l.index (l.index - view.start) l.has_special l.longest c.loop-index-test.false) ∙ l.invariant.all)

pub returns-then-not-contains : goal.returns-then-not-contains
returns-then-not-contains c =
    let view = c.self.inside in
    let l = c.loop-index in
    inl (sym (longest_at-other (has c.args.operator_first.now) view.tokens.now.input.now view.limit l.index (l.index - view.start) l.has_special l.longest
    c.kind-kind.result c.loop-index-test.true c.self.invariant c.kind-kind.ensures (sym c.contains.ensures ∙ c.if-not-contains.true)) ∙ l.invariant.all)

-- what the turn makes of the test for a special kind
special_here : (c : Joined-has_special) → c.if-has_special.has_special ≡ (c.loop-index.has_special || is_special c.kind-kind.result)
special_here c = elim c.if-has_special.branch [
  | then-has_special w ↦ w.has_special-is ∙ (w.if-has_special.true ∙ ap (λ special. special || is_special c.kind-kind.result) (sym w.if-has_special.true))
  | else-has_special w ↦
      w.has_special-is ∙ (w.is_special-has_special.ensures ∙ ap (λ special. special || is_special c.kind-kind.result) (sym w.if-has_special.false))
]

-- what the turn makes of the longest name
longest_here : (c : Joined-len-eq1)
    → c.if-len-eq1.longest ≡ longest_after (c.loop-index.index - c.self.inside.start + 1) c.if-has_special.has_special c.loop-index.longest c.kind-kind.result
longest_here c =
    let len = c.loop-index.index - c.self.inside.start + 1 in
    let special = c.if-has_special.has_special in
    let longest = c.loop-index.longest in
    let kind = c.kind-kind.result in
    elim c.if-len-eq1.branch [
      | then-len-eq1 w ↦ elim w.then-len-eq1.branch [
        | then-len-eq1-via-then-len-eq1 v ↦ w.longest-is ∙ sym (longest_after-one len special longest kind v.if-len-eq1.true)
        | then-len-eq1-via-else-len-eq1+then-has_special-2 v ↦ w.longest-is ∙ sym (longest_after-special len special longest kind v.if-has_special-2.true)
        | then-len-eq1-via-else-len-eq1+else-has_special-2+then-not-is_sign v ↦
            w.longest-is ∙ sym (longest_after-no_sign len special longest kind (sym v.is_sign.ensures ∙ v.if-not-is_sign.true))
      ]
      | else-len-eq1+else-has_special-2+else-not-is_sign w ↦
          w.longest-is ∙ sym (longest_after-sign len special longest kind w.if-len-eq1.false w.if-has_special-2.false (sym w.is_sign.ensures ∙ w.if-not-is_sign.false))
    ]

pub returns-then-not-is_joint : goal.returns-then-not-is_joint
returns-then-not-is_joint c =
    let view = c.self.inside in
    let l = c.loop-index in
    let special = special_here (goal.at.returns-then-not-is_joint c).Joined-has_special in
    inl (longest_here (goal.at.returns-then-not-is_joint c).Joined-len-eq1
    ∙ (ap (λ any. longest_after (l.index - view.start + 1) any l.longest c.kind-kind.result) special
    ∙ (sym (longest_at-last (has c.args.operator_first.now) view.tokens.now.input.now view.limit l.index (l.index - view.start) l.has_special l.longest
    c.kind-kind.result c.loop-index-test.true c.self.invariant c.kind-kind.ensures (sym c.contains.ensures ∙ c.if-not-contains.false)
    (sym c.is_joint.ensures ∙ c.if-not-is_joint.true)) ∙ l.invariant.all)))

-- a longer name was found than is asked for, and the operator has no shorter one
pub returns-then-longest-most : goal.returns-then-longest-most
returns-then-longest-most c =
    let view = c.self.inside in
    let l = c.loop-index in
    let run = run_at (has c.args.operator_first.now) view.tokens.now.input.now view.limit l.index in
    let grows = longest_from-grows run (l.index - view.start) l.has_special l.longest l.invariant.within in
    let above : c.args.most < operator_length (has c.args.operator_first.now) c.args.self.now = omega (arith, grows, l.invariant.all, c.if-longest-most.true) in
    inr (c.if-longest-most.true, above)

pub loop-index-preserved : goal.loop-index-preserved
loop-index-preserved c =
    let view = c.self.inside in
    let l = c.loop-index in
    let special = special_here (goal.at.loop-index-preserved c).Joined-has_special in
    let here = longest_here (goal.at.loop-index-preserved c).Joined-len-eq1 in
    let longest = here ∙ ap (λ any. longest_after (l.index - view.start + 1) any l.longest c.kind-kind.result) special in
    let len : l.index + 1 - view.start ≡ l.index - view.start + 1 = omega arith in
    let bounds = longest_after-bounds (l.index - view.start + 1) c.if-has_special.has_special l.longest c.kind-kind.result (omega (arith, l.invariant.within)) in
    record {
      all = longest_from-same (run_at (has c.args.operator_first.now) view.tokens.now.input.now view.limit (l.index + 1)) len special longest
          ∙ (sym (longest_at-next (has c.args.operator_first.now) view.tokens.now.input.now view.limit l.index (l.index - view.start) l.has_special l.longest
          c.kind-kind.result c.loop-index-test.true c.self.invariant c.kind-kind.ensures (sym c.contains.ensures ∙ c.if-not-contains.false)
          (sym c.is_joint.ensures ∙ c.if-not-is_joint.false)) ∙ l.invariant.all);
      within = omega (arith, here, bounds.1);
    }
