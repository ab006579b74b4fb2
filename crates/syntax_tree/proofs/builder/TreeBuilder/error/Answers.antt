use Rattle.std.proofs.Common.{rules, arith, refl}
use Rattle.std.specs.Str.{chars}
use Rattle.syntax_tree.specs.Refusals.{RefusesError}
use Rattle.syntax_tree.proofs.Drafts.{few_steps_taken, stood, IsGrowing-error, StandsAfter-error}
use Rattle.syntax_tree.proofs.Refusals.{errors_taken, wants_memory}
use Rattle.syntax_tree.proofs.builder.TreeBuilder.error.Goals as goal

pub returns-then-len-clause-step : goal.returns-then-len-clause-step
returns-then-len-clause-step c = λ steps stands.
    (refl, omega (arith, errors_taken _ steps (stood _ _ c.self.view_is steps stands), c.len.ensures, c.self.inside.errors.ok))

pub overflow_add-self : goal.overflow_add-self
overflow_add-self c = omega (arith, few_steps_taken _ c.self.invariant.grows)

pub invariant_of-self-2 : goal.invariant_of-self-2
invariant_of-self-2 c = record {
  grows = IsGrowing-error _ (chars c.args.msg.now) c.args.pos c.push_reserved.new.self.items (search rules) c.self.invariant.grows
      (omega (arith, c.len.ensures, c.self.inside.errors.ok));
  places = c.self.invariant.places;
}

pub returns-clause-step : goal.returns-clause-step
returns-clause-step c = λ steps stands.
    StandsAfter-error _ (chars c.args.msg.now) c.args.pos c.push_reserved.new.self.items (search rules) steps (stood _ _ c.self.view_is steps stands)

pub returns-in_err-reserve-clause-step : goal.returns-in_err-reserve-clause-step
returns-in_err-reserve-clause-step c = λ steps stands.
    wants_memory c.from_residual.result _ _ (RefusesError steps) c.from_residual.ensures.1 (search rules)
    (omega (arith, errors_taken _ steps (stood _ _ c.self.view_is steps stands), c.if-len.false, c.len.ensures, c.self.inside.errors.ok))

pub returns-in_err-from_str-clause-step : goal.returns-in_err-from_str-clause-step
returns-in_err-from_str-clause-step c = λ steps stands.
    let answer = c.from_residual-in_err-from_str in
    wants_memory answer.result _ _ (RefusesError steps) answer.ensures.1 (search rules)
    (omega (arith, errors_taken _ steps (stood _ _ c.self.view_is steps stands), c.if-len.false, c.len.ensures, c.self.inside.errors.ok))
