use Rattle.std.proofs.Common.{◌≡◌, ◌∙◌, ◌∷◌, ap}
use Rattle.std.proofs.lemmas.Bool.{false≢true}
use Rattle.squawk_output.specs.StepViews.{step_of}
use Rattle.squawk_output.specs.Steps.{Token}
use Rattle.squawk_table.proofs.OverTable.{front_there, over_behind}
use Rattle.squawk_table.proofs.lexed_str.LexedStr.tokens_fit.Goals as goal

pub loop-step-preserved-in-Some-one_token : goal.loop-step-preserved-in-Some-one_token
loop-step-preserved-in-Some-one_token c =
    let told = c.in-Some-one_token.ensures in
    let rest = c.next.new.self in
    let next : c.loop-step.step-iterator ≡ Token c.in-Token.kind c.in-Token.n_input_tokens ∷ rest = c.in-Some.ensures.steps ∙ ap (λ s. step_of s ∷ rest) c.in-Token.is in
    let behind = over_behind c.args.self.now rest c.loop-step.raw c.past_trivia.result c.in-Token.kind c.in-Token.n_input_tokens c.past_trivia.ensures.within c.past_trivia.ensures.past
    told.0.0 told.0.1 told.0.2 in
    rw told.1 (record {
      within = told.0.2;
      over = (λ over. behind.0 (rw next at (c.loop-step.invariant.over.0 over)), λ over. c.loop-step.invariant.over.1 (rw next (behind.1 over)));
    })

pub returns-in-None-one_token : goal.returns-in-None-one_token
returns-in-None-one_token c =
    let rest = c.next.new.self in
    let next : c.loop-step.step-iterator ≡ Token c.in-Token.kind c.in-Token.n_input_tokens ∷ rest = c.in-Some.ensures.steps ∙ ap (λ s. step_of s ∷ rest) c.in-Token.is in
    let there = front_there c.args.self.now rest c.loop-step.raw c.past_trivia.result c.in-Token.kind c.in-Token.n_input_tokens c.past_trivia.ensures.within c.past_trivia.ensures.past in
    (λ yes. absurd (false≢true yes), λ over. absurd (c.in-None-one_token.ensures (there (rw next at (c.loop-step.invariant.over.0 over)))))
