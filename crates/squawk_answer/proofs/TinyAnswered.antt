-- What a parse by the small grammar answers.
use Rattle.std.proofs.Common.{◌≡◌, ◌≢◌, ◌∙◌, ℕ, ◌+◌, ◌≤◌, Bool, Some, None, Ok, Err, List, [], ◌∷◌, length, map, arith, ap, refl, sym, subst, inl, inr}
use Rattle.std.specs.Prelude.{◌⊎◌, MatchResult, Result}
use Rattle.std.proofs.lemmas.List.{length-map, map-append}
use Rattle.squawk_document.specs.DocumentGrammars.{GrammarContent, by_tiny}
use Rattle.squawk_table.specs.ParserInput.{Entry}
use Rattle.squawk_table.specs.RawTable.{Table}
use Rattle.squawk_output.specs.Steps.{Step, Walk, errors_in, is_error}
use Rattle.squawk_output.proofs.Sums.{count_by-cons}
use Rattle.squawk_parser.specs.Parse.{IsParse, IsRefusalOf, IsRefused}
use Rattle.squawk_parser.specs.Recorded.{IsRefusedStep}
use Rattle.squawk_parser.specs.State.{IsReason, fresh}
use Rattle.squawk_parser.specs.Words.{Words}
use Rattle.squawk_parser.specs.declared.parser.parse_error.ParseError.{ParseError}
use Rattle.squawk_parser.specs.declared.parser.parse_error.ParseError.TheVariants as parse
use Rattle.squawk_script.specs.Events.{errors_among, refusal}
use Rattle.squawk_script.proofs.Laws.{none-refused, refused-first}
use Rattle.tiny_grammar.specs.Expressions.{FailsTiny, IsTiny, tiny_in_order, tiny_steps}
use Rattle.tiny_grammar.proofs.InOrder.{tiny-errors}
use Rattle.squawk_answer.specs.Answers.{ParseReturns, refusal_by}
use Rattle.squawk_answer.specs.declared.fault.Fault.{Fault}

-- the errors among steps
errors_among-steps : (steps : List Step) → errors_among (map is_error steps) ≡ errors_in steps
errors_among-steps [] = refl
errors_among-steps (step ∷ steps) =
    omega (arith, errors_among-steps steps, count_by-cons (λ event. event) (is_error step) (map is_error steps), count_by-cons is_error step steps)

-- a step that a fresh parser is refused is the first of the recorded events that finds no room
refused-first-step : (input : List Entry) (words : Words) (events errors : ℕ) (steps : List Step) (reason : ParseError) → reason ≢ parse.OutOfMemory
    → IsRefusedStep (fresh input words events errors) steps reason → refusal events errors (map is_error steps) ≡ Some reason
refused-first-step input words events errors steps reason limit step =
    let front : List Bool = map is_error step.front in
    let few : 0 + length step.front ≡ length front = omega (arith, length-map step.front is_error) in
    let wrong : 0 + errors_in step.front ≡ errors_among front = omega (arith, errors_among-steps step.front) in
    refused-first events errors (map is_error steps) reason (record {
      front = front;
      next = is_error step.next;
      rest = map is_error step.rest;
      is = ap (map is_error) step.is ∙ map-append is_error step.front (step.next ∷ step.rest);
      why = subst (λ n. IsReason events errors n (errors_among front) (is_error step.next) reason) few
          (subst (λ n. IsReason events errors (0 + length step.front) n (is_error step.next) reason) wrong step.why);
      limit = limit;
    })

module _ (words : Words) (input : List Entry) where
  pub refusal-tiny : (own : Words) (reason : ParseError)
      → (reason ≡ parse.OutOfMemory) ⊎ IsRefused FailsTiny (fresh input own 4294967295 2147483648) reason
      → reason ≢ parse.OutOfMemory → refusal_by by_tiny words input ≡ Some reason
  refusal-tiny own reason (inl memory) other = absurd (other memory)
  refusal-tiny own reason (inr refused) other = cases refused.refusal
    where
      cases : IsRefusalOf refused.left reason → refusal_by by_tiny words input ≡ Some reason
      cases (inl first) =
          refused-first-step input own 4294967295 2147483648 (tiny_in_order input) reason other (refused.ran reason first)
      cases (inr memory) = absurd (other memory.1)

  module _ (output : Walk) (parse : IsParse (IsTiny input) input output) where
    pub steps-tiny : output.steps ≡ tiny_steps input
    steps-tiny = parse.steps ∙ parse.left.items

    pub none-tiny : (output.recorded ≤ 4294967295) × (errors_in output.steps ≤ 2147483648) → refusal_by by_tiny words input ≡ None
    none-tiny within =
        let events = tiny_in_order input in
        none-refused 4294967295 2147483648 (map is_error events) (
          omega (arith, within.0, parse.recorded, parse.left.recorded, length-map events is_error),
          omega (arith, within.1, ap errors_in steps-tiny, errors_among-steps events, tiny-errors input),
        )

-- what is known of the small grammar, whose steps no words change, is known of a grammar that is it
pub tiny-returned : {X : Type 0} (result : Result X Fault) (steps : X → List Step) (grammar : GrammarContent) (input : List Entry) (t : Table) → grammar ≡ by_tiny
    → MatchResult result (λ x. (words : Words) → ParseReturns by_tiny words input t (Ok (steps x))) (λ fault. (words : Words) → ParseReturns by_tiny words input t (Err fault))
    → (words : Words) → MatchResult result (λ x. ParseReturns grammar words input t (Ok (steps x))) (λ fault. ParseReturns grammar words input t (Err fault))
tiny-returned (Ok x) steps grammar input t is known words = subst (λ g. ParseReturns g words input t (Ok (steps x))) (sym is) (known words)
tiny-returned (Err fault) steps grammar input t is known words = subst (λ g. ParseReturns g words input t (Err fault)) (sym is) (known words)
