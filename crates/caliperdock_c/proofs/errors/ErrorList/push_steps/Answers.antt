use Rattle.std.proofs.Common.{◌∙◌, ◌∷◌, ◌++◌, ap, length, refl, sym}
use Rattle.std.specs.List.{flat_map}
use Rattle.squawk_tokens.specs.LexicalErrors.{LexicalError, error_at}
use Rattle.squawk_table.specs.SinkViews.{owned_step_of}
use Rattle.caliperdock_c.specs.Errors.{error_in, error_texts, numbered_errors}
use Rattle.caliperdock_c.proofs.ErrorLists.{pushed_numbers, pushed_texts}
use Rattle.caliperdock_c.proofs.errors.ErrorList.push_steps.Goals as goal

pub loop-step-preserved-in-Continue-1 : goal.loop-step-preserved-in-Continue-1
loop-step-preserved-in-Continue-1 c =
    let inv = c.loop-step.invariant in
    let old = c.loop-step.self in
    let new = c.push.new.self in
    let rest = c.next.new.self.steps in
    let pos = c.in-Error.pos in
    let gives = c.in-Some.ensures.steps.0 ∙ ap (λ s. owned_step_of s ∷ rest) c.in-Error.is in
    let e : LexicalError = error_at pos pos c.in-Error.msg.now in
    let errors = ap (flat_map error_in) gives ∙ ap (λ m. error_at pos pos m ∷ flat_map error_in rest) c.in_ok-push.ensures.utf8 in
    let numbers = c.in_ok-push.ensures.numbers e refl in
    let texts = c.in_ok-push.ensures.texts e refl in
    record {
      low = (rw gives at inv.low).1;
      numbers =
          pushed_numbers old.numbers.items new.numbers.items old.texts.items new.texts.items e (flat_map error_in rest) numbers texts
          ∙ (ap (λ es. old.numbers.items ++ numbered_errors (length old.texts.items) es) (sym errors) ∙ inv.numbers);
      texts =
          pushed_texts old.numbers.items new.numbers.items old.texts.items new.texts.items e (flat_map error_in rest) numbers texts
          ∙ (ap (λ es. old.texts.items ++ error_texts es) (sym errors) ∙ inv.texts);
    }
