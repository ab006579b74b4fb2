use Rattle.std.proofs.Common.{◌≡◌, ◌∙◌, ◌↔◌, inl, inr, ℕ, Bool, true, false, IsTrue, ap, arith, length, refl}
use Rattle.squawk_table.specs.Sent.{sent_list, texts_of}
use Rattle.std.specs.Str.{chars}
use Rattle.caliperdock_c.specs.Errors.{all_errors}
use Rattle.caliperdock_c.specs.Overlays.{over}
use Rattle.caliperdock_c.specs.Sent.{IsTold}
use Rattle.caliperdock_c.proofs.ErrorLists.{length-numbered_errors}
use Rattle.caliperdock_c.proofs.sent.send.Goals as goal
use mir.Val.{bool_byte}

told : (all : Bool) (n : ℕ) (Holds : Type 0) → n ≡ bool_byte all → (IsTrue all ↔ Holds) → IsTold n Holds
told true n Holds is iff = inl (is, iff.0 refl)
told false n Holds is iff = inr (is, λ holds. let e = iff.1 holds in cc)

pub returns-clause-written : goal.returns-clause-written
returns-clause-written c =
    let table = c.args.table.now in
    let sent = sent_list table c.args.output.now.steps in
    let list = c.in_ok-list.ensures in
    record {
      steps_are = c.write_steps-written.ensures.steps;
      errors_are = c.write_over.ensures ∙ ap (λ es. over es c.args.errors.now) (c.deref.ensures.value ∙ list.numbers);
      texts_are = c.write_over-2.ensures ∙ ap (λ ts. over ts c.args.texts.now) (c.deref-2.ensures.value ∙ list.texts);
      step_count = c.write_steps-written.ensures.count;
      step_error_count = list.of_steps;
      error_count = omega (arith, c.len.ensures, ap length list.numbers, length-numbered_errors 0 (all_errors sent table.errors));
      text_count = omega (arith, c.len-2.ensures, ap length list.texts);
      whole = told c.write_steps-written.result.all c.from.result (texts_of sent ≡ chars table.text) c.from.ensures c.write_steps-written.ensures.all;
    }
