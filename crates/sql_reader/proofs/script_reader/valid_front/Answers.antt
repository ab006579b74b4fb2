use Rattle.std.proofs.Common.{◌≡◌, ◌∙◌, ◌++◌, length, drop, take, inr, arith, ap, sym, subst, length-take, take-append-drop}
use Rattle.std.specs.Str.{IsValidUpTo}
use Rattle.sql_reader.proofs.script_reader.valid_front.Goals as goal

pub returns-in-Ok-from_utf8 : goal.returns-in-Ok-from_utf8
returns-in-Ok-from_utf8 c =
    let bytes = c.args.bytes.now in
    let n = c.valid_up_to.result in
    let valid : IsValidUpTo bytes n = subst (IsValidUpTo bytes) (sym c.valid_up_to.ensures) c.in-Err.ensures.cases.1 in
    let text : c.in-Ok-from_utf8.text.now ≡ take n bytes = c.in-Ok-from_utf8.ensures.cases.0 ∙ ap (λ m. take m bytes) (omega arith) in
    let size : n ≡ length c.in-Ok-from_utf8.text.now = omega (arith, ap length text, length-take n bytes, valid.short) in
    record {
      front = (drop n bytes, sym (take-append-drop n bytes) ∙ ap (λ xs. xs ++ drop n bytes) (sym text), inr (subst (IsValidUpTo bytes) size valid));
    }
