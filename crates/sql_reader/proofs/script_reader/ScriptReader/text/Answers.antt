use Rattle.std.proofs.Common.{◌≡◌, ◌∙◌, ◌⊎◌, inl, inr, ⊎_elim, ◌+◌, ◌-◌, ◌^◌, ◌<◌, min, ◌≤◌, [], ◌++◌, length, ap, arith, refl, subst, sym, length-append, take-append-drop}
use Rattle.std.specs.Str.{IsValidUpTo}
use Rattle.sql_reader.specs.Readers.{IsNext, IsTextOf, NoCharBegins}
use Rattle.sql_reader.specs.Windows.{kept, unread}
use Rattle.sql_reader.specs.declared.script_reader.Input.TheVariants.{Ended}
use Rattle.sql_reader.specs.declared.script_text.ScriptText.{ScriptText}
use Rattle.sql_reader.proofs.Faults.{no_char}
use Rattle.sql_reader.proofs.script_reader.ScriptReader.text.Goals as goal

pub returns : goal.returns
returns g c =
    let me = c.self.inside in
    let text = c.valid_front-text.result.now in
    let front = c.valid_front-text.ensures.front in
    let left = front.0 in
    let bytes : c.unread-unread.result.now ≡ unread me.window = c.unread-unread.ensures in
    let whole : unread me.window ≡ text ++ left = sym bytes ∙ front.1 in
    let size : length left ≡ length c.unread-unread.result.now - length text = omega (arith, ap length front.1, length-append text left) in
    let none_begins : 0 < length c.unread-unread.result.now - length text → (me.input ≡ Ended) ⊎ (4 ≤ length c.unread-unread.result.now - length text) → NoCharBegins me.input left =
    λ some enough. (
      omega (arith, some, size),
      λ more ends.
          ⊎_elim (λ (none : left ≡ []). absurd (omega (arith, some, size, ap length none)))
          (λ (valid : IsValidUpTo c.unread-unread.result.now (length text)).
          no_char text left more c.valid_front-text.utf8 (subst (λ xs. IsValidUpTo xs (length text)) front.1 valid)
          (⊎_elim (λ (ended : me.input ≡ Ended). inl (ends ended)) (λ (four : 4 ≤ length c.unread-unread.result.now - length text). inr (omega (arith, four, size))) enough))
          front.2,
    ) in
    let at : c.saturating_add-at.result ≡ min (me.passed + length (kept me.window) + length text) (2 ^ 64 - 1) = omega (arith, c.saturating_add-at.ensures, c.saturating_add.ensures, c.start-start.ensures) in
    let gives : ScriptText = record { text = c.valid_front-text.result; place = me.place; next = c.next.result; window = c.bytes.result; start = c.start-start.result; passed = me.passed } in
    subst (λ script. IsTextOf script gives) c.self.view_is
    (record {
      left = left;
      unread = whole;
      longest = subst (λ xs. (left ≡ []) ⊎ IsValidUpTo xs (length text)) bytes front.2;
      place = refl;
      window = c.bytes.ensures ∙ sym (take-append-drop me.window.start me.window.bytes.items);
      start = c.start-start.ensures;
      passed = refl;
      next = subst (λ n. IsNext me.input n left c.next.result) at (c.next.ensures left size none_begins);
    })
