use Rattle.std.proofs.Common.{◌-◌, ◌∙◌, Some, ap, arith, sym}
use Rattle.squawk_keywords.specs.LetterCase.{compared}
use Rattle.squawk_keywords.specs.WordSlots.{bucket_at}
use Rattle.squawk_keywords.proofs.ComparedLemmas.{bytes-compared, length-compared}
use Rattle.squawk_keywords.proofs.WordSlotLemmas.{answers-first, answers-none, answers-second}
use Rattle.squawk_keywords.proofs.word_slots.WordSlots.probe.Goals as goal

pub returns-then-first-is : goal.returns-then-first-is
returns-then-first-is c =
    let text = compared c.args.ignores_case c.args.text.now in
    let bytes = bytes-compared c.args.ignores_case c.args.text.now (λ i. omega (arith, c.type_inv.text i)) in
    let at = c.in-Some.ensures.lookup.3 in
    ap (λ kind. Some (Some kind)) c.kind.ensures
    ∙ answers-first c.args.self.now.slots.items c.args.self.now.words.items text c.bucket-at.result c.index-first.result.now c.index-second.result.now c.args.self.now.sound
    (c.bucket-at.ensures.bucket ∙ ap bucket_at c.key-key.ensures) c.bucket-at.ensures.within c.index-first.ensures c.index-second.ensures c.in-Some.word.now c.is.result
    (c.is.ensures text bytes c.key-key.ensures (sym (length-compared c.args.ignores_case c.args.text.now)))
    c.deref.result.now c.deref.ensures.value c.saturating_sub.result (c.saturating_sub.ensures ∙ ap (λ n. n - 1) c.from.ensures) at.0 at.1 c.if-first-is.true

pub returns-then-first-second : goal.returns-then-first-second
returns-then-first-second c =
    let text = compared c.args.ignores_case c.args.text.now in
    let bytes = bytes-compared c.args.ignores_case c.args.text.now (λ i. omega (arith, c.type_inv.text i)) in
    let at = c.in-Some.ensures.lookup.3 in
    answers-none c.args.self.now.slots.items c.args.self.now.words.items text c.bucket-at.result c.index-first.result.now c.index-second.result.now c.args.self.now.sound
    (c.bucket-at.ensures.bucket ∙ ap bucket_at c.key-key.ensures) c.bucket-at.ensures.within c.index-first.ensures c.index-second.ensures c.in-Some.word.now c.is.result
    (c.is.ensures text bytes c.key-key.ensures (sym (length-compared c.args.ignores_case c.args.text.now)))
    c.deref.result.now c.deref.ensures.value c.saturating_sub.result (c.saturating_sub.ensures ∙ ap (λ n. n - 1) c.from.ensures) at.0 at.1 c.if-first-is.false c.if-first-second.true

pub returns : goal.returns
returns c =
    let text = compared c.args.ignores_case c.args.text.now in
    let bytes = bytes-compared c.args.ignores_case c.args.text.now (λ i. omega (arith, c.type_inv.text i)) in
    let at = c.in-Some.ensures.lookup.3 in
    c.probe_second.ensures text bytes c.key-key.ensures (sym (length-compared c.args.ignores_case c.args.text.now))
    ∙ answers-second c.args.self.now.slots.items c.args.self.now.words.items text c.bucket-at.result c.index-first.result.now c.index-second.result.now c.args.self.now.sound
    (c.bucket-at.ensures.bucket ∙ ap bucket_at c.key-key.ensures) c.bucket-at.ensures.within c.index-first.ensures c.index-second.ensures c.in-Some.word.now c.is.result
    (c.is.ensures text bytes c.key-key.ensures (sym (length-compared c.args.ignores_case c.args.text.now)))
    c.deref.result.now c.deref.ensures.value c.saturating_sub.result (c.saturating_sub.ensures ∙ ap (λ n. n - 1) c.from.ensures) at.0 at.1 c.if-first-is.false c.if-first-second.false
