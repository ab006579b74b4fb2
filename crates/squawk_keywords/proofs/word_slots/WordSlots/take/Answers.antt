use Rattle.std.proofs.Common.{◌∙◌, ◌*◌, ap, arith, get_or, sym}
use Rattle.std.proofs.lemmas.List.{get_or_default}
use Rattle.squawk_keywords.specs.WordSlots.{bucket_at}
use Rattle.squawk_keywords.proofs.TakenSlotLemmas.{slots-first, slots-second, probed-first, probed-kept-first, probed-kept-second, probed-second}
use Rattle.squawk_keywords.proofs.word_slots.WordSlots.take.Goals as goal

pub invariant_of-self-clause-sound : goal.invariant_of-self-clause-sound
invariant_of-self-clause-sound c = slots-first _ _ _ _ _ c.bucket-at.result c.args.self.now.sound c.keep-slot.ensures.kept c.bucket-at.ensures.within

pub invariant_of-self-else-index-eq0-clause-sound : goal.invariant_of-self-else-index-eq0-clause-sound
invariant_of-self-else-index-eq0-clause-sound c =
    slots-second _ _ _ _ _ c.bucket-at.result c.args.self.now.sound c.keep-slot.ensures.kept c.bucket-at.ensures.within
    (λ free. c.if-index-eq0.false (c.index.ensures ∙ get_or_default c.args.self.now.slots.items (2 * c.bucket-at.result) c.index.result.now 0 (omega (arith, c.args.self.now.sound.size, c.bucket-at.ensures.within)) ∙ free))

pub returns-then-index-eq0-clause-answers : goal.returns-then-index-eq0-clause-answers
returns-then-index-eq0-clause-answers c =
    probed-first c.args.self.now.slots.items c.args.self.now.words.items c.keep-slot.new.words.items _ c.keep-slot.result c.bucket-at.result
    c.args.self.now.sound c.keep-slot.ensures.kept (c.bucket-at.ensures.bucket ∙ ap bucket_at c.key.ensures) c.bucket-at.ensures.within
    (ap (get_or c.args.self.now.slots.items (2 * c.bucket-at.result)) (sym c.if-index-eq0.true) ∙ sym c.index.ensures ∙ c.if-index-eq0.true)

pub returns-else-index-eq0-clause-answers : goal.returns-else-index-eq0-clause-answers
returns-else-index-eq0-clause-answers c =
    probed-second c.args.self.now.slots.items c.args.self.now.words.items c.keep-slot.new.words.items _ c.keep-slot.result c.bucket-at.result
    c.args.self.now.sound c.keep-slot.ensures.kept (c.bucket-at.ensures.bucket ∙ ap bucket_at c.key.ensures) c.bucket-at.ensures.within
    (λ free. c.if-index-eq0.false (c.index.ensures ∙ get_or_default c.args.self.now.slots.items (2 * c.bucket-at.result) c.index.result.now 0 (omega (arith, c.args.self.now.sound.size, c.bucket-at.ensures.within)) ∙ free)) c.requires

pub returns-then-index-eq0-clause-answers_word : goal.returns-then-index-eq0-clause-answers_word
returns-then-index-eq0-clause-answers_word c = λ room short.
    probed-kept-first c.args.self.now.slots.items c.args.self.now.words.items c.keep-slot.new.words.items _ c.keep-slot.result c.bucket-at.result
    c.args.self.now.sound c.keep-slot.ensures.kept (c.bucket-at.ensures.bucket ∙ ap bucket_at c.key.ensures) c.bucket-at.ensures.within (c.keep-slot.ensures.short_is room short)

pub returns-else-index-eq0-clause-answers_word : goal.returns-else-index-eq0-clause-answers_word
returns-else-index-eq0-clause-answers_word c = λ room short.
    probed-kept-second c.args.self.now.slots.items c.args.self.now.words.items c.keep-slot.new.words.items _ c.keep-slot.result c.bucket-at.result
    c.args.self.now.sound c.keep-slot.ensures.kept (c.bucket-at.ensures.bucket ∙ ap bucket_at c.key.ensures) c.bucket-at.ensures.within (c.keep-slot.ensures.short_is room short)
    (λ free. c.if-index-eq0.false (c.index.ensures ∙ get_or_default c.args.self.now.slots.items (2 * c.bucket-at.result) c.index.result.now 0 (omega (arith, c.args.self.now.sound.size, c.bucket-at.ensures.within)) ∙ free)) c.requires
