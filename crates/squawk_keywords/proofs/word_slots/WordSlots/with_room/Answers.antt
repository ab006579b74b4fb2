use Rattle.squawk_keywords.proofs.WordSlotLemmas.{free-are, probed-free}
use Rattle.squawk_keywords.proofs.word_slots.WordSlots.with_room.Goals as goal

pub invariant_of-result-clause-sound : goal.invariant_of-result-clause-sound
invariant_of-result-clause-sound c = free-are _ _ (c.in_ok-vec.ensures.items_if_clones_equal (λ y same. same)) c.in_ok-with_capacity.ensures.items

pub returns-clause-free : goal.returns-clause-free
returns-clause-free c = λ text. probed-free _ c.in_ok-with_capacity.field-0.items text (c.in_ok-vec.ensures.items_if_clones_equal (λ y same. same))
