-- Slots in which a word more has taken one.
use Rattle.std.proofs.Common.{◌≡◌, ℕ, ◌+◌, ◌-◌, ◌*◌, ◌<◌, ◌≤◌, ◌≢◌, inl, inr, List, [], ◌∷◌, length, get_or, set, Bool, true, false, cond, Option, Some, None, refl, sym, ap, ◌∙◌, subst, arith, length-set, get_or-set_same, get_or-set_other, length-append}
use Rattle.std.specs.Prelude.{slice_get}
use Rattle.std.proofs.lemmas.Bool.{cases_eq}
use Rattle.std.proofs.lemmas.Slice.Eq.{bytes_eq-Decides}
use Rattle.std.specs.Str.{bytes_eq}
use Rattle.squawk_keywords.specs.WordSlots.{AreSlots, IsKept, bucket_of, probed, slot_answer, word_answer}
use Rattle.squawk_keywords.proofs.WordSlotLemmas.{More, pair-first, pair-second, bucket_answer, second-free, slice_get-last, probed-elsewhere, probed-read, slot_answer-same, slot_answer-taken}

-- ---- their answers

-- a word takes the first slot of its bucket
pub probed-first : (slots : List ℕ) (old new : List (List ℕ × ℕ)) (word : List ℕ × ℕ) (slot bucket : ℕ) → AreSlots slots old → IsKept old word slot new
    → bucket ≡ bucket_of word.0 → bucket < 2048 → get_or slots (2 * bucket) 0 ≡ 0
    → (text : List ℕ) (answer : Option ℕ) → probed (set slots (2 * bucket) slot) new text ≡ Some answer → More (probed slots old text) (bytes_eq word.0 text) word.1 answer
probed-first slots old new word slot bucket sound kept is within free text answer answers =
    elim (cases_eq (bucket_of text) bucket) [
      | inl here ↦
          let one : get_or after (2 * bucket_of text) 0 ≡ slot =
          ap (λ n. get_or after (2 * n) 0) here ∙ get_or-set_same slots (2 * bucket) slot 0 (omega (arith, sound.size)) in
          let two : get_or after (2 * bucket_of text + 1) 0 ≡ 0 =
          ap (λ n. get_or after (2 * n + 1) 0) here ∙ get_or-set_other slots (2 * bucket) (2 * bucket + 1) slot 0 (λ e. absurd (omega (arith, e))) ∙ sound.ordered bucket free in
          let before : probed slots old text ≡ bucket_answer old 0 (get_or slots (2 * bucket_of text + 1) 0) text = probed-read slots old text 0 _ (ap (λ n. get_or slots (2 * n) 0) here ∙ free) refl in
          subst (λ earlier. More earlier (bytes_eq word.0 text) word.1 answer) (sym before)
          (pair-first old new word slot (get_or slots (2 * bucket_of text + 1) 0) text answer sound.few kept (sym (probed-read after new text slot 0 one two) ∙ answers))
      | inr away ↦
          probed-elsewhere slots after old new word slot sound kept text answer (λ e. away (e ∙ sym is))
          (get_or-set_other slots (2 * bucket) (2 * bucket_of text) slot 0 (λ e. away (omega (arith, e))))
          (get_or-set_other slots (2 * bucket) (2 * bucket_of text + 1) slot 0 (λ e. absurd (omega (arith, e))))
          answers
    ]
  where
    after : List ℕ
    after = set slots (2 * bucket) slot

-- a word takes the second slot of its bucket
pub probed-second : (slots : List ℕ) (old new : List (List ℕ × ℕ)) (word : List ℕ × ℕ) (slot bucket : ℕ) → AreSlots slots old → IsKept old word slot new
    → bucket ≡ bucket_of word.0 → bucket < 2048 → (get_or slots (2 * bucket) 0 ≡ 0 → ⊥) → probed slots old word.0 ≡ Some None
    → (text : List ℕ) (answer : Option ℕ) → probed (set slots (2 * bucket + 1) slot) new text ≡ Some answer → More (probed slots old text) (bytes_eq word.0 text) word.1 answer
probed-second slots old new word slot bucket sound kept is within taken none text answer answers =
    elim (cases_eq (bucket_of text) bucket) [
      | inl here ↦
          let one : get_or after (2 * bucket_of text) 0 ≡ get_or slots (2 * bucket) 0 =
          ap (λ n. get_or after (2 * n) 0) here ∙ get_or-set_other slots (2 * bucket + 1) (2 * bucket) slot 0 (λ e. absurd (omega (arith, e))) in
          let two : get_or after (2 * bucket_of text + 1) 0 ≡ slot =
          ap (λ n. get_or after (2 * n + 1) 0) here ∙ get_or-set_same slots (2 * bucket + 1) slot 0 (omega (arith, sound.size)) in
          let of_word : probed slots old word.0 ≡ bucket_answer old (get_or slots (2 * bucket) 0) (get_or slots (2 * bucket + 1) 0) word.0 =
          probed-read slots old word.0 _ _ (ap (λ n. get_or slots (2 * n) 0) (sym is)) (ap (λ n. get_or slots (2 * n + 1) 0) (sym is)) in
          let free : get_or slots (2 * bucket + 1) 0 ≡ 0 = second-free old (get_or slots (2 * bucket) 0) (get_or slots (2 * bucket + 1) 0) word.0 taken (sym of_word ∙ none) in
          let before : probed slots old text ≡ bucket_answer old (get_or slots (2 * bucket) 0) (get_or slots (2 * bucket + 1) 0) text =
          probed-read slots old text _ _ (ap (λ n. get_or slots (2 * n) 0) here) (ap (λ n. get_or slots (2 * n + 1) 0) here) in
          subst (λ earlier. More earlier (bytes_eq word.0 text) word.1 answer) (sym before)
          (pair-second old new word slot _ _ text answer sound.few kept taken (sound.known (2 * bucket)) free (sym (probed-read after new text _ slot one two) ∙ answers))
      | inr away ↦
          probed-elsewhere slots after old new word slot sound kept text answer (λ e. away (e ∙ sym is))
          (get_or-set_other slots (2 * bucket + 1) (2 * bucket_of text) slot 0 (λ e. absurd (omega (arith, e))))
          (get_or-set_other slots (2 * bucket + 1) (2 * bucket_of text + 1) slot 0 (λ e. away (omega (arith, e))))
          answers
    ]
  where
    after : List ℕ
    after = set slots (2 * bucket + 1) slot

-- ---- slots with a word more

kept-taken : (old new : List (List ℕ × ℕ)) (word : List ℕ × ℕ) (slot : ℕ) → IsKept old word slot new → slot ≢ 0
kept-taken old new word slot (inl kept) e = absurd (omega (arith, kept.1, e))
kept-taken old new word slot (inr none) e = absurd (omega (arith, none.0, e))

kept-few : (old new : List (List ℕ × ℕ)) (word : List ℕ × ℕ) (slot : ℕ) → IsKept old word slot new → length old ≤ 2048 → length new ≤ 2048
kept-few old new word slot (inl kept) few = omega (arith, kept.0, ap length kept.2 ∙ length-append old (word ∷ []))
kept-few old new word slot (inr none) few = omega (arith, ap length none.1, few)

kept-more : (old new : List (List ℕ × ℕ)) (word : List ℕ × ℕ) (slot : ℕ) → IsKept old word slot new → length old ≤ length new
kept-more old new word slot (inl kept) = omega (arith, ap length kept.2 ∙ length-append old (word ∷ []))
kept-more old new word slot (inr none) = omega (arith, ap length none.1)

kept-known : (old new : List (List ℕ × ℕ)) (word : List ℕ × ℕ) (slot : ℕ) → IsKept old word slot new → slot < 65535 → slot ≤ length new
kept-known old new word slot (inl kept) lt = omega (arith, kept.1, ap length kept.2 ∙ length-append old (word ∷ []))
kept-known old new word slot (inr none) lt = absurd (omega (arith, none.0, lt))

module _ (slots : List ℕ) (old new : List (List ℕ × ℕ)) (word : List ℕ × ℕ) (slot bucket : ℕ) (sound : AreSlots slots old) (kept : IsKept old word slot new) (within : bucket < 2048) where
  known-at : (at : ℕ) → at < 4096 → (i : ℕ) → get_or (set slots at slot) i 0 < 65535 → get_or (set slots at slot) i 0 ≤ length new
  known-at at few i lt =
      elim (cases_eq i at) [
        | inl here ↦
            let is : get_or (set slots at slot) i 0 ≡ slot = ap (λ n. get_or (set slots at slot) n 0) here ∙ get_or-set_same slots at slot 0 (omega (arith, sound.size)) in
            let known : slot ≤ length new = kept-known old new word slot kept (omega (arith, is, lt)) in
            omega (arith, is, known)
        | inr away ↦
            let is : get_or (set slots at slot) i 0 ≡ get_or slots i 0 = get_or-set_other slots at i slot 0 away in
            let more : length old ≤ length new = kept-more old new word slot kept in
            let known : get_or slots i 0 ≤ length old = sound.known i (omega (arith, is, lt)) in
            omega (arith, is, known, more)
      ]

  pub slots-first : AreSlots (set slots (2 * bucket) slot) new
  slots-first = record {
    size = length-set slots (2 * bucket) slot ∙ sound.size;
    few = kept-few old new word slot kept sound.few;
    known = known-at (2 * bucket) (omega (arith, within));
    ordered = λ p free.
        elim (cases_eq p bucket) [
          | inl here ↦
              let is : get_or (set slots (2 * bucket) slot) (2 * p) 0 ≡ slot = ap (λ n. get_or (set slots (2 * bucket) slot) (2 * n) 0) here ∙ get_or-set_same slots (2 * bucket) slot 0 (omega (arith, sound.size, within)) in
              absurd (kept-taken old new word slot kept (sym is ∙ free))
          | inr away ↦
              get_or-set_other slots (2 * bucket) (2 * p + 1) slot 0 (λ e. absurd (omega (arith, e)))
              ∙ sound.ordered p (sym (get_or-set_other slots (2 * bucket) (2 * p) slot 0 (λ e. away (omega (arith, e)))) ∙ free)
        ];
  }

  pub slots-second : (get_or slots (2 * bucket) 0 ≡ 0 → ⊥) → AreSlots (set slots (2 * bucket + 1) slot) new
  slots-second taken = record {
    size = length-set slots (2 * bucket + 1) slot ∙ sound.size;
    few = kept-few old new word slot kept sound.few;
    known = known-at (2 * bucket + 1) (omega (arith, within));
    ordered = λ p free.
        let first : get_or slots (2 * p) 0 ≡ 0 = sym (get_or-set_other slots (2 * bucket + 1) (2 * p) slot 0 (λ e. absurd (omega (arith, e)))) ∙ free in
        elim (cases_eq p bucket) [
          | inl here ↦ absurd (taken (ap (λ n. get_or slots (2 * n) 0) (sym here) ∙ first))
          | inr away ↦ get_or-set_other slots (2 * bucket + 1) (2 * p + 1) slot 0 (λ e. away (omega (arith, e))) ∙ sound.ordered p first
        ];
  }

-- ---- a word that is kept is found

-- its slot has it
kept-word : (old new : List (List ℕ × ℕ)) (word : List ℕ × ℕ) (slot : ℕ) → IsKept old word slot new → length old ≤ 2048 → slot ≡ length old + 1 → slice_get new (slot - 1) ≡ Some word
kept-word old new word slot (inl kept) few is =
    let at : slot - 1 ≡ length old = omega arith in
    rw (at, kept.2) (slice_get-last old word)
kept-word old new word slot (inr none) few is = absurd (omega (arith, none.0, few, is))

-- and its answer is the word's kind
slot_answer-word : (old new : List (List ℕ × ℕ)) (word : List ℕ × ℕ) (slot : ℕ) (rest : Option (Option ℕ)) → IsKept old word slot new → length old ≤ 2048 → slot ≡ length old + 1
    → slot_answer new slot word.0 rest ≡ Some (Some word.1)
slot_answer-word old new word slot rest kept few is =
    slot_answer-taken new slot word.0 rest (λ e. absurd (omega (arith, e, is)))
    ∙ ap (λ one. word_answer one word.0 rest) (kept-word old new word slot kept few is)
    ∙ ap (λ same. cond same (Some (Some word.1)) rest) ((bytes_eq-Decides word.0 word.0).1 refl)

module _ (slots : List ℕ) (old new : List (List ℕ × ℕ)) (word : List ℕ × ℕ) (slot bucket : ℕ) (sound : AreSlots slots old) (kept : IsKept old word slot new)
    (at : bucket ≡ bucket_of word.0) (within : bucket < 2048) (is : slot ≡ length old + 1) where
  pub probed-kept-first : probed (set slots (2 * bucket) slot) new word.0 ≡ Some (Some word.1)
  probed-kept-first =
      probed-read (set slots (2 * bucket) slot) new word.0 slot _
      (ap (λ n. get_or (set slots (2 * bucket) slot) (2 * n) 0) (sym at) ∙ get_or-set_same slots (2 * bucket) slot 0 (omega (arith, sound.size, within))) refl
      ∙ slot_answer-word old new word slot _ kept sound.few is

  -- for a word that is none so far the first slot has no answer
  passes : (one : Option (List ℕ × ℕ)) (before after : Option (Option ℕ)) → word_answer one word.0 before ≡ Some None → word_answer one word.0 after ≡ after
  passes None before after answers = absurd (cc)
  passes (Some w) before after answers = by_test (bytes_eq w.0 word.0) answers
    where
      by_test : (same : Bool) → cond same (Some (Some w.1)) before ≡ Some None → cond same (Some (Some w.1)) after ≡ after
      by_test true e = absurd (cc)
      by_test false e = refl

  pub probed-kept-second : (get_or slots (2 * bucket) 0 ≡ 0 → ⊥) → probed slots old word.0 ≡ Some None → probed (set slots (2 * bucket + 1) slot) new word.0 ≡ Some (Some word.1)
  probed-kept-second taken none =
      let first = get_or slots (2 * bucket) 0 in
      let rest = slot_answer new slot word.0 None in
      let second = get_or slots (2 * bucket + 1) 0 in
      let before : bucket_answer old first second word.0 ≡ Some None =
      sym (probed-read slots old word.0 first second (ap (λ n. get_or slots (2 * n) 0) (sym at)) (ap (λ n. get_or slots (2 * n + 1) 0) (sym at))) ∙ none in
      probed-read (set slots (2 * bucket + 1) slot) new word.0 first slot
      (ap (λ n. get_or (set slots (2 * bucket + 1) slot) (2 * n) 0) (sym at) ∙ get_or-set_other slots (2 * bucket + 1) (2 * bucket) slot 0 (λ e. absurd (omega (arith, e))))
      (ap (λ n. get_or (set slots (2 * bucket + 1) slot) (2 * n + 1) 0) (sym at) ∙ get_or-set_same slots (2 * bucket + 1) slot 0 (omega (arith, sound.size, within)))
      ∙ slot_answer-same old new word slot first word.0 rest sound.few kept (sound.known (2 * bucket))
      ∙ slot_answer-taken old first word.0 rest taken
      ∙ passes (slice_get old (first - 1)) (slot_answer old second word.0 None) rest (sym (slot_answer-taken old first word.0 _ taken) ∙ before)
      ∙ slot_answer-word old new word slot None kept sound.few is
