-- The answers of slots for texts, and with a word more.
use Rattle.std.proofs.Common.{◌≡◌, ℕ, ◌+◌, ◌-◌, ◌*◌, ◌<◌, ◌≤◌, ◌≢◌, ◌⊎◌, inl, inr, List, [], ◌∷◌, ◌++◌, suc, zero, length, get_or, replicate, Bool, true, false, cond, Option, Some, None, refl, sym, ap, ◌∙◌, arith, eq-eqb, ne_eqb, not, ◌==◌, ◌&&◌, length-append}
use Rattle.std.proofs.lemmas.Bool.{cases_eq, cases_lt, cases_Bool, eqb-true}
use Rattle.std.proofs.lemmas.Slice.Eq.{bytes_eq-Decides}
use Rattle.std.specs.Option.{option_or}
use Rattle.std.specs.Prelude.{slice_get, ◌||◌}
use Rattle.std.proofs.lemmas.List.{get_or_default, length-replicate}
use Rattle.std.proofs.lemmas.Option.{slice_get_past}
use Rattle.std.specs.Str.{bytes_eq}
use Rattle.squawk_keywords.specs.WordSlots.{AreSlots, IsKept, bucket_of, probed, slot_answer, word_answer}
use Rattle.squawk_keywords.proofs.KeywordPairLemmas.{or_none, slice_get-at}

-- ---- no slot is taken

zeros : (n i : ℕ) → ◌≡◌ {A = ℕ} (get_or (replicate n 0) i 0) 0
zeros zero i = refl
zeros (suc n) zero = refl
zeros (suc n) (suc i) = zeros n i

-- a slot that is free says that a text is no word
slot_answer-free : (words : List (List ℕ × ℕ)) (slot : ℕ) (text : List ℕ) (rest : Option (Option ℕ)) → slot ≡ 0 → slot_answer words slot text rest ≡ Some None
slot_answer-free words slot text rest free = rw free refl

pub probed-free : (slots : List ℕ) (words : List (List ℕ × ℕ)) (text : List ℕ) → slots ≡ replicate 4096 0 → probed slots words text ≡ Some None
probed-free slots words text free = slot_answer-free words _ text _ (ap (λ all. get_or all (2 * bucket_of text) 0) free ∙ zeros 4096 (2 * bucket_of text))

pub free-are : (slots : List ℕ) (words : List (List ℕ × ℕ)) → slots ≡ replicate 4096 0 → words ≡ [] → AreSlots slots words
free-are slots words free none = record {
  size = ap length free ∙ length-replicate {A = ℕ} 4096 0;
  few = rw none (omega arith);
  known = λ i lt. rw (free, zeros 4096 i) (omega arith);
  ordered = λ bucket _. rw free (zeros 4096 (2 * bucket + 1));
}

-- ---- a word more

-- a slot that is taken answers as its word does
pub slot_answer-taken : (words : List (List ℕ × ℕ)) (slot : ℕ) (text : List ℕ) (rest : Option (Option ℕ)) → slot ≢ 0 → slot_answer words slot text rest ≡ word_answer (slice_get words (slot - 1)) text rest
slot_answer-taken words slot text rest taken = rw (ne_eqb slot 0 taken) refl

slice_get-front : (xs ys : List (List ℕ × ℕ)) (i : ℕ) → i < length xs → slice_get (xs ++ ys) i ≡ slice_get xs i
slice_get-front [] ys i lt = absurd (omega arith)
slice_get-front (x ∷ xs) ys zero lt = refl
slice_get-front (x ∷ xs) ys (suc i) lt = slice_get-front xs ys i (omega arith)

pub slice_get-last : (xs : List (List ℕ × ℕ)) (x : List ℕ × ℕ) → slice_get (xs ++ x ∷ []) (length xs) ≡ Some x
slice_get-last [] x = refl
slice_get-last (y ∷ xs) x = slice_get-last xs x

-- a slot that was taken has the word that it had
same_word : (old new : List (List ℕ × ℕ)) (word : List ℕ × ℕ) (slot v : ℕ) → length old ≤ 2048 → IsKept old word slot new
    → v ≢ 0 → (v < 65535 → v ≤ length old) → slice_get new (v - 1) ≡ slice_get old (v - 1)
same_word old new word slot v few (inr none) taken known = rw none.1 refl
same_word old new word slot v few (inl kept) taken known =
    elim (cases_lt v 65535) [
      | inl lt ↦
          let le : v ≤ length old = known lt in
          rw kept.2 (slice_get-front old (word ∷ []) (v - 1) (omega arith))
      | inr past ↦
          let more : length new ≡ length old + 1 = rw kept.2 (length-append old (word ∷ [])) in
          slice_get_past new (v - 1) (omega arith) ∙ sym (slice_get_past old (v - 1) (omega arith))
    ]

-- and so it answers the same
pub slot_answer-same : (old new : List (List ℕ × ℕ)) (word : List ℕ × ℕ) (slot v : ℕ) (text : List ℕ) (rest : Option (Option ℕ)) → length old ≤ 2048 → IsKept old word slot new
    → (v < 65535 → v ≤ length old) → slot_answer new v text rest ≡ slot_answer old v text rest
slot_answer-same old new word slot v text rest few kept known =
    elim (cases_eq v 0) [
      | inl free ↦ slot_answer-free new v text rest free ∙ sym (slot_answer-free old v text rest free)
      | inr taken ↦
          slot_answer-taken new v text rest taken
          ∙ ap (λ at. word_answer at text rest) (same_word old new word slot v few kept taken known)
          ∙ sym (slot_answer-taken old v text rest taken)
    ]

-- the answer of the slot that is taken for a word: the word's kind for the word, or nothing
slot_answer-new : (old new : List (List ℕ × ℕ)) (word : List ℕ × ℕ) (slot : ℕ) (text : List ℕ) (rest : Option (Option ℕ)) → length old ≤ 2048 → IsKept old word slot new
    → (slot_answer new slot text rest ≡ cond (bytes_eq word.0 text) (Some (Some word.1)) rest) ⊎ (slot_answer new slot text rest ≡ None)
slot_answer-new old new word slot text rest few (inl kept) =
    let taken : slot ≢ 0 = omega arith in
    let at : slot - 1 ≡ length old = omega arith in
    let found : slice_get new (slot - 1) ≡ Some word = rw (at, kept.2) (slice_get-last old word) in
    inl (slot_answer-taken new slot text rest taken ∙ ap (λ one. word_answer one text rest) found)
slot_answer-new old new word slot text rest few (inr none) =
    let taken : slot ≢ 0 = omega arith in
    let past : slice_get new (slot - 1) ≡ None = rw none.1 (slice_get_past old (slot - 1) (omega arith)) in
    inr (slot_answer-taken new slot text rest taken ∙ ap (λ one. word_answer one text rest) past)

-- the answer for a text with a word more: what it was, and else the word's kind for the word
abbrev pub More : Option (Option ℕ) → Bool → ℕ → Option ℕ → Type 0
More earlier same kind answer = (had : Option ℕ) × (earlier ≡ Some had) × (answer ≡ option_or had (cond same (Some kind) None))

-- the answer of the two slots of a bucket
abbrev pub bucket_answer : List (List ℕ × ℕ) → ℕ → ℕ → List ℕ → Option (Option ℕ)
bucket_answer words first second text = slot_answer words first text (slot_answer words second text None)

-- at another bucket
pair-elsewhere : (old new : List (List ℕ × ℕ)) (word : List ℕ × ℕ) (slot first second : ℕ) (text : List ℕ) (answer : Option ℕ) → length old ≤ 2048 → IsKept old word slot new
    → (first < 65535 → first ≤ length old) → (second < 65535 → second ≤ length old) → bytes_eq word.0 text ≡ false
    → bucket_answer new first second text ≡ Some answer → More (bucket_answer old first second text) (bytes_eq word.0 text) word.1 answer
pair-elsewhere old new word slot first second text answer few kept known_first known_second other answers =
    let same : bucket_answer new first second text ≡ bucket_answer old first second text =
    slot_answer-same old new word slot first text _ few kept known_first
    ∙ ap (slot_answer old first text) (slot_answer-same old new word slot second text None few kept known_second) in
    (answer, sym same ∙ answers, rw other (sym (or_none answer)))

-- in a first slot
pub pair-first : (old new : List (List ℕ × ℕ)) (word : List ℕ × ℕ) (slot second : ℕ) (text : List ℕ) (answer : Option ℕ) → length old ≤ 2048 → IsKept old word slot new
    → bucket_answer new slot 0 text ≡ Some answer → More (bucket_answer old 0 second text) (bytes_eq word.0 text) word.1 answer
pair-first old new word slot second text answer few kept answers =
    elim (slot_answer-new old new word slot text (Some None) few kept) [
      | inl is ↦ (None, refl, by_test (bytes_eq word.0 text) (sym is ∙ answers))
      | inr none ↦ absurd (cc)
    ]
  where
    by_test : (same : Bool) → cond same (Some (Some word.1)) (Some None) ≡ Some answer → answer ≡ option_or None (cond same (Some word.1) None)
    by_test true e = cc
    by_test false e = cc

-- the second slot is free where the bucket says that the text is no word, and the first is taken
pub second-free : (words : List (List ℕ × ℕ)) (first second : ℕ) (text : List ℕ) → first ≢ 0 → bucket_answer words first second text ≡ Some None → second ≡ 0
second-free words first second text taken answers = by_first (slice_get words (first - 1)) (sym (slot_answer-taken words first text _ taken) ∙ answers)
  where
    no_second : (one : Option (List ℕ × ℕ)) → word_answer one text None ≡ Some None → ⊥
    no_second None e = cc
    no_second (Some w) e = by_test (bytes_eq w.0 text) e
      where
        by_test : (same : Bool) → cond same (Some (Some w.1)) None ≡ Some None → ⊥
        by_test true f = cc
        by_test false f = cc

    by_second : slot_answer words second text None ≡ Some None → second ≡ 0
    by_second e =
        elim (cases_eq second 0) [
          | inl free ↦ free
          | inr also ↦ absurd (no_second (slice_get words (second - 1)) (sym (slot_answer-taken words second text None also) ∙ e))
        ]

    by_first : (one : Option (List ℕ × ℕ)) → word_answer one text (slot_answer words second text None) ≡ Some None → second ≡ 0
    by_first None e = absurd (cc)
    by_first (Some w) e = by_test (bytes_eq w.0 text) e
      where
        by_test : (same : Bool) → cond same (Some (Some w.1)) (slot_answer words second text None) ≡ Some None → second ≡ 0
        by_test true f = absurd (cc)
        by_test false f = by_second f

-- in a second slot
pub pair-second : (old new : List (List ℕ × ℕ)) (word : List ℕ × ℕ) (slot first second : ℕ) (text : List ℕ) (answer : Option ℕ) → length old ≤ 2048 → IsKept old word slot new
    → first ≢ 0 → (first < 65535 → first ≤ length old) → second ≡ 0
    → bucket_answer new first slot text ≡ Some answer → More (bucket_answer old first second text) (bytes_eq word.0 text) word.1 answer
pair-second old new word slot first second text answer few kept taken known free answers =
    let before : bucket_answer old first second text ≡ word_answer (slice_get old (first - 1)) text (Some None) =
    slot_answer-taken old first text _ taken ∙ ap (word_answer (slice_get old (first - 1)) text) (slot_answer-free old second text None free) in
    let after : word_answer (slice_get old (first - 1)) text (slot_answer new slot text None) ≡ Some answer =
    sym (slot_answer-taken old first text _ taken) ∙ sym (slot_answer-same old new word slot first text _ few kept known) ∙ answers in
    rw before (by_first (slice_get old (first - 1)) after)
  where
    here : slot_answer new slot text None ≡ Some answer → answer ≡ option_or None (cond (bytes_eq word.0 text) (Some word.1) None)
    here e =
        elim (slot_answer-new old new word slot text None few kept) [
          | inl is ↦ by_test (bytes_eq word.0 text) (sym is ∙ e)
          | inr none ↦ absurd (cc)
        ]
      where
        by_test : (same : Bool) → cond same (Some (Some word.1)) None ≡ Some answer → answer ≡ option_or None (cond same (Some word.1) None)
        by_test true f = cc
        by_test false f = absurd (cc)

    by_first : (one : Option (List ℕ × ℕ)) → word_answer one text (slot_answer new slot text None) ≡ Some answer → More (word_answer one text (Some None)) (bytes_eq word.0 text) word.1 answer
    by_first None e = absurd (cc)
    by_first (Some w) e = by_test (bytes_eq w.0 text) e
      where
        by_test : (same : Bool) → cond same (Some (Some w.1)) (slot_answer new slot text None) ≡ Some answer → More (cond same (Some (Some w.1)) (Some None)) (bytes_eq word.0 text) word.1 answer
        by_test true f = (Some w.1, refl, cc)
        by_test false f = (None, refl, here f)

-- a text at another bucket is another text
other_bucket : (word text : List ℕ) → (bucket_of text ≡ bucket_of word → ⊥) → bytes_eq word text ≡ false
other_bucket word text away =
    elim (cases_Bool (bytes_eq word text)) [
      | inl same ↦ absurd (away (sym (ap bucket_of ((bytes_eq-Decides word text).0 same))))
      | inr other ↦ other
    ]

-- the slots of its bucket answer for a text
pub probed-read : (slots : List ℕ) (words : List (List ℕ × ℕ)) (text : List ℕ) (first second : ℕ) → get_or slots (2 * bucket_of text) 0 ≡ first → get_or slots (2 * bucket_of text + 1) 0 ≡ second
    → probed slots words text ≡ bucket_answer words first second text
probed-read slots words text first second one two =
    ap (λ n. slot_answer words n text (slot_answer words (get_or slots (2 * bucket_of text + 1) 0) text None)) one
    ∙ ap (λ n. slot_answer words first text (slot_answer words n text None)) two

-- slots of other buckets stay
pub probed-elsewhere : (slots after : List ℕ) (old new : List (List ℕ × ℕ)) (word : List ℕ × ℕ) (slot : ℕ) → AreSlots slots old → IsKept old word slot new
    → (text : List ℕ) (answer : Option ℕ) → (bucket_of text ≡ bucket_of word.0 → ⊥) → get_or after (2 * bucket_of text) 0 ≡ get_or slots (2 * bucket_of text) 0
    → get_or after (2 * bucket_of text + 1) 0 ≡ get_or slots (2 * bucket_of text + 1) 0
    → probed after new text ≡ Some answer → More (probed slots old text) (bytes_eq word.0 text) word.1 answer
probed-elsewhere slots after old new word slot sound kept text answer away one two answers =
    pair-elsewhere old new word slot _ _ text answer sound.few kept (sound.known (2 * bucket_of text)) (sound.known (2 * bucket_of text + 1)) (other_bucket word.0 text away)
    (sym (probed-read after new text _ _ one two) ∙ answers)

-- ---- what is read of the slots

module _ (slots : List ℕ) (words : List (List ℕ × ℕ)) (text : List ℕ) (at first second : ℕ) (sound : AreSlots slots words) (bucket : at ≡ bucket_of text)
    (within : at < 2048) (one : first ≡ get_or slots (2 * at) first) (two : second ≡ get_or slots (2 * at + 1) second)
    (word : List ℕ × ℕ) (test : Bool) (is : test ≡ bytes_eq word.0 text)
    (known : List (List ℕ × ℕ)) (same : known ≡ words) (read : ℕ) (less : read ≡ first - 1) (there : read < length known) (stands : (d : List ℕ × ℕ) → word ≡ get_or known read d) where
  found : slice_get words (first - 1) ≡ Some word
  found = ap (slice_get words) (sym less) ∙ ap (λ all. slice_get all read) (sym same) ∙ slice_get-at known read word there stands

  answers : probed slots words text ≡ bucket_answer words first second text
  answers = probed-read slots words text first second
      (ap (λ n. get_or slots (2 * n) 0) (sym bucket) ∙ sym (one ∙ get_or_default slots (2 * at) first 0 (omega (arith, sound.size, within))))
      (ap (λ n. get_or slots (2 * n + 1) 0) (sym bucket) ∙ sym (two ∙ get_or_default slots (2 * at + 1) second 0 (omega (arith, sound.size, within))))

  of_taken : first ≢ 0 → bucket_answer words first second text ≡ cond test (Some (Some word.1)) (slot_answer words second text None)
  of_taken taken = slot_answer-taken words first text _ taken ∙ ap (λ w. word_answer w text (slot_answer words second text None)) found ∙ ap (λ same. cond same (Some (Some word.1)) (slot_answer words second text None)) (sym is)

  -- the text is the word of the first slot
  pub answers-first : (not (first == 0) && test) ≡ true → Some (Some word.1) ≡ probed slots words text
  answers-first both =
      elim (cases_eq first 0) [
        | inl free ↦ absurd (let p = rw (eq-eqb first 0 free) at both in cc)
        | inr taken ↦ sym (answers ∙ of_taken taken ∙ ap (λ same. cond same (Some (Some word.1)) (slot_answer words second text None)) (rw (ne_eqb first 0 taken) at both))
      ]

  -- a slot is free
  pub answers-none : (not (first == 0) && test) ≡ false → ((first == 0) || (second == 0)) ≡ true → Some None ≡ probed slots words text
  answers-none other free =
      elim (cases_eq first 0) [
        | inl none ↦ sym (answers ∙ slot_answer-free words first text _ none)
        | inr taken ↦
            let not_word : test ≡ false = rw (ne_eqb first 0 taken) at other in
            let second_free : (second == 0) ≡ true = rw (ne_eqb first 0 taken) at free in
            sym (answers ∙ of_taken taken ∙ ap (λ same. cond same (Some (Some word.1)) (slot_answer words second text None)) not_word ∙ slot_answer-free words second text None (eqb-true second 0 second_free))
      ]

  -- the second slot answers
  pub answers-second : (not (first == 0) && test) ≡ false → ((first == 0) || (second == 0)) ≡ false → slot_answer words second text None ≡ probed slots words text
  answers-second other full =
      elim (cases_eq first 0) [
        | inl none ↦ absurd (let p = rw (eq-eqb first 0 none) at full in cc)
        | inr taken ↦
            let not_word : test ≡ false = rw (ne_eqb first 0 taken) at other in
            sym (answers ∙ of_taken taken ∙ ap (λ same. cond same (Some (Some word.1)) (slot_answer words second text None)) not_word)
      ]
