-- Words in their order, and what is found among them.
use Rattle.std.proofs.Common.{◌≡◌, ℕ, ◌+◌, ◌<◌, ◌≤◌, ◌&&◌, List, [], ◌∷◌, Bool, true, false, cond, Option, Some, None, zero, suc, length, get_or, not, filter, inl, inr, ◌⊎◌, refl, sym, ap, ◌∙◌, arith}
use Rattle.std.specs.Prelude.{IsTrue, slice_get, slice_index_or}
use Rattle.std.specs.List.{IsAllAdjacentAnswer}
use Rattle.std.specs.Cmp.Lexicographic.{slice_cmp}
use Rattle.std.specs.Bool.{then_some}
use Rattle.std.specs.List.Sorted.{IsNonDecreasingBy, IsPartitionPoint, IsPartitionedBy, IsStableBy, ties}
use Rattle.std.specs.Ordering.{is_eq, is_lt, nat_cmp, ordering_index}
use Rattle.std.specs.declared.cmp.Ordering.{Ordering}
use Rattle.std.specs.declared.cmp.Ordering.TheVariants.{Less, Equal, Greater}
use Rattle.std.specs.Str.{bytes_eq}
use Rattle.std.proofs.lemmas.Bool.{cases_Bool, false≢true}
use Rattle.std.proofs.lemmas.Cmp.{nat_list_cmp_total}
use Rattle.std.proofs.lemmas.List.Sorted.{searchable_from_sorted}
use Rattle.std.proofs.lemmas.Option.{slice_get_past}
use Rattle.std.proofs.lemmas.Slice.Eq.{bytes_eq-Decides}
use Rattle.squawk_keywords.specs.KeywordPairs.{pairs_of}
use Rattle.squawk_keywords.specs.LetterCase.{IsInOrder, compared, kind_by}
use Rattle.squawk_keywords.proofs.KeywordPairLemmas.{slice_get-at}
use Rattle.squawk_keywords.proofs.OrderLemmas.{is_eq-same, same-ties}
use denote.Ref.{Bor}

abbrev Word : Type 0
Word = Bor (List ℕ) × ℕ

-- ---- the first word

-- the kind of the first word
abbrev first_kind : List Word → Option ℕ
first_kind [] = None
first_kind (word ∷ words) = Some word.1

module _ (ignores_case : Bool) where
  -- what of a word is compared
  abbrev pub key : Word → List ℕ
  key word = compared ignores_case word.0.now

  -- a word comes before another one
  abbrev pub comes_before : Word → Word → Bool
  comes_before one other = is_lt (slice_cmp nat_cmp (key one) (key other))

  -- words are in order where none comes before the one in front of it
  pub from_adjacent : (words : List Word) (r : Bool) → IsAllAdjacentAnswer (λ one other b. b ≡ not (comes_before other one)) words r → IsTrue r → IsInOrder ignores_case words
  from_adjacent words true adjacent is = λ k d low within. opposite (comes_before (slice_index_or words (k + 1) d) (slice_index_or words k d)) (adjacent k d within)
    where
      opposite : (b : Bool) → true ≡ not b → b ≡ false
      opposite true e = e
      opposite false e = refl
  from_adjacent words false adjacent is = absurd (false≢true is)

  module _ (text : List ℕ) where
    -- a text is the word
    abbrev is_word : Word → Bool
    is_word word = bytes_eq (key word) (compared ignores_case text)

    kind_by-first : (words : List Word) → kind_by ignores_case (pairs_of words) text ≡ first_kind (filter is_word words)
    kind_by-first [] = refl
    kind_by-first (word ∷ words) = by_test (is_word word) (kind_by-first words)
      where
        by_test : (is : Bool) → kind_by ignores_case (pairs_of words) text ≡ first_kind (filter is_word words)
            → cond is (Some word.1) (kind_by ignores_case (pairs_of words) text) ≡ first_kind (cond is (word ∷ filter is_word words) (filter is_word words))
        by_test true rest = refl
        by_test false rest = rest

    -- ---- a stable sort

    -- of a word that a text is, those that tie with it are it
    is_word-ties : (word : Word) → is_word word ≡ true → (other : Word) → is_word other ≡ ties comes_before word other
    is_word-ties word is other =
        let same : key word ≡ compared ignores_case text = (bytes_eq-Decides (key word) (compared ignores_case text)).0 is in
        same-ties (key other) (compared ignores_case text)
        ∙ ap (λ t. not (is_lt (slice_cmp nat_cmp t (key other))) && not (is_lt (slice_cmp nat_cmp (key other) t))) (sym same)

    -- a text is one of the words, or none
    any_word : (words : List Word) → ((word : Word) × (is_word word ≡ true)) ⊎ (filter is_word words ≡ [])
    any_word [] = inr refl
    any_word (word ∷ words) =
        elim (cases_Bool (is_word word)) [
          | inl is ↦ inl (word, is)
          | inr other ↦
              elim (any_word words) [
                | inl found ↦ inl found
                | inr none ↦ inr (rw other none)
              ]
        ]

    filter-stable : (old new : List Word) → IsStableBy comes_before old new → filter is_word new ≡ filter is_word old
    filter-stable old new stable =
        elim (any_word old) [
          | inl found ↦ by_word found.0 found.1
          | inr none ↦
              elim (any_word new) [
                | inl found ↦ by_word found.0 found.1
                | inr also ↦ also ∙ sym none
              ]
        ]
      where
        by_word : (word : Word) → is_word word ≡ true → filter is_word new ≡ filter is_word old
        by_word word is =
            let tests : is_word ≡ ties comes_before word = λ i other. is_word-ties word is other i in
            ap (λ test. filter test new) tests ∙ stable word ∙ ap (λ test. filter test old) (sym tests)

    -- ---- a search

    -- whether a word comes before the text
    abbrev pub is_before : Word → Bool
    is_before word = is_lt (slice_cmp nat_cmp (key word) (compared ignores_case text))

    -- where the word stands to the text
    abbrev rank : Word → ℕ
    rank word = ordering_index (slice_cmp nat_cmp (key word) (compared ignores_case text))

    rank-before : (o : Ordering) → is_lt o ≡ true → ordering_index o ≡ 0
    rank-before Less e = refl
    rank-before Equal e = absurd (cc)
    rank-before Greater e = absurd (cc)

    before-rank : (o : Ordering) → ordering_index o ≤ 0 → is_lt o ≡ true
    before-rank Less le = refl
    before-rank Equal le = absurd (omega arith)
    before-rank Greater le = absurd (omega arith)

    rises : (words : List Word) → IsInOrder ignores_case words → IsNonDecreasingBy rank words
    rises words ordered = searchable_from_sorted nat_list_cmp_total key words (compared ignores_case text) ordered

    pub partitioned : (words : List Word) → IsInOrder ignores_case words → IsPartitionedBy is_before words
    partitioned words ordered i j d le within before =
        before-rank _ (omega (arith, rises words ordered i j d le within, rank-before _ before))

    other-before : (o : Ordering) → is_lt o ≡ true → is_eq o ≡ false
    other-before Less e = refl
    other-before Equal e = absurd (cc)
    other-before Greater e = refl

    other-past : (o : Ordering) → 2 ≤ ordering_index o → is_eq o ≡ false
    other-past Less le = absurd (omega arith)
    other-past Equal le = absurd (omega arith)
    other-past Greater le = refl

    past : (o : Ordering) → is_lt o ≡ false → is_eq o ≡ false → 2 ≤ ordering_index o
    past Less e f = absurd (cc)
    past Equal e f = absurd (cc)
    past Greater e f = omega arith

    other-word : (word : Word) → is_eq (slice_cmp nat_cmp (key word) (compared ignores_case text)) ≡ false → is_word word ≡ false
    other-word word e = sym (is_eq-same (key word) (compared ignores_case text)) ∙ e

    -- a text that is none of the words has no kind
    kind_by-none : (words : List Word) → ((k : ℕ) (d : Word) → k < length words → is_word (get_or words k d) ≡ false) → kind_by ignores_case (pairs_of words) text ≡ None
    kind_by-none [] none = refl
    kind_by-none (word ∷ words) none = rw (none 0 word (omega arith)) (kind_by-none words (λ k d lt. none (suc k) d (omega arith)))

    -- what is found at an index
    abbrev pub found : Option Word → Option ℕ
    found None = None
    found (Some word) = cond (is_word word) (Some word.1) None

    found-at : (at : ℕ) (words : List Word) → IsNonDecreasingBy rank words
        → ((k : ℕ) (d : Word) → k < at → k < length words → is_before (get_or words k d) ≡ true)
        → ((k : ℕ) (d : Word) → at ≤ k → k < length words → is_before (get_or words k d) ≡ false)
        → kind_by ignores_case (pairs_of words) text ≡ found (slice_get words at)
    found-at at [] up low high = refl
    found-at zero (word ∷ words) up low high =
        elim (cases_Bool (is_word word)) [
          | inl is ↦ rw is refl
          | inr other ↦
              let far : 2 ≤ rank word = past _ (high 0 word (omega arith) (omega arith)) (is_eq-same (key word) (compared ignores_case text) ∙ other) in
              rw other
              (kind_by-none words (λ k d lt. other-word (get_or words k d) (other-past _ (omega (arith, far, up 0 (suc k) d (omega arith) (omega arith))))))
        ]
    found-at (suc at) (word ∷ words) up low high =
        let other : is_word word ≡ false = other-word word (other-before _ (low 0 word (omega arith) (omega arith))) in
        rw other
        (found-at at words (λ i j d le lt. up (suc i) (suc j) d (omega arith) (omega arith)) (λ k d lt within. low (suc k) d (omega arith) (omega arith))
        (λ k d le within. high (suc k) d (omega arith) (omega arith)))

  pub kind_by-sorted : (old new : List Word) → IsStableBy comes_before old new → (text : List ℕ) → kind_by ignores_case (pairs_of new) text ≡ kind_by ignores_case (pairs_of old) text
  kind_by-sorted old new stable text = kind_by-first text new ∙ ap first_kind (filter-stable text old new stable) ∙ sym (kind_by-first text old)

  pub kind_by-found : (words : List Word) (at : ℕ) (text : List ℕ) → IsInOrder ignores_case words
      → IsPartitionPoint (λ word. is_before text word ≡ true) (λ word. is_before text word ≡ false) words at
      → kind_by ignores_case (pairs_of words) text ≡ found text (slice_get words at)
  kind_by-found words at text ordered point = found-at text at words (rises text words ordered) (λ k d lt _. point.0 k d (omega arith) lt) (λ k d le lt. point.1 k d le lt)

then_some-cond : (test : Bool) (kind : ℕ) → then_some test kind ≡ cond test (Some kind) None
then_some-cond true kind = refl
then_some-cond false kind = refl

module _ (ignores_case : Bool) (words : List Word) (text : List ℕ) (at : ℕ) (ordered : IsInOrder ignores_case words)
    (point : IsPartitionPoint (λ word. is_before ignores_case text word ≡ true) (λ word. is_before ignores_case text word ≡ false) words at) where
  -- the kind of the word at the index
  pub kind_by-at : (word : Word) (test : Bool) → at < length words → ((d : Word) → word ≡ get_or words at d)
      → test ≡ is_eq (slice_cmp nat_cmp (compared ignores_case word.0.now) (compared ignores_case text)) → then_some test word.1 ≡ kind_by ignores_case (pairs_of words) text
  kind_by-at word test within is tests =
      then_some-cond test word.1
      ∙ ap (λ same. cond same (Some word.1) None) (tests ∙ is_eq-same (compared ignores_case word.0.now) (compared ignores_case text))
      ∙ ap (found ignores_case text) (sym (slice_get-at words at word within is))
      ∙ sym (kind_by-found ignores_case words at text ordered point)

  -- if no word is at the index, the text is none
  pub kind_by-past : length words ≤ at → None ≡ kind_by ignores_case (pairs_of words) text
  kind_by-past le = ap (found ignores_case text) (sym (slice_get_past words at le)) ∙ sym (kind_by-found ignores_case words at text ordered point)
