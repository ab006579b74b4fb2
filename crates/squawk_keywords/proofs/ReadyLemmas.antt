-- Tables of words are tested by evaluation where they are constants.
use Rattle.std.proofs.Common.{◌≡◌, ℕ, ◌+◌, ◌*◌, ◌<◌, ◌≤◌, ◌&&◌, All, Bool, true, false, cond, List, [], ◌∷◌, Option, Some, None, zero, suc, length, get_or, map, not, nat_le, refl, sym, ap, ◌∙◌, inl, inr, subst, arith}
use Rattle.std.specs.Prelude.{◌==◌, ◌||◌, slice_get}
use Rattle.std.specs.Cmp.Lexicographic.{slice_cmp}
use Rattle.std.specs.List.{list_all, list_any}
use Rattle.std.specs.Ordering.{is_lt, nat_cmp}
use Rattle.std.specs.Str.{bytes_eq}
use Rattle.std.proofs.Math.Nat.{suc-add}
use Rattle.std.proofs.lemmas.Bool.{and_parts, cases_eq, eqb-true}
use Rattle.std.proofs.lemmas.Bool.Decides.{nat_tests}
use Rattle.std.proofs.lemmas.List.Elements.{All-cons, All-nil}
use Rattle.std.proofs.lemmas.Slice.Eq.{bytes_eq-Decides}
use Rattle.squawk_kinds.specs.Kinds.{IsKeyword}
use Rattle.squawk_kinds.specs.TokenSets.{has}
use Rattle.squawk_kinds.specs.declared.token_set.TokenSet.{TokenSet}
use Rattle.squawk_kinds.proofs.ConstantSets.{has-words_of, words_of}
use Rattle.squawk_kinds.proofs.TokenKinds.{are_token_kinds}
use Rattle.squawk_keywords.specs.KeywordPairs.{AreKeywords, has_kind, pairs_of}
use Rattle.squawk_keywords.specs.LetterCase.{IsInOrder, compared, kind_by}
use Rattle.squawk_keywords.specs.ReadyWords.{AreReady, kept_of}
use Rattle.squawk_keywords.specs.TextKeys.{IsOfText, key_of, text_of}
use Rattle.squawk_keywords.specs.WordSlots.{AgreeWith, AreSlots, probed, slot_answer, word_answer}
use Rattle.squawk_keywords.specs.declared.ready_words.KeptRow.{KeptRow}
use Rattle.squawk_keywords.specs.declared.ready_words.ReadyWords.{ReadyWords}
use Rattle.squawk_keywords.proofs.WordSlotLemmas.{slot_answer-taken}
use denote.Ref.{Bor}

-- ---- words in order

abbrev ascend : List (List ℕ × ℕ) → Bool
ascend [] = true
ascend (one ∷ []) = true
ascend (one ∷ other ∷ pairs) = not (is_lt (slice_cmp nat_cmp (compared true other.0) (compared true one.0))) && ascend (other ∷ pairs)

not-true : (b : Bool) → not b ≡ true → b ≡ false
not-true true e = absurd (cc)
not-true false e = refl

in_order : (words : List (Bor (List ℕ) × ℕ)) → ascend (pairs_of words) ≡ true → IsInOrder true words
in_order [] e k d low within = absurd (omega (arith, within))
in_order (one ∷ []) e k d low within = absurd (omega (arith, within))
in_order (one ∷ other ∷ words) e zero d low within = not-true _ (and_parts _ (ascend (pairs_of (other ∷ words))) e).0
in_order (one ∷ other ∷ words) e (suc k) d low within =
    let next : suc k + 1 ≡ suc (k + 1) = suc-add k 1 in
    rw next (in_order (other ∷ words) (and_parts _ (ascend (pairs_of (other ∷ words))) e).1 k d (omega arith) (omega (arith, within)))

-- ---- kinds

abbrev is_keyword : ℕ → Bool
is_keyword kind = nat_le 2 kind && nat_le kind 638 && not (kind == 4)

keyword : (kind : ℕ) → is_keyword kind ≡ true → IsKeyword kind
keyword kind e = record {
  token = grind (arith, nat_tests);
  not_end = grind (arith, nat_tests);
  not_tombstone = grind (arith, nat_tests);
  not_comment = grind (arith, nat_tests);
  not_whitespace = grind (arith, nat_tests);
}

keywords-of : (pairs : List (List ℕ × ℕ)) → list_all (λ pair. is_keyword pair.1) pairs ≡ true → AreKeywords pairs
keywords-of [] e = All-nil (λ pair. IsKeyword pair.1)
keywords-of (pair ∷ pairs) e =
    let parts = and_parts (is_keyword pair.1) (list_all (λ one. is_keyword one.1) pairs) e in
    All-cons (λ one. IsKeyword one.1) pair pairs (keyword pair.1 parts.0) (keywords-of pairs parts.1)

abbrev kinds_of : List (List ℕ × ℕ) → List ℕ
kinds_of = map (λ pair. pair.1)

any-kind : (pairs : List (List ℕ × ℕ)) (kind : ℕ) → list_any (λ one. one == kind) (kinds_of pairs) ≡ has_kind pairs kind
any-kind [] kind = refl
any-kind (pair ∷ pairs) kind = ap (λ rest. (pair.1 == kind) || rest) (any-kind pairs kind)

-- ---- rows

abbrev is_row : KeptRow → Bool
is_row row =
    let text = text_of row.len (row.low, row.high) in
    nat_le row.len 16 && (length text == row.len) && ((key_of text).0 == row.low) && ((key_of text).1 == row.high)

row-is : (row : KeptRow) → is_row row ≡ true → IsOfText row.len (row.low, row.high)
row-is row e =
    let three = and_parts _ _ e in
    let two = and_parts _ _ three.0 in
    let one = and_parts (nat_le row.len 16) (length (text_of row.len (row.low, row.high)) == row.len) two.0 in
    record {
      short = grind (arith, nat_tests, one.0);
      long = eqb-true _ _ one.1;
      are = λ i. (eqb-true _ _ two.1 i, eqb-true _ _ three.1 i);
    }

rows-are : (rows : List KeptRow) → list_all is_row rows ≡ true → All (λ row. IsOfText row.len (row.low, row.high)) rows
rows-are [] e = All-nil (λ row. IsOfText row.len (row.low, row.high))
rows-are (row ∷ rows) e =
    let parts = and_parts (is_row row) (list_all is_row rows) e in
    All-cons (λ row. IsOfText row.len (row.low, row.high)) row rows (row-is row parts.0) (rows-are rows parts.1)

-- ---- slots

abbrev is_slot : ℕ → ℕ → Bool
is_slot count slot = nat_le slot count || nat_le 65535 slot

known-in : (count : ℕ) (slots : List ℕ) → list_all (is_slot count) slots ≡ true → (i : ℕ) → get_or slots i 0 < 65535 → get_or slots i 0 ≤ count
known-in count [] e i lt = omega arith
known-in count (slot ∷ slots) e zero lt = let e = (and_parts (is_slot count slot) (list_all (is_slot count) slots) e).0 in grind (arith, nat_tests)
known-in count (slot ∷ slots) e (suc i) lt = known-in count slots (and_parts (is_slot count slot) (list_all (is_slot count) slots) e).1 i lt

-- no bucket's second slot is taken before its first
abbrev firsts_first : List ℕ → Bool
firsts_first [] = true
firsts_first (first ∷ []) = true
firsts_first (first ∷ second ∷ slots) = (not (first == 0) || (second == 0)) && firsts_first slots

ordered-in : (slots : List ℕ) → firsts_first slots ≡ true → (bucket : ℕ) → get_or slots (2 * bucket) 0 ≡ 0 → get_or slots (2 * bucket + 1) 0 ≡ 0
ordered-in [] e bucket free = refl
ordered-in (first ∷ []) e zero free = refl
ordered-in (first ∷ []) e (suc bucket) free =
    let past : 2 * suc bucket + 1 ≡ suc (suc (2 * bucket + 1)) = omega arith in
    ap (λ n. get_or (first ∷ []) n 0) past
ordered-in (first ∷ second ∷ slots) e zero free = let e = (and_parts (not (first == 0) || (second == 0)) (firsts_first slots) e).0 in grind (arith, nat_tests)
ordered-in (first ∷ second ∷ slots) e (suc bucket) free =
    let one : 2 * suc bucket ≡ suc (suc (2 * bucket)) = omega arith in
    let two : 2 * suc bucket + 1 ≡ suc (suc (2 * bucket + 1)) = omega arith in
    ap (λ n. get_or (first ∷ second ∷ slots) n 0) two
    ∙ ordered-in slots (and_parts (not (first == 0) || (second == 0)) (firsts_first slots) e).1 bucket (sym (ap (λ n. get_or (first ∷ second ∷ slots) n 0) one) ∙ free)

abbrev are_slots : List ℕ → ℕ → Bool
are_slots slots count = (length slots == 4096) && nat_le count 2048 && list_all (is_slot count) slots && firsts_first slots

slots-are : (slots : List ℕ) (kept : List (List ℕ × ℕ)) → are_slots slots (length kept) ≡ true → AreSlots slots kept
slots-are slots kept e =
    let three = and_parts _ (firsts_first slots) e in
    let two = and_parts _ (list_all (is_slot (length kept)) slots) three.0 in
    let one = and_parts (length slots == 4096) (nat_le (length kept) 2048) two.0 in
    record {
      size = eqb-true _ _ one.0;
      few = grind (arith, nat_tests, one.1);
      known = known-in (length kept) slots two.1;
      ordered = ordered-in slots three.1;
    }

-- ---- answers

-- what the slots answer for a word is its kind, if they answer
abbrev is_answer : Option (Option ℕ) → ℕ → Bool
is_answer None kind = true
is_answer (Some None) kind = false
is_answer (Some (Some found)) kind = found == kind

-- the words of rows are some of the words, in their order
abbrev are_some : List (List ℕ × ℕ) → List (List ℕ × ℕ) → Bool
are_some [] pairs = true
are_some (word ∷ words) [] = false
are_some (word ∷ words) (pair ∷ pairs) = cond (bytes_eq word.0 (compared true pair.0)) (are_some words pairs) (are_some (word ∷ words) pairs)

module _ (text : List ℕ) where
  -- a text that has no kind is none of the rows' words
  no_row : (words pairs : List (List ℕ × ℕ)) → are_some words pairs ≡ true → kind_by true pairs text ≡ None → list_any (λ word. bytes_eq word.0 (compared true text)) words ≡ false
  no_row [] pairs e none = refl
  no_row (word ∷ words) [] e none = absurd (cc)
  no_row (word ∷ words) (pair ∷ pairs) e none = by_text (no_row words pairs) (no_row (word ∷ words) pairs) (bytes_eq (compared true pair.0) (compared true text)) refl none
    where
      Others : List (List ℕ × ℕ) → Type 0
      Others some = are_some some pairs ≡ true → kind_by true pairs text ≡ None → list_any (λ one. bytes_eq one.0 (compared true text)) some ≡ false

      by_text : Others words → Others (word ∷ words) → (same : Bool) → bytes_eq (compared true pair.0) (compared true text) ≡ same → cond same (Some pair.1) (kind_by true pairs text) ≡ None
          → list_any (λ one. bytes_eq one.0 (compared true text)) (word ∷ words) ≡ false
      by_text behind with_it true is f = absurd (cc)
      by_text behind with_it false is f = by_word (bytes_eq word.0 (compared true pair.0)) refl e
        where
          by_word : (same : Bool) → bytes_eq word.0 (compared true pair.0) ≡ same → cond same (are_some words pairs) (are_some (word ∷ words) pairs) ≡ true
              → list_any (λ one. bytes_eq one.0 (compared true text)) (word ∷ words) ≡ false
          by_word true same g =
              let is_it : word.0 ≡ compared true pair.0 = (bytes_eq-Decides word.0 (compared true pair.0)).0 same in
              rw (is_it, is) (behind g f)
          by_word false same g = with_it g f

  -- and so no slot has a kind for it
  no_word : (words : List (List ℕ × ℕ)) (i kind : ℕ) (rest : Option (Option ℕ)) → list_any (λ word. bytes_eq word.0 (compared true text)) words ≡ false
      → word_answer (slice_get words i) (compared true text) rest ≡ Some (Some kind) → rest ≡ Some (Some kind)
  no_word [] i kind rest e answers = absurd (cc)
  no_word (word ∷ words) zero kind rest e answers = by_test (bytes_eq word.0 (compared true text)) e answers
    where
      by_test : (same : Bool) → (same || list_any (λ word. bytes_eq word.0 (compared true text)) words) ≡ false → cond same (Some (Some word.1)) rest ≡ Some (Some kind) → rest ≡ Some (Some kind)
      by_test true f g = absurd (cc)
      by_test false f g = g
  no_word (word ∷ words) (suc i) kind rest e answers = no_word words i kind rest (others (bytes_eq word.0 (compared true text)) e) answers
    where
      others : (same : Bool) → (same || list_any (λ word. bytes_eq word.0 (compared true text)) words) ≡ false → list_any (λ word. bytes_eq word.0 (compared true text)) words ≡ false
      others true f = absurd (cc)
      others false f = f

  no_slot : (words : List (List ℕ × ℕ)) (slot kind : ℕ) (rest : Option (Option ℕ)) → list_any (λ word. bytes_eq word.0 (compared true text)) words ≡ false
      → slot_answer words slot (compared true text) rest ≡ Some (Some kind) → rest ≡ Some (Some kind)
  no_slot words slot kind rest e answers =
      elim (cases_eq slot 0) [
        | inl free ↦ absurd (let p = rw free at answers in cc)
        | inr taken ↦ no_word words _ kind rest e (sym (slot_answer-taken words slot (compared true text) rest taken) ∙ answers)
      ]

  -- a text that has a kind is a word, and so is answered as it is
  is_found : (answer_of : List ℕ → Option (Option ℕ)) (pairs : List (List ℕ × ℕ)) (kind : ℕ) → list_all (λ pair. is_answer (answer_of (compared true pair.0)) pair.1) pairs ≡ true
      → kind_by true pairs text ≡ Some kind → is_answer (answer_of (compared true text)) kind ≡ true
  is_found answer_of [] kind e some = absurd (cc)
  is_found answer_of (pair ∷ pairs) kind e some =
      let parts = and_parts (is_answer (answer_of (compared true pair.0)) pair.1) (list_all (λ one. is_answer (answer_of (compared true one.0)) one.1) pairs) e in
      by_text parts.0 (is_found answer_of pairs kind parts.1) (bytes_eq (compared true pair.0) (compared true text)) refl some
    where
      by_text : is_answer (answer_of (compared true pair.0)) pair.1 ≡ true → (kind_by true pairs text ≡ Some kind → is_answer (answer_of (compared true text)) kind ≡ true)
          → (same : Bool) → bytes_eq (compared true pair.0) (compared true text) ≡ same → cond same (Some pair.1) (kind_by true pairs text) ≡ Some kind
          → is_answer (answer_of (compared true text)) kind ≡ true
      by_text here behind true is f =
          let same_text : compared true pair.0 ≡ compared true text = (bytes_eq-Decides (compared true pair.0) (compared true text)).0 is in
          let same_kind : pair.1 ≡ kind = cc in
          subst (λ one. is_answer (answer_of one) kind ≡ true) same_text (subst (λ one. is_answer (answer_of (compared true pair.0)) one ≡ true) same_kind here)
      by_text here behind false is f = behind f

abbrev agree : List (List ℕ × ℕ) → List ℕ → List (List ℕ × ℕ) → Bool
agree pairs slots kept = list_all (λ pair. is_answer (probed slots kept (compared true pair.0)) pair.1) pairs && are_some kept pairs

agree-with : (pairs : List (List ℕ × ℕ)) (slots : List ℕ) (kept : List (List ℕ × ℕ)) → agree pairs slots kept ≡ true → AgreeWith true (kind_by true pairs) slots kept
agree-with pairs slots kept e text answer answers = by_kind (kind_by true pairs text) refl
  where
    parts : (list_all (λ pair. is_answer (probed slots kept (compared true pair.0)) pair.1) pairs ≡ true) × (are_some kept pairs ≡ true)
    parts = and_parts _ _ e

    known : (kind : ℕ) (answer : Option ℕ) → is_answer (Some answer) kind ≡ true → Some kind ≡ answer
    known kind (Some found) is = ap Some (sym (eqb-true found kind is))
    known kind None is = absurd (cc)

    unknown : (answer : Option ℕ) → kind_by true pairs text ≡ None → probed slots kept (compared true text) ≡ Some answer → None ≡ answer
    unknown None none is = refl
    unknown (Some kind) none is =
        let others = no_row text kept pairs parts.1 none in
        absurd (let p = no_slot text kept _ kind None others (no_slot text kept _ kind _ others is) in cc)

    by_kind : (kind : Option ℕ) → kind_by true pairs text ≡ kind → kind_by true pairs text ≡ answer
    by_kind (Some kind) is =
        is ∙ known kind answer (subst (λ one. is_answer one kind ≡ true) answers (is_found text (probed slots kept) pairs kind parts.0 is))
    by_kind None is = is ∙ unknown answer is answers

-- ---- all tables

-- whether these are the set, the slots and the rows of the words
abbrev pub is_ready : List (List ℕ × ℕ) → TokenSet → List ℕ → List KeptRow → Bool
is_ready pairs set slots rows =
    ascend pairs && list_all (λ pair. is_keyword pair.1) pairs && bytes_eq set (words_of (kinds_of pairs)) && are_token_kinds (kinds_of pairs)
    && list_all is_row rows && are_slots slots (length (kept_of rows)) && agree pairs slots (kept_of rows)

-- For constants the test is refl.
pub are-ready : (tables : ReadyWords) (pairs : List (List ℕ × ℕ)) → pairs_of tables.words.now ≡ pairs → is_ready pairs tables.set tables.slots.now tables.kept.now ≡ true → AreReady tables
are-ready tables pairs are test =
    let words = tables.words.now in
    let six = and_parts _ _ (subst (λ all. is_ready all tables.set tables.slots.now tables.kept.now ≡ true) (sym are) test) in
    let five = and_parts _ _ six.0 in
    let four = and_parts _ _ five.0 in
    let three = and_parts _ _ four.0 in
    let two = and_parts _ _ three.0 in
    let one = and_parts _ _ two.0 in
    let same : tables.set ≡ words_of (kinds_of (pairs_of words)) = (bytes_eq-Decides tables.set (words_of (kinds_of (pairs_of words)))).0 two.1 in
    record {
      order = in_order words one.0;
      keywords = keywords-of (pairs_of words) one.1;
      set = λ kind. ap (λ set. has set kind) same ∙ has-words_of (kinds_of (pairs_of words)) three.1 kind ∙ any-kind (pairs_of words) kind;
      kept = rows-are tables.kept.now four.1;
      slots = slots-are tables.slots.now (kept_of tables.kept.now) five.1;
      agree = agree-with (pairs_of words) tables.slots.now (kept_of tables.kept.now) six.1;
    }
