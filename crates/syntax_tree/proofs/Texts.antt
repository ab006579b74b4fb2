-- The text of the element at a place.
use Rattle.std.proofs.Common.{◌≡◌, ◌∙◌, inl, inr, ℕ, zero, suc, ◌+◌, ◌-◌, ◌<◌, ◌≤◌, List, [], ◌++◌, length, take, drop, arith, ap, sym, refl, subst, append_assoc}
use Rattle.std.specs.Prelude.{IsUtf8, IsCharBoundary, slice_range, encode_utf8_all}
use Rattle.std.specs.Str.{chars}
use Rattle.std.proofs.lemmas.Bool.{cases_lt, cond_below, cond_above}
use Rattle.std.proofs.lemmas.List.{length-append, drop_at, take_at}
use Rattle.std.proofs.lemmas.Str.{IsUtf8-append, IsCharBoundary-at_seam, chars_from_encodes, encodes-append}
use Rattle.squawk_tree.specs.Forest.{Forest, Nothing, Token, Node, Error, forest_bytes}
use Rattle.syntax_tree.specs.Trees.{size, text_of, forest_at, inner_of, first_text, text_at, size_at, start_at, end_at}
use Rattle.syntax_tree.specs.Layout.{Laid, AreTexts, IsTree}
use Rattle.syntax_tree.proofs.Layouts.{length-layout, length-text_of, both_utf8, IsUtf8-texts}

-- ---- a place inside of a node, or behind it

module _ (kind : ℕ) (inner others : Forest) (i : ℕ) where
  pub at-inner : i < size inner → forest_at (Node kind inner others) (suc i) ≡ forest_at inner i
  at-inner below = sym (cond_below i (size inner) (forest_at inner i) (forest_at others (i - size inner)) below)

  pub at-others : size inner ≤ i → forest_at (Node kind inner others) (suc i) ≡ forest_at others (i - size inner)
  at-others above = sym (cond_above i (size inner) (forest_at inner i) (forest_at others (i - size inner)) (forest_at others (i - size inner)) above refl)

  start-inner : i < size inner → start_at (Node kind inner others) (suc i) ≡ start_at inner i
  start-inner below = sym (cond_below i (size inner) (start_at inner i) (forest_bytes inner + start_at others (i - size inner)) below)

  pub start-others : size inner ≤ i → start_at (Node kind inner others) (suc i) ≡ forest_bytes inner + start_at others (i - size inner)
  start-others above =
      let there = forest_bytes inner + start_at others (i - size inner) in
      sym (cond_above i (size inner) (start_at inner i) there there above refl)

pub start-first : (trees : Forest) → start_at trees 0 ≡ 0
start-first Nothing = refl
start-first (Token kind text others) = refl
start-first (Node kind inner others) = refl
start-first (Error text pos others) = start-first others

-- all bytes stand before the place behind all elements
pub start-all : (trees : Forest) → start_at trees (size trees) ≡ forest_bytes trees
start-all Nothing = refl
start-all (Token kind text others) = ap (λ n. length (encode_utf8_all text) + n) (start-all others)
start-all (Node kind inner others) =
    let rest : size inner + size others - size inner ≡ size others = omega arith in
    start-others kind inner others (size inner + size others) (omega arith)
    ∙ (ap (λ i. forest_bytes inner + start_at others i) rest ∙ ap (λ n. forest_bytes inner + n) (start-all others))
start-all (Error text pos others) = start-all others

-- up to the place behind all that is in a node
pub start-within : (kind : ℕ) (inner others : Forest) (i : ℕ) → i ≤ size inner → start_at (Node kind inner others) (suc i) ≡ start_at inner i
start-within kind inner others i within =
    elim (cases_lt i (size inner)) [
      | inl lt ↦ start-inner kind inner others i lt
      | inr ge ↦
          let end : i ≡ size inner = omega arith in
          let none : i - size inner ≡ 0 = omega arith in
          omega (
            arith,
            start-others kind inner others i ge,
            ap (start_at others) none,
            start-first others,
            ap (start_at inner) end,
            start-all inner,
          )
    ]

-- an element ends within the trees
pub at-within : (trees : Forest) (i : ℕ) → i < size trees → i + size_at trees i ≤ size trees
at-within Nothing i below = absurd (omega (arith, below))
at-within (Token kind text others) zero below = omega arith
at-within (Token kind text others) (suc i) below = omega (arith, at-within others i (omega (arith, below)))
at-within (Node kind inner others) zero below = omega arith
at-within (Node kind inner others) (suc i) below =
    elim (cases_lt i (size inner)) [
      | inl lt ↦ omega (arith, ap (λ f. size (inner_of f)) (at-inner kind inner others i lt), at-within inner i lt)
      | inr ge ↦ omega (arith, ap (λ f. size (inner_of f)) (at-others kind inner others i ge), at-within others (i - size inner) (omega arith))
    ]
at-within (Error text pos others) i below = at-within others i below

-- ---- a text in another one

-- characters stand between others, from a byte to another
record Cut (whole : List ℕ) (start end : ℕ) (here : List ℕ) : Type 0 where
  before : List ℕ
  behind : List ℕ
  is : whole ≡ before ++ (here ++ behind)
  starts : start ≡ length (encode_utf8_all before)
  ends : end ≡ start + length (encode_utf8_all here)
  utf8 : IsUtf8 (encode_utf8_all here)
  rest : IsUtf8 (encode_utf8_all behind)

module _ (whole : List ℕ) (start end : ℕ) (here : List ℕ) (cut : Cut whole start end here) where
  cut_same : (start' end' : ℕ) (here' : List ℕ) → start' ≡ start → end' ≡ end → here' ≡ here → Cut whole start' end' here'
  cut_same start' end' here' p q r = rw (p, q, r) cut

  cut_behind : (front : List ℕ) → Cut (front ++ whole) (length (encode_utf8_all front) + start) (length (encode_utf8_all front) + end) here
  cut_behind front = record {
    before = front ++ cut.before;
    behind = cut.behind;
    is = ap (λ t. front ++ t) cut.is ∙ sym (append_assoc front cut.before (here ++ cut.behind));
    starts =
        let starts = cut.starts in
        omega (arith, starts, ap length (encodes-append front cut.before), length-append (encode_utf8_all front) (encode_utf8_all cut.before));
    ends = let ends = cut.ends in omega (arith, ends);
    utf8 = cut.utf8;
    rest = cut.rest;
  }

  cut_before : (back : List ℕ) → IsUtf8 (encode_utf8_all back) → Cut (whole ++ back) start end here
  cut_before back utf8 = record {
    before = cut.before;
    behind = cut.behind ++ back;
    is = ap (λ t. t ++ back) cut.is ∙ (append_assoc cut.before (here ++ cut.behind) back ∙ ap (λ t. cut.before ++ t) (append_assoc here cut.behind back));
    starts = cut.starts;
    ends = cut.ends;
    utf8 = cut.utf8;
    rest = both_utf8 cut.behind back cut.rest utf8;
  }

-- trees at the front
cut_first : (here back : List ℕ) (end : ℕ) → end ≡ length (encode_utf8_all here) → IsUtf8 (encode_utf8_all here) → IsUtf8 (encode_utf8_all back) → Cut (here ++ back) 0 end here
cut_first here back end ends utf8 rest = record {
  before = [];
  behind = back;
  is = refl;
  starts = refl;
  ends = omega (arith, ends);
  utf8 = utf8;
  rest = rest;
}

-- where the element at a place has its text
cut : (tree : Forest) → AreTexts tree → (at : ℕ) → at < size tree → Cut (text_of tree) (start_at tree at) (end_at tree at) (text_at tree at)
cut Nothing texts at below = absurd (omega (arith, below))
cut (Token kind text others) texts zero below =
    cut_first text (text_of others) (end_at (Token kind text others) 0) (omega (arith, start-first others)) texts.0 (IsUtf8-texts others texts.2)
cut (Token kind text others) texts (suc i) below =
    let there = cut others texts.2 i (omega (arith, below)) in
    let next : suc i + size_at others i ≡ suc (i + size_at others i) = omega arith in
    cut_same _ _ _ _ (cut_behind _ _ _ _ there text) (start_at (Token kind text others) (suc i)) (end_at (Token kind text others) (suc i)) (text_at others i)
    refl (ap (start_at (Token kind text others)) next) refl
cut (Node kind inner others) texts zero below =
    let all : 0 + size_at (Node kind inner others) 0 ≡ suc (size inner) = omega arith in
    let ends = ap (start_at (Node kind inner others)) all ∙ (start-within kind inner others (size inner) (omega arith) ∙ (start-all inner ∙ sym (length-text_of inner))) in
    cut_first (text_of inner) (text_of others) (end_at (Node kind inner others) 0) ends (IsUtf8-texts inner texts.0) (IsUtf8-texts others texts.1)
cut (Node kind inner others) texts (suc i) below =
    let tree = Node kind inner others in
    elim (cases_lt i (size inner)) [
      | inl lt ↦
          let same = at-inner kind inner others i lt in
          let end : suc i + size_at tree (suc i) ≡ suc (i + size_at inner i) = omega (arith, ap (λ f. size (inner_of f)) same) in
          cut_same _ _ _ _ (cut_before _ _ _ _ (cut inner texts.0 i lt) (text_of others) (IsUtf8-texts others texts.1)) (start_at tree (suc i)) (end_at tree (suc i)) (text_at tree (suc i))
          (start-inner kind inner others i lt)
          (ap (start_at tree) end ∙ start-within kind inner others (i + size_at inner i) (at-within inner i lt))
          (ap first_text same)
      | inr ge ↦
          let j = i - size inner in
          let same = at-others kind inner others i ge in
          let end : suc i + size_at tree (suc i) ≡ suc (i + size_at others j) = omega (arith, ap (λ f. size (inner_of f)) same) in
          let past : i + size_at others j - size inner ≡ j + size_at others j = omega arith in
          let bytes = ap (λ n. n + start_at others j) (sym (length-text_of inner)) in
          let bytes' = ap (λ n. n + start_at others (j + size_at others j)) (sym (length-text_of inner)) in
          cut_same _ _ _ _ (cut_behind _ _ _ _ (cut others texts.1 j (omega (arith, below, ge))) (text_of inner)) (start_at tree (suc i)) (end_at tree (suc i)) (text_at tree (suc i))
          (start-others kind inner others i ge ∙ bytes)
          (ap (start_at tree) end ∙ (start-others kind inner others (i + size_at others j) (omega arith) ∙ (ap (λ n. forest_bytes inner + start_at others n) past ∙ bytes')))
          (ap first_text same)
    ]
cut (Error text pos others) texts at below = cut others texts at below

-- ---- the same in bytes

-- bytes of a text, from one to another, are those of characters
pub record IsSlice (text : List ℕ) (start end : ℕ) (here : List ℕ) : Type 0 where
  pub ascends : start ≤ end
  pub within : end ≤ length text
  pub starts : IsCharBoundary text start
  pub ends : IsCharBoundary text end
  pub is : slice_range text start end ≡ encode_utf8_all here
  pub bytes : start + length (encode_utf8_all here) ≡ end
  pub chars_are : chars (encode_utf8_all here) ≡ here

-- a text between two others
pub slice_between : (before text behind : List ℕ) (start end : ℕ) → start ≡ length before → end ≡ start + length text → slice_range (before ++ (text ++ behind)) start end ≡ text
slice_between before text behind start end starts ends =
    let len : end - start ≡ length text = omega arith in
    ap (λ n. take n (drop start (before ++ (text ++ behind)))) len
    ∙ (ap (take (length text)) (drop_at before (text ++ behind) start (sym starts)) ∙ take_at text behind (length text) refl)

slice_of : (text before here behind : List ℕ) (start end : ℕ) → text ≡ encode_utf8_all before ++ (encode_utf8_all here ++ encode_utf8_all behind)
    → start ≡ length (encode_utf8_all before) → end ≡ start + length (encode_utf8_all here) → IsUtf8 (encode_utf8_all here) → IsUtf8 (encode_utf8_all behind)
    → IsSlice text start end here
slice_of text before here behind start end is starts ends utf8 rest =
    let a = encode_utf8_all before in
    let b = encode_utf8_all here in
    let c = encode_utf8_all behind in
    let ends_at : length (a ++ b) ≡ end = omega (arith, length-append a b) in
    record {
      ascends = omega arith;
      within = omega (arith, ap length is, length-append a (b ++ c), length-append b c);
      starts = subst (IsCharBoundary text) (sym starts) (IsCharBoundary-at_seam text a (b ++ c) is (IsUtf8-append b c utf8 rest));
      ends = subst (IsCharBoundary text) ends_at (IsCharBoundary-at_seam text (a ++ b) c (is ∙ sym (append_assoc a b c)) rest);
      is = ap (λ t. slice_range t start end) is ∙ slice_between a b c start end starts ends;
      bytes = sym ends;
      chars_are = sym (chars_from_encodes here b utf8 refl);
    }

module _ (laid : Laid) (tree : Forest) (is : IsTree laid tree) where
  pub elements_are : length laid.elements ≡ size tree
  elements_are = ap length is.elements ∙ length-layout tree 4294967295 0 0 0

  pub bytes_are : length laid.text ≡ forest_bytes tree
  bytes_are = ap length is.text ∙ length-text_of tree

  -- the text of the element at a place is a slice of the tree's
  pub slices : (at : ℕ) → at < length laid.elements → IsSlice laid.text (start_at tree at) (end_at tree at) (text_at tree at)
  slices at below =
      let c = cut tree is.texts at (omega (arith, below, elements_are)) in
      let here = text_at tree at in
      slice_of laid.text c.before here c.behind (start_at tree at) (end_at tree at)
      (is.text ∙ (ap encode_utf8_all c.is ∙ (encodes-append c.before (here ++ c.behind) ∙ ap (λ t. encode_utf8_all c.before ++ t) (encodes-append here c.behind))))
      c.starts c.ends c.utf8 c.rest
