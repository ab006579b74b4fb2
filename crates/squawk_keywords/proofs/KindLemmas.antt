-- The kinds of words.
use Rattle.std.proofs.Common.{◌≡◌, ◌∙◌, ℕ, ◌+◌, ◌<◌, ◌≤◌, All, List, [], ◌∷◌, ◌++◌, length, get_or, take, sym, ap, subst, arith}
use Rattle.std.specs.Prelude.{◌==◌, ◌||◌, MatchOption}
use Rattle.std.proofs.Math.Bool.{or-false}
use Rattle.std.proofs.lemmas.List.{get_or-map, length-map, take_all, take_more}
use Rattle.std.proofs.lemmas.List.Elements.{All-cons, All-nil, All-push}
use Rattle.std.proofs.lemmas.List.Folds.{list_any-append}
use Rattle.squawk_kinds.specs.Kinds.{IsKeyword, IsTokenKind}
use Rattle.squawk_keywords.specs.KeywordPairs.{AreKeywords, IsFirstOther, has_kind, pairs_of}
use Rattle.squawk_keywords.proofs.KeywordPairLemmas.{slice_get-at}
use denote.Ref.{Bor}

module _ (words : List (Bor (List ℕ) × ℕ)) (i : ℕ) (word : Bor (List ℕ) × ℕ) (within : i < length words) (is : word ≡ get_or words i word) where
  inside : i < length (pairs_of words)
  inside = omega (arith, length-map {B = List ℕ × ℕ} words (λ one. (one.0.now, one.1)))

  stands : (d : List ℕ × ℕ) → (word.0.now, word.1) ≡ get_or (pairs_of words) i d
  stands d = sym (get_or-map (λ one. (one.0.now, one.1)) words i word d within ∙ ap (λ one. (one.0.now, one.1)) (sym is))

  -- one word more
  next : take (i + 1) (pairs_of words) ≡ take i (pairs_of words) ++ (word.0.now, word.1) ∷ []
  next = take_more (pairs_of words) i (word.0.now, word.1) inside ∙ ap (λ one. take i (pairs_of words) ++ one ∷ []) (sym (stands (word.0.now, word.1)))

  pub keyword-at : AreKeywords (pairs_of words) → IsKeyword word.1
  keyword-at are = subst (λ one. IsKeyword one.1) (sym (stands (word.0.now, word.1))) (are i (word.0.now, word.1) inside)

  pub keywords-next : AreKeywords (take i (pairs_of words)) → IsKeyword word.1 → AreKeywords (take (i + 1) (pairs_of words))
  keywords-next before keyword = subst AreKeywords (sym next) (All-push (λ one. IsKeyword one.1) (take i (pairs_of words)) (word.0.now, word.1) before keyword)

  pub first_other-at : AreKeywords (take i (pairs_of words)) → ¬ (IsKeyword word.1) → IsFirstOther (pairs_of words) i
  first_other-at before other = record {
    other = subst (λ one. MatchOption one ⊥ (λ found. ¬ (IsKeyword found.1))) (sym (slice_get-at (pairs_of words) i (word.0.now, word.1) inside stands)) other;
    before = before;
  }

  pub has_kind-next : (kind : ℕ) → has_kind (take (i + 1) (pairs_of words)) kind ≡ (has_kind (take i (pairs_of words)) kind || (word.1 == kind))
  has_kind-next kind =
      ap (λ pairs. has_kind pairs kind) next ∙ list_any-append (λ one. one.1 == kind) (take i (pairs_of words)) ((word.0.now, word.1) ∷ [])
      ∙ ap (λ last. has_kind (take i (pairs_of words)) kind || last) (or-false (word.1 == kind))

-- the set of a keyword's kind alone is of token kinds
pub one_kind : (kind : ℕ) → IsKeyword kind → All IsTokenKind (kind ∷ [])
one_kind kind keyword = All-cons IsTokenKind kind [] keyword.token (All-nil IsTokenKind)

-- after the last word
pub all_words : (words : List (Bor (List ℕ) × ℕ)) (i : ℕ) → length words ≤ i → take i (pairs_of words) ≡ pairs_of words
all_words words i le = take_all i (pairs_of words) (omega (arith, le, length-map {B = List ℕ × ℕ} words (λ one. (one.0.now, one.1))))
