-- The kinds that are told where four tokens don't decide.
use Rattle.std.proofs.Common.{◌≡◌, ◌∙◌, ℕ, zero, suc, ◌+◌, ◌<◌, List, [], ◌∷◌, drop, length, map, slice_set, take, arith, ap, refl, subst, sym}
use Rattle.std.proofs.lemmas.List.{drop-set, length-drop, length-map, take-set}
use Rattle.rule_grammar.specs.Parts.{bit_of}
use Rattle.rule_tables.specs.Places.{AreTold, ComeBoth}
use Rattle.rule_tables.specs.Strands.{ComesLater, GoOnBoth}
use Rattle.rule_tables.specs.declared.trail.Trail.{Trail}
use Rattle.rule_tables.proofs.Listing.{both_as}

-- a word that begins as another does with one item set
front_step : (d : ℕ) (word path : List ℕ) (kind : ℕ) → d < length path → take (suc d) word ≡ take (suc d) (slice_set path d kind) → (take d word ≡ take d path) × (drop d word ≡ kind ∷ drop (suc d) word)
front_step zero word [] kind lt e = absurd (omega (arith, lt))
front_step zero [] (p ∷ ps) kind lt e = absurd cc
front_step zero (w ∷ ws) (p ∷ ps) kind lt e = let same : w ≡ kind = cc in (refl, ap (λ (x : ℕ). x ∷ ws) same)
front_step (suc d) word [] kind lt e = absurd (omega (arith, lt))
front_step (suc d) [] (p ∷ ps) kind lt e = absurd cc
front_step (suc d) (w ∷ ws) (p ∷ ps) kind lt e =
    let same : w ≡ p = cc in
    let rest : take (suc d) ws ≡ take (suc d) (slice_set ps d kind) = cc in
    let more : (take d ws ≡ take d ps) × (drop d ws ≡ kind ∷ drop (suc d) ws) = front_step d ws ps kind (omega (arith, lt)) rest in
    (rw same (ap (λ (xs : List ℕ). p ∷ xs) more.0), more.1)

drop_past : (n : ℕ) (xs : List ℕ) → length xs ≡ n → drop n xs ≡ []
drop_past zero [] e = refl
drop_past zero (x ∷ xs) e = absurd (omega (arith, e))
drop_past (suc n) [] e = absurd (omega (arith, e))
drop_past (suc n) (x ∷ xs) e = drop_past n xs (omega (arith, e))

module _ (P : ℕ → List ℕ → Type 0) where
  -- no token came before
  pub told_first : (row : ℕ) (trail : Trail) → trail.depth ≡ 0 → (kinds : List ℕ) → AreTold (GoOnBoth P row trail) kinds → AreTold (ComeBoth (P row) (ComesLater P row)) kinds
  told_first row trail none kinds told = (told.0, subst (λ (n : ℕ). ComeBoth (P row) (ComesLater P row) (drop n (map bit_of kinds))) none told.1.back)

  -- the last token is of a kind that comes both ways
  pub told_last : (row : ℕ) (trail : Trail) (told : List ℕ) (kind : ℕ) → trail.depth ≡ 3 → length trail.kinds ≡ 4 → length told ≡ 4 → map bit_of told ≡ slice_set (map bit_of trail.kinds) trail.depth kind → P row (kind ∷ []) → ComesLater P row (kind ∷ [])
      → AreTold (GoOnBoth P row trail) told
  told_last row trail told kind last four len is first second =
      let path : List ℕ = map bit_of trail.kinds in
      let long : length path ≡ 4 = length-map trail.kinds bit_of ∙ four in
      let one : drop trail.depth (slice_set path trail.depth kind) ≡ kind ∷ [] =
      drop-set path trail.depth kind (omega (arith, last, long)) ∙ ap (λ (xs : List ℕ). kind ∷ xs) (drop_past (trail.depth + 1) path (omega (arith, last, long))) in
      let back : drop trail.depth (map bit_of told) ≡ kind ∷ [] = ap (drop trail.depth) is ∙ one in (
        len,
        record { front = ap (take trail.depth) is ∙ take-set path trail.depth kind; back = subst (ComeBoth (P row) (ComesLater P row)) (sym back) (first, second) },
      )

  -- a token of the kind came before
  pub told_before : (Q : ℕ → List ℕ → Type 0) (kind : ℕ) → ((row next : ℕ) (word : List ℕ) → Q row (next ∷ word) → P row (kind ∷ next ∷ word)) → (row : ℕ) (trail next : Trail) → trail.depth < 3 → length trail.kinds ≡ 4 → next.depth ≡ trail.depth + 1
      → map bit_of next.kinds ≡ slice_set (map bit_of trail.kinds) trail.depth kind → (kinds : List ℕ) → AreTold (GoOnBoth Q row next) kinds → AreTold (GoOnBoth P row trail) kinds
  told_before Q kind to row trail next few four deeper is kinds told =
      let word : List ℕ = map bit_of kinds in
      let path : List ℕ = map bit_of trail.kinds in
      let long : length path ≡ 4 = length-map trail.kinds bit_of ∙ four in
      let wide : length word ≡ 4 = length-map kinds bit_of ∙ told.0 in
      let step : next.depth ≡ suc trail.depth = omega (arith, deeper) in
      let front : take (suc trail.depth) word ≡ take (suc trail.depth) (slice_set path trail.depth kind) =
      subst (λ (n : ℕ). take n word ≡ take n (slice_set path trail.depth kind)) step (told.1.front ∙ ap (take next.depth) is) in
      let back : ComeBoth (Q row) (ComesLater Q row) (drop (suc trail.depth) word) = subst (λ (n : ℕ). ComeBoth (Q row) (ComesLater Q row) (drop n word)) step told.1.back in
      let both : (take trail.depth word ≡ take trail.depth path) × (drop trail.depth word ≡ kind ∷ drop (suc trail.depth) word) = front_step trail.depth word path kind (omega (arith, few, long)) front in
      let came : P row (kind ∷ drop (suc trail.depth) word) × ComesLater (λ r w. P r (kind ∷ w)) row (drop (suc trail.depth) word) =
      both_as Q (λ r w. P r (kind ∷ w)) to row (drop (suc trail.depth) word) (omega (arith, few, wide, length-drop (suc trail.depth) word)) back.0 back.1 in (
        told.0,
        record {
          front = both.0;
          back = subst (ComeBoth (P row) (ComesLater P row)) (sym both.1) (came.0, record { later = came.1.later; after = came.1.after; comes = came.1.comes });
        },
      )

-- what comes otherwise is told otherwise
pub told_as : (P Q : ℕ → List ℕ → Type 0) → ((row kind : ℕ) (word : List ℕ) → P row (kind ∷ word) → Q row (kind ∷ word)) → (row : ℕ) (kinds : List ℕ) → AreTold (ComeBoth (P row) (ComesLater P row)) kinds → AreTold (ComeBoth (Q row) (ComesLater Q row)) kinds
told_as P Q to row kinds told = (told.0, both_as P Q to row (map bit_of kinds) (omega (arith, told.0, length-map kinds bit_of)) told.1.0 told.1.1)
