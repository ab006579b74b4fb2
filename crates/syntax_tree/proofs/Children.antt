-- The children of a node are the elements that stand in it.
use Rattle.std.proofs.Common.{◌≡◌, ◌∙◌, inl, inr, ℕ, zero, suc, ◌+◌, ◌<◌, ◌≤◌, ◌==◌, Bool, [], ◌∷◌, ◌++◌, length, arith, ap, sym, refl, subst, add-zero, zero-add, encode_utf8_all, filter, false}
use Rattle.std.specs.List.{range_with_len}
use Rattle.std.proofs.lemmas.Bool.{cases_eq, cond-true, cond-false, eq-eqb, ne_eqb}
use Rattle.std.proofs.lemmas.List.Elements.{filter-append}
use Rattle.squawk_tree.specs.Forest.{Forest, Nothing, Token, Node, Error, forest_bytes}
use Rattle.syntax_tree.specs.Trees.{size, inner_of, places, StartsWith, EndsWith}
use Rattle.syntax_tree.specs.Layout.{Laid, last_of, outermost}
use Rattle.syntax_tree.specs.Views.{element_in}
use Rattle.syntax_tree.proofs.Beside.{beside, last_of-none}
use Rattle.syntax_tree.proofs.Laid.{AreLaid, laid_at, laid_behind_token, laid_within_node, laid_behind_node, parents_are}
use Rattle.syntax_tree.proofs.Places.{Begins, others_of}

-- ---- places of trees beside each other

pub places-beside : (f g : Forest) (at : ℕ) → places at (beside f g) ≡ places at f ++ places (at + size f) g
places-beside Nothing g at = ap (λ a. places a g) (sym (add-zero at))
places-beside (Token kind text others) g at =
    let n : at + 1 + size others ≡ at + suc (size others) = omega arith in
    ap (λ l. at ∷ l) (places-beside others g (at + 1) ∙ ap (λ a. places (at + 1) others ++ places a g) n)
places-beside (Node kind inner others) g at =
    let n : at + 1 + size inner + size others ≡ at + suc (size inner + size others) = omega arith in
    ap (λ l. at ∷ l) (places-beside others g (at + 1 + size inner) ∙ ap (λ a. places (at + 1 + size inner) others ++ places a g) n)
places-beside (Error text pos others) g at = places-beside others g at

pub places_none : (f : Forest) (at : ℕ) → size f ≡ 0 → places at f ≡ []
places_none Nothing at none = refl
places_none (Token kind text others) at none = absurd (omega (arith, none))
places_none (Node kind inner others) at none = absurd (omega (arith, none))
places_none (Error text pos others) at none = places_none others at none

pub places_parts : (f : Forest) (at : ℕ) → Begins f → places at f ≡ at ∷ places (at + suc (size (inner_of f))) (others_of f)
places_parts Nothing at begins = absurd begins
places_parts (Token kind text others) at begins = refl
places_parts (Node kind inner others) at begins =
    let n : at + 1 + size inner ≡ at + suc (size inner) = omega arith in
    ap (λ a. at ∷ places a others) n
places_parts (Error text pos others) at begins = absurd begins

pub starts_with : (f : Forest) (at : ℕ) → 1 ≤ size f → StartsWith (places at f) at
starts_with Nothing at some = absurd (omega (arith, some))
starts_with (Token kind text others) at some = record { behind = places (at + 1) others; is = refl }
starts_with (Node kind inner others) at some = record { behind = places (at + 1 + size inner) others; is = refl }
starts_with (Error text pos others) at some = starts_with others at some

-- the last of them, behind another place
last_behind : (at next : ℕ) (others : Forest) → ((none : ℕ) → 1 ≤ size others → EndsWith (places next others) (last_of others next none))
    → EndsWith (at ∷ places next others) (last_of others next at)
last_behind at next others ends = elim (cases_eq (size others) 0) [
  | inl none ↦ record {
    before = [];
    is = ap (λ l. at ∷ l) (places_none others next none) ∙ ap (λ n. n ∷ []) (sym (last_of-none others next at none));
  }
  | inr some ↦ record {
    before = at ∷ (ends at (omega (arith, some))).before;
    is = ap (λ l. at ∷ l) (ends at (omega (arith, some))).is;
  }
]

pub ends_with : (f : Forest) (at none : ℕ) → 1 ≤ size f → EndsWith (places at f) (last_of f at none)
ends_with Nothing at none some = absurd (omega (arith, some))
ends_with (Token kind text others) at none some = last_behind at (at + 1) others (λ none. ends_with others (at + 1) none)
ends_with (Node kind inner others) at none some = last_behind at (at + 1 + size inner) others (λ none. ends_with others (at + 1 + size inner) none)
ends_with (Error text pos others) at none some = ends_with others at none some

pub last_below : (f : Forest) (at none n : ℕ) → none < n → at + size f ≤ n → last_of f at none < n
last_below Nothing at none n before within = before
last_below (Token kind text others) at none n before within = last_below others (at + 1) at n (omega (arith, within)) (omega (arith, within))
last_below (Node kind inner others) at none n before within =
    last_below others (at + 1 + size inner) at n (omega (arith, within)) (omega (arith, within))
last_below (Error text pos others) at none n before within = last_below others at none n before within

-- ---- places of a list whose element stands in a node

pub range_with_len-append : (a n m : ℕ) → range_with_len a (n + m) ≡ range_with_len a n ++ range_with_len (a + n) m
range_with_len-append a zero m = ap (range_with_len a) (zero-add m) ∙ ap (λ b. range_with_len b m) (sym (add-zero a))
range_with_len-append a (suc n) m =
    let len : suc n + m ≡ suc (n + m) = omega arith in
    let at : a + 1 + n ≡ a + suc n = omega arith in
    ap (range_with_len a) len ∙ ap (λ l. a ∷ l) (range_with_len-append (a + 1) n m ∙ ap (λ b. range_with_len (a + 1) n ++ range_with_len b m) at)

pub filter-none : (p : ℕ → Bool) (a n : ℕ) → ((i : ℕ) → a ≤ i → i < a + n → p i ≡ false) → filter p (range_with_len a n) ≡ []
filter-none p a zero none = refl
filter-none p a (suc n) none =
    cond-false (p a) (a ∷ filter p (range_with_len (a + 1) n)) (filter p (range_with_len (a + 1) n)) (none a (omega arith) (omega arith))
    ∙ filter-none p (a + 1) n (λ i above below. none i (omega (arith, above)) (omega (arith, below)))

module _ (laid : Laid) (node : ℕ) where
  -- those of trees in a node are the places of the trees
  pub children_laid : (f : Forest) (at start all : ℕ) → node < at → AreLaid laid f node at start all
      → filter (λ i. (element_in laid i).parent == node) (range_with_len at (size f)) ≡ places at f
  children_laid Nothing at start all above laid_are = refl
  children_laid (Token kind text others) at start all above laid_are =
      let p = λ (i : ℕ). (element_in laid i).parent == node in
      let rest = range_with_len (at + 1) (size others) in
      let parent = ap (λ e. e.parent) (ap (element_in laid) (sym (add-zero at)) ∙ laid_are 0 (omega arith)) in
      cond-true (p at) (at ∷ filter p rest) (filter p rest) (eq-eqb _ node parent)
      ∙ ap (λ l. at ∷ l)
      (children_laid others (at + 1) (start + length (encode_utf8_all text)) all (omega (arith, above)) (laid_behind_token laid node at start all kind text others laid_are))
  children_laid (Node kind inner others) at start all above laid_are =
      let p = λ (i : ℕ). (element_in laid i).parent == node in
      let within = range_with_len (at + 1) (size inner) in
      let behind = range_with_len (at + 1 + size inner) (size others) in
      let rest = range_with_len (at + 1) (size inner + size others) in
      let parent = ap (λ e. e.parent) (ap (element_in laid) (sym (add-zero at)) ∙ laid_are 0 (omega arith)) in
      let none = filter-none p (at + 1) (size inner) (λ i from below. ne_eqb _ node (λ is.
      elim (parents_are laid at (at + 1) start (outermost others at all) inner (laid_within_node laid node at start all kind inner others laid_are) i from below) [
        | inl same ↦ omega (arith, same, is, above)
        | inr more ↦ omega (arith, more, is, above)
      ])) in
      let later = children_laid others (at + 1 + size inner) (start + forest_bytes inner) all (omega (arith, above)) (laid_behind_node laid node at start all kind inner others laid_are) in
      cond-true (p at) (at ∷ filter p rest) (filter p rest) (eq-eqb _ node parent)
      ∙ ap (λ l. at ∷ l)
      (ap (filter p) (range_with_len-append (at + 1) (size inner) (size others))
      ∙ (filter-append p within behind ∙ (ap (λ l. l ++ filter p behind) none ∙ later)))
  children_laid (Error text pos others) at start all above laid_are = children_laid others at start all above laid_are

-- ---- what is in an element, and behind it

pub first_parent : (f : Forest) (node at start all : ℕ) → 1 ≤ size f → (laid_at f node at start all 0).parent ≡ node
first_parent Nothing node at start all some = absurd (omega (arith, some))
first_parent (Token kind text others) node at start all some = refl
first_parent (Node kind inner others) node at start all some = refl
first_parent (Error text pos others) node at start all some = first_parent others node at start all some

module _ (laid : Laid) (node at start all : ℕ) where
  pub inner_are : (f : Forest) → Begins f → AreLaid laid f node at start all → (all' : ℕ) × AreLaid laid (inner_of f) at (at + 1) start all'
  inner_are Nothing begins laid_are = absurd begins
  inner_are (Token kind text others) begins laid_are = (all, λ i below. absurd (omega (arith, below)))
  inner_are (Node kind inner others) begins laid_are = (outermost others at all, laid_within_node laid node at start all kind inner others laid_are)
  inner_are (Error text pos others) begins laid_are = absurd begins

  pub others_laid : (f : Forest) → Begins f → AreLaid laid f node at start all
      → (start' : ℕ) × AreLaid laid (others_of f) node (at + suc (size (inner_of f))) start' all
  others_laid Nothing begins laid_are = absurd begins
  others_laid (Token kind text others) begins laid_are =
      (start + length (encode_utf8_all text), laid_behind_token laid node at start all kind text others laid_are)
  others_laid (Node kind inner others) begins laid_are =
      let n : at + 1 + size inner ≡ at + suc (size inner) = omega arith in
      let start' = start + forest_bytes inner in
      (start', subst (λ a. AreLaid laid others node a start' all) n (laid_behind_node laid node at start all kind inner others laid_are))
  others_laid (Error text pos others) begins laid_are = absurd begins
