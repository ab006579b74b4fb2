-- An element stands in one node, and once in it.
use Rattle.std.proofs.Common.{◌≡◌, ◌∙◌, inl, inr, ℕ, zero, suc, ◌+◌, ◌-◌, ◌<◌, ◌≤◌, ◌==◌, Bool, List, [], ◌∷◌, ◌++◌, length, arith, ap, sym, refl, filter, true}
use Rattle.std.proofs.lemmas.Bool.{cases_lt, cases_Bool, cond-true, cond-false, eqb-true}
use Rattle.squawk_tree.specs.Forest.{Forest, Nothing, Token, Node, Error}
use Rattle.syntax_tree.specs.Trees.{size, forest_at, inner_of, places, places_between, children_of, AreNeighbours}
use Rattle.syntax_tree.specs.Layout.{Laid, IsTree}
use Rattle.syntax_tree.specs.Views.{element_in}
use Rattle.syntax_tree.proofs.Texts.{at-others, elements_are}
use Rattle.syntax_tree.proofs.ChildrenLeft.{children_are}

-- ---- a place in a list of places

-- not the first of them
above_places : (f : Forest) (at x : ℕ) (b c : List ℕ) → places at f ≡ b ++ x ∷ c → at ≤ x
above_places Nothing at x [] c is = cc
above_places Nothing at x (y ∷ b) c is = cc
above_places (Token kind text others) at x [] c is = let same : at ≡ x = cc in omega arith
above_places (Token kind text others) at x (y ∷ b) c is =
    let rest : places (at + 1) others ≡ b ++ x ∷ c = cc in
    omega (arith, above_places others (at + 1) x b c rest)
above_places (Node kind inner others) at x [] c is = let same : at ≡ x = cc in omega arith
above_places (Node kind inner others) at x (y ∷ b) c is =
    let rest : places (at + 1 + size inner) others ≡ b ++ x ∷ c = cc in
    omega (arith, above_places others (at + 1 + size inner) x b c rest)
above_places (Error text pos others) at x b c is = above_places others at x b c is

-- they ascend
ascends : (f : Forest) (at x y : ℕ) (b c : List ℕ) → places at f ≡ b ++ x ∷ y ∷ c → x < y
ascends Nothing at x y [] c is = cc
ascends Nothing at x y (z ∷ b) c is = cc
ascends (Token kind text others) at x y [] c is =
    let same : at ≡ x = cc in
    let rest : places (at + 1) others ≡ y ∷ c = cc in
    omega (arith, above_places others (at + 1) y [] c rest)
ascends (Token kind text others) at x y (z ∷ b) c is = let rest : places (at + 1) others ≡ b ++ x ∷ y ∷ c = cc in ascends others (at + 1) x y b c rest
ascends (Node kind inner others) at x y [] c is =
    let same : at ≡ x = cc in
    let rest : places (at + 1 + size inner) others ≡ y ∷ c = cc in
    omega (arith, above_places others (at + 1 + size inner) y [] c rest)
ascends (Node kind inner others) at x y (z ∷ b) c is =
    let rest : places (at + 1 + size inner) others ≡ b ++ x ∷ y ∷ c = cc in
    ascends others (at + 1 + size inner) x y b c rest
ascends (Error text pos others) at x y b c is = ascends others at x y b c is

pub neighbours_ascend : (tree : Forest) (at next : ℕ) → AreNeighbours tree at next → at < next
neighbours_ascend tree at next are = ascends (inner_of (forest_at tree are.node)) (are.node + 1) at next are.before are.behind are.children

-- a list may be split at an item in one way
abbrev SplitsOnce : List ℕ → ℕ → Type 0
SplitsOnce list x = (b c b' c' : List ℕ) → list ≡ b ++ x ∷ c → list ≡ b' ++ x ∷ c' → (b ≡ b') × (c ≡ c')

split-cons : (at x : ℕ) (list : List ℕ) → ((b c : List ℕ) → list ≡ b ++ x ∷ c → at < x) → SplitsOnce list x → SplitsOnce (at ∷ list) x
split-cons at x list above once [] c [] c' is is' = (refl, cc)
split-cons at x list above once [] c (y ∷ b') c' is is' =
    let same : at ≡ x = cc in
    let rest : list ≡ b' ++ x ∷ c' = cc in
    absurd (omega (arith, above b' c' rest))
split-cons at x list above once (y ∷ b) c [] c' is is' =
    let same : at ≡ x = cc in
    let rest : list ≡ b ++ x ∷ c = cc in
    absurd (omega (arith, above b c rest))
split-cons at x list above once (y ∷ b) c (z ∷ b') c' is is' =
    let rest : list ≡ b ++ x ∷ c = cc in
    let rest' : list ≡ b' ++ x ∷ c' = cc in
    let same = once b c b' c' rest rest' in
    let front = same.0 in
    (cc, same.1)

places_once : (f : Forest) (at x : ℕ) → SplitsOnce (places at f) x
places_once Nothing at x [] c b' c' is is' = cc
places_once Nothing at x (y ∷ b) c b' c' is is' = cc
places_once (Token kind text others) at x b c b' c' is is' =
    split-cons at x (places (at + 1) others) (λ b c rest. omega (arith, above_places others (at + 1) x b c rest)) (places_once others (at + 1) x) b c b' c' is is'
places_once (Node kind inner others) at x b c b' c' is is' =
    split-cons at x (places (at + 1 + size inner) others) (λ b c rest. omega (arith, above_places others (at + 1 + size inner) x b c rest))
    (places_once others (at + 1 + size inner) x) b c b' c' is is'
places_once (Error text pos others) at x b c b' c' is is' = places_once others at x b c b' c' is is'

-- ---- the node of a child

passes : (p : ℕ → Bool) (l : List ℕ) (x : ℕ) (b c : List ℕ) → filter p l ≡ b ++ x ∷ c → p x ≡ true
passes p [] x [] c is = cc
passes p [] x (y ∷ b) c is = cc
passes p (z ∷ l) x [] c is = elim (cases_Bool (p z)) [
  | inl t ↦
      let all : z ∷ filter p l ≡ x ∷ c = sym (cond-true (p z) (z ∷ filter p l) (filter p l) t) ∙ is in
      let same : z ≡ x = cc in
      ap p (sym same) ∙ t
  | inr f ↦ passes p l x [] c (sym (cond-false (p z) (z ∷ filter p l) (filter p l) f) ∙ is)
]
passes p (z ∷ l) x (y ∷ b) c is = elim (cases_Bool (p z)) [
  | inl t ↦
      let all : z ∷ filter p l ≡ y ∷ (b ++ x ∷ c) = sym (cond-true (p z) (z ∷ filter p l) (filter p l) t) ∙ is in
      let rest : filter p l ≡ b ++ x ∷ c = cc in
      passes p l x b c rest
  | inr f ↦ passes p l x (y ∷ b) c (sym (cond-false (p z) (z ∷ filter p l) (filter p l) f) ∙ is)
]

pub past_end : (f : Forest) (i : ℕ) → size f ≤ i → forest_at f i ≡ Nothing
past_end Nothing i above = refl
past_end (Token kind text others) zero above = absurd (omega (arith, above))
past_end (Token kind text others) (suc i) above = past_end others i (omega (arith, above))
past_end (Node kind inner others) zero above = absurd (omega (arith, above))
past_end (Node kind inner others) (suc i) above =
    at-others kind inner others i (omega (arith, above)) ∙ past_end others (i - size inner) (omega (arith, above))
past_end (Error text pos others) i above = past_end others i above

pub child_later : (tree : Forest) (node x : ℕ) (b c : List ℕ) → children_of tree node ≡ b ++ x ∷ c → node < x
child_later tree node x b c children = omega (arith, above_places (inner_of (forest_at tree node)) (node + 1) x b c children)

-- two places are those of one child
pub record IsOneChild (node node' : ℕ) (b b' c c' : List ℕ) : Type 0 where
  pub node_is : node ≡ node'
  pub before : b ≡ b'
  pub behind : c ≡ c'

module _ (laid : Laid) (tree : Forest) (is : IsTree laid tree) where
  no_children : (node x : ℕ) (b c : List ℕ) → size tree ≤ node → children_of tree node ≡ b ++ x ∷ c → ⊥
  no_children node x b c above children = empty b (sym (ap (λ f. places (node + 1) (inner_of f)) (past_end tree node above)) ∙ children)
    where
      empty : (b : List ℕ) → [] ≡ b ++ x ∷ c → ⊥
      empty [] none = cc
      empty (y ∷ b) none = cc

  pub parent_is : (node x : ℕ) (b c : List ℕ) → children_of tree node ≡ b ++ x ∷ c → (element_in laid x).parent ≡ node
  parent_is node x b c children =
      let below : node < length laid.elements = elim (cases_lt node (size tree)) [
        | inl lt ↦ omega (arith, lt, elements_are laid tree is)
        | inr ge ↦ absurd (no_children node x b c ge children)
      ] in
      let p = λ (i : ℕ). (element_in laid i).parent == node in
      eqb-true (element_in laid x).parent node
      (passes p (places_between (node + 1) (element_in laid node).behind) x b c (children_are laid tree is node below ∙ children))

  pub one_child : (node node' x : ℕ) (b c b' c' : List ℕ) → children_of tree node ≡ b ++ x ∷ c → children_of tree node' ≡ b' ++ x ∷ c'
      → IsOneChild node node' b b' c c'
  one_child node node' x b c b' c' first second =
      let same : node ≡ node' = sym (parent_is node x b c first) ∙ parent_is node' x b' c' second in
      let once = places_once (inner_of (forest_at tree node)) (node + 1) x b c b' c' first (ap (children_of tree) same ∙ second) in
      record { node_is = same; before = once.0; behind = once.1 }
