-- The nodes, and the elements of one kind, that an iterator has left.
use Rattle.std.proofs.Common.{◌≡◌, ◌∙◌, inl, inr, ℕ, ◌==◌, List, [], ◌∷◌, Bool, length, map, filter, cond, not, arith, ap, sym, refl, true, false}
use Rattle.std.proofs.lemmas.Bool.{cases_lt}
use Rattle.std.proofs.lemmas.List.{get_or_past}
use Rattle.squawk_tree.specs.Forest.{Forest}
use Rattle.syntax_tree.specs.Trees.{Event, is_token, is_token_at, kind_at, kind_of, nodes_among, of_kind}
use Rattle.syntax_tree.specs.Layout.{Laid, IsTree}
use Rattle.syntax_tree.specs.Views.{place_in, element_in, no_element, kinds_left, nodes_left}
use Rattle.syntax_tree.specs.Walks.{in_tree, event_place, is_of_node, node_events}
use Rattle.syntax_tree.proofs.Texts.{elements_are}
use Rattle.syntax_tree.proofs.Places.{reads}
use Rattle.syntax_tree.proofs.Unique.{past_end}

-- a test of what a function gives is one of what it is given
filter-map_one : {A B : Type 0} (f : A → B) (b : Bool) (x : A) (list : List A) (rest : List B) → rest ≡ map f list → cond b (f x ∷ rest) rest ≡ map f (cond b (x ∷ list) list)
filter-map_one f true x list rest same = ap (λ l. f x ∷ l) same
filter-map_one f false x list rest same = same

pub filter-map : {A B : Type 0} (f : A → B) (p : B → Bool) (q : A → Bool) → ((x : A) → p (f x) ≡ q x) → (list : List A) → filter p (map f list) ≡ map f (filter q list)
filter-map f p q same [] = refl
filter-map f p q same (x ∷ list) =
    ap (λ b. cond b (f x ∷ filter p (map f list)) (filter p (map f list))) (same x)
    ∙ filter-map_one f (q x) x (filter q list) (filter p (map f list)) (filter-map f p q same list)

module _ (laid : Laid) (tree : Forest) (is : IsTree laid tree) where
  pub token_is : (at : ℕ) → (element_in laid at).is_token ≡ is_token_at tree at
  token_is at = elim (cases_lt at (length laid.elements)) [
    | inl lt ↦ (reads laid tree is at lt).is_token
    | inr ge ↦
        ap (λ e. e.is_token) (get_or_past laid.elements at no_element ge)
        ∙ ap is_token (sym (past_end tree at (omega (arith, elements_are laid tree is))))
  ]

  pub kind_is : (at : ℕ) → (element_in laid at).kind ≡ kind_at tree at
  kind_is at = elim (cases_lt at (length laid.elements)) [
    | inl lt ↦ (reads laid tree is at lt).kind
    | inr ge ↦
        ap (λ e. e.kind) (get_or_past laid.elements at no_element ge)
        ∙ ap kind_of (sym (past_end tree at (omega (arith, elements_are laid tree is))))
  ]

  pub nodes_left-map : (list : List ℕ) → nodes_left (map (place_in laid) list) ≡ map (place_in laid) (nodes_among tree list)
  nodes_left-map =
      filter-map (place_in laid) (λ place. not (element_in place.laid place.at).is_token) (λ at. not (is_token_at tree at)) (λ at. ap not (token_is at))

  pub kinds_left-map : (kind : ℕ) (list : List ℕ) → kinds_left kind (map (place_in laid) list) ≡ map (place_in laid) (of_kind tree kind list)
  kinds_left-map kind =
      filter-map (place_in laid) (λ place. (element_in place.laid place.at).kind == kind) (λ at. kind_at tree at == kind) (λ at. ap (λ k. k == kind) (kind_is at))

  pub node_events-map : (list : List Event) → filter is_of_node (map (in_tree laid) list) ≡ map (in_tree laid) (node_events tree list)
  node_events-map = filter-map (in_tree laid) is_of_node (λ e. not (is_token_at tree (event_place e))) (λ e. ap not (token_is (event_place e)))
