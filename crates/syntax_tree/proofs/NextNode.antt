-- The nodes and the tokens among siblings.
use Rattle.std.proofs.Common.{◌≡◌, ◌∙◌, ℕ, List, [], ◌∷◌, ◌++◌, arith, ap, sym, refl, append_assoc, not, true, false}
use Rattle.std.proofs.lemmas.Bool.{cond-true, cond-false}
use Rattle.std.proofs.lemmas.List.Elements.{filter-append}
use Rattle.squawk_tree.specs.Forest.{Forest}
use Rattle.syntax_tree.specs.Trees.{is_token_at, children_of, nodes_among, EndsWith, AreNeighbours, IsFirst, IsLast, TokensBetween, IsLastNode, IsPreviousNode, IsFirstNode}
use Rattle.syntax_tree.specs.Layout.{Laid, IsTree}
use Rattle.syntax_tree.proofs.Unique.{child_later, one_child}

-- ---- nodes among places

module _ (tree : Forest) (x : ℕ) (list : List ℕ) where
  pub token_left_out : is_token_at tree x ≡ true → nodes_among tree (x ∷ list) ≡ nodes_among tree list
  token_left_out token = cond-false (not (is_token_at tree x)) (x ∷ nodes_among tree list) (nodes_among tree list) (ap not token)

  pub node_kept : is_token_at tree x ≡ false → nodes_among tree (x ∷ list) ≡ x ∷ nodes_among tree list
  node_kept node = cond-true (not (is_token_at tree x)) (x ∷ nodes_among tree list) (nodes_among tree list) (ap not node)

nodes-append : (tree : Forest) (a b : List ℕ) → nodes_among tree (a ++ b) ≡ nodes_among tree a ++ nodes_among tree b
nodes-append tree a b = filter-append (λ at. not (is_token_at tree at)) a b

-- ---- from a place to a later one among siblings

pub neighbours_before : (tree : Forest) (at next : ℕ) → AreNeighbours tree at next → TokensBetween tree at next
neighbours_before tree at next are = record {
  node = are.node;
  before = are.before;
  between = [];
  behind = are.behind;
  children = are.children;
  tokens = refl;
}

pub last_alone : (tree : Forest) (at : ℕ) → IsLast tree at → IsLastNode tree at
last_alone tree at (IsLast.Root is) = IsLastNode.Root is
last_alone tree at (IsLast.LastChild node ends) = IsLastNode.LastNode node ends.before [] ends.is refl

pub first_alone : (tree : Forest) (at : ℕ) → IsFirst tree at → IsFirstNode tree at
first_alone tree at (IsFirst.Root is) = IsFirstNode.Root is
first_alone tree at (IsFirst.FirstChild node starts) = IsFirstNode.FirstNode node [] starts.behind starts.is refl

module _ (laid : Laid) (tree : Forest) (is : IsTree laid tree) (at next : ℕ) (b : TokensBetween tree at next) where
  -- its children, up to the later place
  up_to : children_of tree b.node ≡ (b.before ++ at ∷ b.between) ++ next ∷ b.behind
  up_to = b.children ∙ sym (append_assoc b.before (at ∷ b.between) (next ∷ b.behind))

  module _ (token : is_token_at tree next ≡ true) where
    more_tokens : nodes_among tree (b.between ++ next ∷ []) ≡ []
    more_tokens = nodes-append tree b.between (next ∷ []) ∙ (ap (λ l. l ++ nodes_among tree (next ∷ [])) b.tokens ∙ token_left_out tree next [] token)

    -- the later place moves on
    pub before_next : (next' : ℕ) → AreNeighbours tree next next' → TokensBetween tree at next'
    before_next next' are =
        let one = one_child laid tree is b.node are.node next (b.before ++ at ∷ b.between) b.behind are.before (next' ∷ are.behind) up_to are.children in
        record {
          node = b.node;
          before = b.before;
          between = b.between ++ next ∷ [];
          behind = are.behind;
          children = b.children
              ∙ (ap (λ l. b.before ++ at ∷ (b.between ++ next ∷ l)) one.behind
              ∙ ap (λ l. b.before ++ at ∷ l) (sym (append_assoc b.between (next ∷ []) (next' ∷ are.behind))));
          tokens = more_tokens;
        }

    pub last_node : IsLast tree next → IsLastNode tree at
    last_node (IsLast.Root root) = absurd (omega (arith, root, child_later tree b.node next (b.before ++ at ∷ b.between) b.behind up_to))
    last_node (IsLast.LastChild node ends) =
        let one = one_child laid tree is b.node node next (b.before ++ at ∷ b.between) b.behind ends.before [] up_to ends.is in
        IsLastNode.LastNode b.node b.before (b.between ++ next ∷ [])
        (b.children ∙ ap (λ l. b.before ++ at ∷ (b.between ++ next ∷ l)) one.behind) more_tokens

  module _ (token : is_token_at tree at ≡ true) where
    -- the earlier place moves back
    pub before_previous : (previous : ℕ) → AreNeighbours tree previous at → TokensBetween tree previous next
    before_previous previous are =
        let split = are.children ∙ sym (append_assoc are.before (previous ∷ []) (at ∷ are.behind)) in
        let one = one_child laid tree is b.node are.node at b.before (b.between ++ next ∷ b.behind) (are.before ++ previous ∷ []) are.behind b.children split in
        record {
          node = b.node;
          before = are.before;
          between = at ∷ b.between;
          behind = b.behind;
          children = b.children
              ∙ (ap (λ l. l ++ at ∷ (b.between ++ next ∷ b.behind)) one.before
              ∙ append_assoc are.before (previous ∷ []) (at ∷ (b.between ++ next ∷ b.behind)));
          tokens = token_left_out tree at b.between token ∙ b.tokens;
        }

    pub first_node : IsFirst tree at → IsFirstNode tree next
    first_node (IsFirst.Root root) = absurd (omega (arith, root, child_later tree b.node at b.before (b.between ++ next ∷ b.behind) b.children))
    first_node (IsFirst.FirstChild node starts) =
        let one = one_child laid tree is b.node node at b.before (b.between ++ next ∷ b.behind) [] starts.behind b.children starts.is in
        IsFirstNode.FirstNode b.node (at ∷ b.between) b.behind
        (b.children ∙ ap (λ l. l ++ at ∷ (b.between ++ next ∷ b.behind)) one.before) (token_left_out tree at b.between token ∙ b.tokens)

-- ---- the last node among children

module _ (laid : Laid) (tree : Forest) (is : IsTree laid tree) (node last : ℕ) (ends : EndsWith (children_of tree node) last)
    (token : is_token_at tree last ≡ true) where
  pub no_child_node : IsFirstNode tree last → nodes_among tree (children_of tree node) ≡ []
  no_child_node (IsFirstNode.Root root) = absurd (omega (arith, root, child_later tree node last ends.before [] ends.is))
  no_child_node (IsFirstNode.FirstNode node' before behind children tokens) =
      let one = one_child laid tree is node node' last ends.before [] before behind ends.is children in
      ap (nodes_among tree) (ends.is ∙ ap (λ l. l ++ last ∷ []) one.before)
      ∙ (nodes-append tree before (last ∷ []) ∙ (ap (λ l. l ++ nodes_among tree (last ∷ [])) tokens ∙ token_left_out tree last [] token))

  pub child_node_before : (previous : ℕ) → IsPreviousNode tree previous last → EndsWith (nodes_among tree (children_of tree node)) previous
  child_node_before previous p =
      let split = p.0.children ∙ sym (append_assoc p.0.before (previous ∷ p.0.between) (last ∷ p.0.behind)) in
      let one = one_child laid tree is node p.0.node last ends.before [] (p.0.before ++ previous ∷ p.0.between) p.0.behind ends.is split in
      let tokens = nodes-append tree p.0.between (last ∷ []) ∙ (ap (λ l. l ++ nodes_among tree (last ∷ [])) p.0.tokens ∙ token_left_out tree last [] token) in
      let children : children_of tree node ≡ p.0.before ++ previous ∷ (p.0.between ++ last ∷ []) =
      ends.is ∙ (ap (λ l. l ++ last ∷ []) one.before ∙ append_assoc p.0.before (previous ∷ p.0.between) (last ∷ [])) in
      record {
        before = nodes_among tree p.0.before;
        is = ap (nodes_among tree) children
            ∙ (nodes-append tree p.0.before (previous ∷ (p.0.between ++ last ∷ []))
            ∙ ap (λ l. nodes_among tree p.0.before ++ l)
            (node_kept tree previous (p.0.between ++ last ∷ []) p.1 ∙ ap (λ l. previous ∷ l) tokens));
      }
