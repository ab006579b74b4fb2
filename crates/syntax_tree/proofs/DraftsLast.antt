-- The last element of trees. It is a leaf, and in the layout it alone depends on the outermost element that ends with them.
use Rattle.std.proofs.Common.{◌≡◌, ◌∙◌, ℕ, ◌+◌, ◌≤◌, List, [], ◌∷◌, ◌++◌, length, arith, ap, sym, append_assoc, append-nil, inl, inr, eq-zero-or-pos, encode_utf8_all}
use Rattle.squawk_tree.specs.Forest.{Forest, Nothing, Token, Node, Error, forest_bytes}
use Rattle.syntax_tree.specs.Trees.{size}
use Rattle.syntax_tree.specs.Layout.{layout, last_of, token_element, node_element}
use Rattle.syntax_tree.specs.declared.element.Element.{Element}
use Rattle.syntax_tree.proofs.Beside.{last_of-none, last_of-some, outermost-none, outermost-some}
use Rattle.syntax_tree.proofs.Layouts.{layout-none}

abbrev pub with_last : ℕ → Element → Element
with_last all e = record e { last = all }

pub record Ending (f : Forest) (parent at start : ℕ) : Type 0 where
  pub front : List Element
  pub leaf : Element
  pub is : (all : ℕ) → layout f parent at start all ≡ front ++ with_last all leaf ∷ []

-- of a token
token_alone : (kind parent at start last all : ℕ) (rest : List Element) → last ≡ all → rest ≡ []
    → token_element kind parent at start last ∷ rest ≡ with_last all (token_element kind parent at start 0) ∷ []
token_alone kind parent at start last all rest p q = ap (λ x. token_element kind parent at start x ∷ rest) p ∙ ap (λ l. token_element kind parent at start all ∷ l) q

token_before : (kind parent at start last all : ℕ) (rest front : List Element) (leaf : Element) → last ≡ at → rest ≡ front ++ with_last all leaf ∷ []
    → token_element kind parent at start last ∷ rest ≡ (token_element kind parent at start at ∷ front) ++ with_last all leaf ∷ []
token_before kind parent at start last all rest front leaf p q =
    ap (λ x. token_element kind parent at start x ∷ rest) p ∙ ap (λ l. token_element kind parent at start at ∷ l) q

-- of a node, where `last` and `within` depend on the outermost element that ends with it
module _ (kind count parent at start : ℕ) (last_in : ℕ → ℕ) (within : ℕ → List Element) (outer all : ℕ) (rest : List Element) where
  node_alone : outer ≡ all → last_in all ≡ all → within all ≡ [] → rest ≡ []
      → node_element kind count parent at start (last_in outer) ∷ (within outer ++ rest) ≡ with_last all (node_element kind count parent at start 0) ∷ []
  node_alone p q r s =
      ap (λ x. node_element kind count parent at start (last_in x) ∷ (within x ++ rest)) p
      ∙ (ap (λ x. node_element kind count parent at start x ∷ (within all ++ rest)) q
      ∙ (ap (λ l. node_element kind count parent at start all ∷ (l ++ rest)) r ∙ ap (λ l. node_element kind count parent at start all ∷ l) s))

  node_around : (last : ℕ) (front : List Element) (leaf : Element) → outer ≡ all → last_in all ≡ last → within all ≡ front ++ with_last all leaf ∷ [] → rest ≡ []
      → node_element kind count parent at start (last_in outer) ∷ (within outer ++ rest)
      ≡ (node_element kind count parent at start last ∷ front) ++ with_last all leaf ∷ []
  node_around last front leaf p q r s =
      ap (λ x. node_element kind count parent at start (last_in x) ∷ (within x ++ rest)) p
      ∙ (ap (λ x. node_element kind count parent at start x ∷ (within all ++ rest)) q
      ∙ (ap (λ l. node_element kind count parent at start last ∷ (within all ++ l)) s
      ∙ ap (λ l. node_element kind count parent at start last ∷ l) (append-nil (within all) ∙ r)))

  node_before : (front : List Element) (leaf : Element) → outer ≡ at → rest ≡ front ++ with_last all leaf ∷ []
      → node_element kind count parent at start (last_in outer) ∷ (within outer ++ rest)
      ≡ (node_element kind count parent at start (last_in at) ∷ (within at ++ front)) ++ with_last all leaf ∷ []
  node_before front leaf p q =
      ap (λ x. node_element kind count parent at start (last_in x) ∷ (within x ++ rest)) p
      ∙ ap (λ l. node_element kind count parent at start (last_in at) ∷ l) (ap (λ l. within at ++ l) q ∙ sym (append_assoc (within at) front (with_last all leaf ∷ [])))

pub ending : (f : Forest) (parent at start : ℕ) → 1 ≤ size f → Ending f parent at start
ending Nothing parent at start some = absurd (omega (arith, some))
ending (Token kind text others) parent at start some =
    let start' = start + length (encode_utf8_all text) in
    elim (eq-zero-or-pos (size others)) [
      | inl none ↦ record {
        front = [];
        leaf = token_element kind parent at start 0;
        is = λ all. token_alone kind parent at start _ all _ (outermost-none others at all none) (layout-none others parent (at + 1) start' all none);
      }
      | inr more ↦ let e = ending others parent (at + 1) start' more in
          record {
            front = token_element kind parent at start at ∷ e.front;
            leaf = e.leaf;
            is = λ all. token_before kind parent at start _ all _ e.front e.leaf (outermost-some others at all more) (e.is all);
          }
    ]
ending (Node kind inner others) parent at start some =
    let at' = at + 1 + size inner in
    let start' = start + forest_bytes inner in
    elim (eq-zero-or-pos (size others)) [
      | inl none ↦ elim (eq-zero-or-pos (size inner)) [
        | inl empty ↦ record {
          front = [];
          leaf = node_element kind (size inner) parent at start 0;
          is = λ all. node_alone kind (size inner) parent at start (last_of inner (at + 1)) (layout inner at (at + 1) start) _ all _
              (outermost-none others at all none) (last_of-none inner (at + 1) all empty) (layout-none inner at (at + 1) start all empty)
              (layout-none others parent at' start' all none);
        }
        | inr more ↦ let e = ending inner at (at + 1) start more in
            record {
              front = node_element kind (size inner) parent at start (last_of inner (at + 1) 0) ∷ e.front;
              leaf = e.leaf;
              is = λ all. node_around kind (size inner) parent at start (last_of inner (at + 1)) (layout inner at (at + 1) start) _ all _
                  (last_of inner (at + 1) 0) e.front e.leaf (outermost-none others at all none) (last_of-some inner (at + 1) all 0 more) (e.is all)
                  (layout-none others parent at' start' all none);
            }
      ]
      | inr more ↦ let e = ending others parent at' start' more in
          record {
            front = node_element kind (size inner) parent at start (last_of inner (at + 1) at) ∷ (layout inner at (at + 1) start at ++ e.front);
            leaf = e.leaf;
            is = λ all. node_before kind (size inner) parent at start (last_of inner (at + 1)) (layout inner at (at + 1) start) _ all _
                e.front e.leaf (outermost-some others at all more) (e.is all);
          }
    ]
ending (Error text pos others) parent at start some =
    let e = ending others parent at start some in
    record { front = e.front; leaf = e.leaf; is = e.is }
