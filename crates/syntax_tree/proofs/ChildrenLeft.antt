-- The children that an iterator has left.
use Rattle.std.proofs.Common.{◌≡◌, ◌∙◌, ℕ, suc, ◌+◌, ◌-◌, ◌<◌, ◌≤◌, ◌==◌, List, ◌∷◌, length, arith, ap, sym, refl, subst, add-zero, filter}
use Rattle.std.specs.Prelude.{Some}
use Rattle.std.specs.Iterator.{MakesProgress, item_count}
use Rattle.std.specs.List.{range_with_len}
use Rattle.squawk_tree.specs.Forest.{Forest}
use Rattle.syntax_tree.specs.Trees.{size, forest_at, inner_of, children_of, places_between}
use Rattle.syntax_tree.specs.Layout.{Laid, IsTree}
use Rattle.syntax_tree.specs.Views.{element_in, children_between, IsAtChild}
use Rattle.syntax_tree.proofs.Laid.{AreLaid}
use Rattle.syntax_tree.proofs.Places.{others_of, size_parts, Place, place_at, reads_here, reads_parent}
use Rattle.syntax_tree.proofs.Children.{places_parts, children_laid, first_parent, inner_are, others_laid}
use Rattle.syntax_tree.proofs.Siblings.{parent_ends}

-- an iterator over children gives the next one, and goes on behind it
pub record GivesChild (laid : Laid) (node at behind : ℕ) : Type 0 where
  pub gives : children_between laid node at behind ≡ at ∷ children_between laid node (element_in laid at).behind behind
  pub on : IsAtChild laid node (element_in laid at).behind behind

module _ (laid : Laid) (tree : Forest) (is : IsTree laid tree) where
  -- the first child of an element
  pub begins_at_child : (at : ℕ) → at < length laid.elements → IsAtChild laid at (at + 1) (element_in laid at).behind
  begins_at_child at below =
      let p = place_at laid tree is at below in
      let read = reads_here laid tree at p in
      let within = inner_are laid p.node at p.start p.all (forest_at tree at) p.begins p.lies.elements in
      record {
        below = below;
        ends = refl;
        within = (omega arith, omega (arith, read.behind), omega (arith, read.behind, read.within));
        child = λ more.
            let some : 1 ≤ size (inner_of (forest_at tree at)) = omega (arith, more, read.behind) in
            ap (λ i. (element_in laid i).parent) (sym (add-zero (at + 1)))
            ∙ (ap (λ e. e.parent) (within.1 0 (omega (arith, some)))
            ∙ first_parent (inner_of (forest_at tree at)) at (at + 1) p.start within.0 some);
      }

  pub children_are : (at : ℕ) → at < length laid.elements → children_between laid at (at + 1) (element_in laid at).behind ≡ children_of tree at
  children_are at below =
      let p = place_at laid tree is at below in
      let read = reads_here laid tree at p in
      let within = inner_are laid p.node at p.start p.all (forest_at tree at) p.begins p.lies.elements in
      let len : (element_in laid at).behind - (at + 1) ≡ size (inner_of (forest_at tree at)) = omega (arith, read.behind) in
      ap (λ n. filter (λ i. (element_in laid i).parent == at) (range_with_len (at + 1) n)) len
      ∙ children_laid laid at (inner_of (forest_at tree at)) (at + 1) p.start within.0 (omega arith) within.1

  module _ (few : length laid.elements ≤ 4294967295) (node at behind : ℕ) (stand : IsAtChild laid node at behind) (more : at < behind) where
    abbrev f : Forest
    f = forest_at tree at

    below : at < length laid.elements
    below = omega (arith, more, stand.within)

    some : (element_in laid at).parent ≡ 4294967295 → ⊥
    some none = omega (arith, none, stand.child more, stand.below, few)

    p : Place laid tree at
    p = place_at laid tree is at below

    node_is : p.node ≡ node
    node_is = sym (reads_parent laid tree at p) ∙ stand.child more

    above : node < at
    above = stand.within.0

    ends : behind ≡ at + suc (size (inner_of f)) + size (others_of f)
    ends = sym stand.ends ∙ (ap (λ n. (element_in laid n).behind) (sym (stand.child more)) ∙ parent_ends laid tree is at below some)

    laid_are : AreLaid laid f node at p.start p.all
    laid_are = subst (λ n. AreLaid laid f n at p.start p.all) node_is p.lies.elements

    others_are : (start' : ℕ) × AreLaid laid (others_of f) node (at + suc (size (inner_of f))) start' p.all
    others_are = others_laid laid node at p.start p.all f p.begins laid_are

    child_ends : (element_in laid at).behind ≡ at + suc (size (inner_of f))
    child_ends = (reads_here laid tree at p).behind

    pub next_child : GivesChild laid node at behind
    next_child =
        let behind_is = at + suc (size (inner_of f)) in
        let len : behind - at ≡ size f = omega (arith, ends, size_parts f p.begins) in
        let rest : behind - (element_in laid at).behind ≡ size (others_of f) = omega (arith, ends, child_ends) in
        let later = children_laid laid node (others_of f) behind_is others_are.0 p.all (omega (arith, above)) others_are.1 in
        record {
          gives =
              ap (λ n. filter (λ i. (element_in laid i).parent == node) (range_with_len at n)) len
              ∙ (children_laid laid node f at p.start p.all above laid_are
              ∙ (places_parts f at p.begins
              ∙ ap (λ l. at ∷ l)
              (sym later
              ∙ (ap (λ n. filter (λ i. (element_in laid i).parent == node) (range_with_len behind_is n)) (sym rest)
              ∙ ap (λ a. filter (λ i. (element_in laid i).parent == node) (range_with_len a (behind - (element_in laid at).behind))) (sym child_ends)))));
          on = record {
            below = stand.below;
            ends = stand.ends;
            within = (omega (arith, above, child_ends), omega (arith, ends, child_ends), stand.within.2);
            child = λ left.
                ap (λ i. (element_in laid i).parent) child_ends
                ∙ (ap (λ i. (element_in laid i).parent) (sym (add-zero behind_is))
                ∙ (ap (λ e. e.parent) (others_are.1 0 (omega (arith, left, ends, child_ends)))
                ∙ first_parent (others_of f) node behind_is others_are.0 p.all (omega (arith, left, ends, child_ends))));
          };
        }

-- an iterator that gave an item has fewer left
pub progress : {S A B : Type 0} (rest : S → List B) (before after : S) (answer : A) (next : B) → rest before ≡ next ∷ rest after
    → MakesProgress (λ _. Unit {0}) (item_count rest) before (Some answer) after
progress rest before after answer next is = record { on = λ _. (tt, tt, omega (arith, ap length is)); keeps = tt; rests = λ _. tt }

pub places_first : (from stop : ℕ) → from < stop → places_between from stop ≡ from ∷ places_between (from + 1) stop
places_first from stop more =
    let len : stop - from ≡ suc (stop - (from + 1)) = omega arith in
    ap (range_with_len from) len
