-- What lies at a place is the element of the tree that stands there.
use Rattle.std.proofs.Common.{◌≡◌, ◌∙◌, inl, inr, ℕ, zero, suc, ◌+◌, ◌-◌, ◌<◌, ◌≤◌, length, arith, ap, sym, refl, subst, add-zero, zero-add, get_or, encode_utf8_all}
use Rattle.std.proofs.lemmas.Bool.{cases_lt}
use Rattle.std.proofs.lemmas.List.{get_or_default}
use Rattle.squawk_tree.specs.Forest.{Forest, Nothing, Token, Node, Error, forest_bytes}
use Rattle.syntax_tree.specs.Trees.{size, forest_at, kind_of, is_token, inner_of, is_token_at, kind_at, start_at, size_at}
use Rattle.syntax_tree.specs.Layout.{Laid, IsTree, HoldsTree, last_of, outermost}
use Rattle.syntax_tree.specs.Views.{element_in, no_element}
use Rattle.syntax_tree.specs.declared.element.Element.{Element}
use Rattle.syntax_tree.proofs.Beside.{beside, last_of-some}
use Rattle.syntax_tree.proofs.Layouts.{size-IsOneRoot}
use Rattle.syntax_tree.proofs.Lies.{Lies, lies_behind_error, lies_behind_token, lies_within_node, lies_behind_node}
use Rattle.syntax_tree.proofs.Laid.{laid_at, laid_within_node, parents_are, next_is}
use Rattle.syntax_tree.proofs.Texts.{elements_are}

-- trees begin with a token or a node
abbrev pub Begins : Forest → Type 0
Begins Nothing = ⊥
Begins (Token kind text others) = Unit {0}
Begins (Node kind inner others) = Unit {0}
Begins (Error text pos others) = ⊥

-- what is behind the first of trees
abbrev pub others_of : Forest → Forest
others_of Nothing = Nothing
others_of (Token kind text others) = others
others_of (Node kind inner others) = others
others_of (Error text pos others) = others

pub size_parts : (f : Forest) → Begins f → size f ≡ suc (size (inner_of f)) + size (others_of f)
size_parts Nothing begins = absurd begins
size_parts (Token kind text others) begins = omega arith
size_parts (Node kind inner others) begins = omega arith
size_parts (Error text pos others) begins = absurd begins

-- an element, and the trees from it on
pub record Place (laid : Laid) (tree : Forest) (at : ℕ) : Type 0 where
  pub node : ℕ
  pub start : ℕ
  pub all : ℕ
  pub begins : Begins (forest_at tree at)
  pub lies : Lies laid tree (forest_at tree at) node at start all

module _ (laid : Laid) (tree : Forest) where
  place_here : (trees : Forest) (node at start all : ℕ) → Begins trees → forest_at trees 0 ≡ trees → 1 ≤ size trees
      → Lies laid tree trees node at start all → Place laid tree (at + 0)
  place_here trees node at start all begins first some lies =
      let same : forest_at tree at ≡ trees = ap (forest_at tree) (sym (add-zero at)) ∙ (lies.here 0 (omega (arith, some)) ∙ first) in
      subst (Place laid tree) (sym (add-zero at)) (record {
        node = node;
        start = start;
        all = all;
        begins = subst Begins (sym same) begins;
        lies = subst (λ f. Lies laid tree f node at start all) (sym same) lies;
      })

  place_from : (trees : Forest) (node at start all : ℕ) → Lies laid tree trees node at start all → (i : ℕ) → i < size trees → Place laid tree (at + i)
  place_from Nothing node at start all lies i below = absurd (omega (arith, below))
  place_from (Token kind text others) node at start all lies zero below = place_here (Token kind text others) node at start all tt refl (omega arith) lies
  place_from (Token kind text others) node at start all lies (suc i) below =
      subst (Place laid tree) (next_is at i)
      (place_from others node (at + 1) (start + length (encode_utf8_all text)) all
      (lies_behind_token laid tree node at start all kind text others (omega (arith, below)) lies) i (omega (arith, below)))
  place_from (Node kind inner others) node at start all lies zero below = place_here (Node kind inner others) node at start all tt refl (omega arith) lies
  place_from (Node kind inner others) node at start all lies (suc i) below =
      elim (cases_lt i (size inner)) [
        | inl lt ↦
            subst (Place laid tree) (next_is at i)
            (place_from inner at (at + 1) start (outermost others at all) (lies_within_node laid tree node at start all kind inner others lies) i lt)
        | inr ge ↦
            let place_is : at + 1 + size inner + (i - size inner) ≡ at + suc i = omega (arith, ge) in
            subst (Place laid tree) place_is
            (place_from others node (at + 1 + size inner) (start + forest_bytes inner) all
            (lies_behind_node laid tree node at start all kind inner others lies (omega (arith, below, ge))) (i - size inner) (omega (arith, below, ge)))
      ]
  place_from (Error text pos others) node at start all lies i below =
      place_from others node at start all (lies_behind_error laid tree node at start all text pos others lies) i below

  module _ (is : IsTree laid tree) where
    pub lies_whole : Lies laid tree tree 4294967295 0 0 0
    lies_whole = record {
      elements = λ i _. ap (element_in laid) (zero-add i) ∙ ap (λ l. get_or l i no_element) is.elements;
      here = λ i _. ap (forest_at tree) (zero-add i);
      starts = λ i _. ap (start_at tree) (zero-add i) ∙ sym (zero-add (start_at tree i));
      within = omega (arith, elements_are laid tree is);
      stand = inl (refl, refl, is.one);
    }

    pub place_at : (at : ℕ) → at < length laid.elements → Place laid tree at
    place_at at below = subst (Place laid tree) (zero-add at) (place_from tree 4294967295 0 0 0 lies_whole at (omega (arith, below, elements_are laid tree is)))

-- ---- the element at a place

-- An element of a tree other than the root stands in a node, behind other trees there.
pub record Stands (laid : Laid) (tree : Forest) (at : ℕ) : Type 0 where
  pub node : ℕ
  pub before : Forest
  pub inner : inner_of (forest_at tree node) ≡ beside before (forest_at tree at)
  pub at_is : at ≡ node + 1 + size before
  pub parent : (element_in laid at).parent ≡ node
  -- The element before it is the node, or a leaf that ends with the last of the trees before it.
  pub previous : 1 ≤ size before → (element_in laid (node + size before)).last ≡ last_of before (node + 1) 0

-- the element at a place, read
pub record Reads (laid : Laid) (tree : Forest) (at : ℕ) : Type 0 where
  pub kind : (element_in laid at).kind ≡ kind_at tree at
  pub is_token : (element_in laid at).is_token ≡ is_token_at tree at
  pub start : (element_in laid at).start ≡ start_at tree at
  pub behind : (element_in laid at).behind ≡ at + size_at tree at
  pub some : 1 ≤ size (forest_at tree at)
  pub last : 1 ≤ size (inner_of (forest_at tree at)) → (element_in laid at).last ≡ last_of (inner_of (forest_at tree at)) (at + 1) 0
  pub root : at ≡ 0 → (element_in laid at).parent ≡ 4294967295
  pub stands : 1 ≤ at → Stands laid tree at
  -- it ends where the elements end, or before
  pub within : at + size_at tree at ≤ length laid.elements
  -- each element in it stands in it, or in one that stands there
  pub inside : (i : ℕ) → at < i → i < at + size_at tree at → at ≤ (element_in laid i).parent

-- an element is the first of trees
record IsFirstOf (f : Forest) (node at start : ℕ) (e : Element) : Type 0 where
  kind : e.kind ≡ kind_of f
  token : e.is_token ≡ is_token f
  starts : e.start ≡ start + start_at f 0
  parent : e.parent ≡ node
  behind : e.behind ≡ at + suc (size (inner_of f))
  last : 1 ≤ size (inner_of f) → e.last ≡ last_of (inner_of f) (at + 1) 0

first_laid : (f : Forest) (node at start all : ℕ) → Begins f → IsFirstOf f node at start (laid_at f node at start all 0)
first_laid Nothing node at start all begins = absurd begins
first_laid (Token kind text others) node at start all begins = record {
  kind = refl;
  token = refl;
  starts = sym (add-zero start);
  parent = refl;
  behind = refl;
  last = λ some. absurd (omega (arith, some));
}
first_laid (Node kind inner others) node at start all begins = record {
  kind = refl;
  token = refl;
  starts = sym (add-zero start);
  parent = refl;
  behind = omega arith;
  last = λ some. last_of-some inner (at + 1) (outermost others at all) 0 some;
}
first_laid (Error text pos others) node at start all begins = absurd begins

inside_first : (laid : Laid) (tree f : Forest) (node at start all : ℕ) → Begins f → Lies laid tree f node at start all
    → (i : ℕ) → at < i → i < at + suc (size (inner_of f)) → at ≤ (element_in laid i).parent
inside_first laid tree Nothing node at start all begins lies i above below = absurd begins
inside_first laid tree (Token kind text others) node at start all begins lies i above below = absurd (omega (arith, above, below))
inside_first laid tree (Node kind inner others) node at start all begins lies i above below =
    elim (parents_are laid at (at + 1) start (outermost others at all) inner (laid_within_node laid node at start all kind inner others lies.elements) i (omega (arith, above))
    (omega (arith, below))) [
      | inl is ↦ omega (arith, is)
      | inr more ↦ omega (arith, more)
    ]
inside_first laid tree (Error text pos others) node at start all begins lies i above below = absurd begins

module _ (laid : Laid) (tree : Forest) (at : ℕ) (place : Place laid tree at) where
  abbrev trees : Forest
  trees = forest_at tree at

  some_here : 1 ≤ size trees
  some_here = omega (arith, size_parts trees place.begins)

  first_here : IsFirstOf trees place.node at place.start (element_in laid at)
  first_here =
      subst (IsFirstOf trees place.node at place.start)
      (sym (ap (element_in laid) (sym (add-zero at)) ∙ place.lies.elements 0 (omega (arith, some_here))))
      (first_laid trees place.node at place.start place.all place.begins)

  pub reads_parent : (element_in laid at).parent ≡ place.node
  reads_parent = first_here.parent

  starts_here : start_at tree at ≡ place.start + start_at trees 0
  starts_here = ap (start_at tree) (sym (add-zero at)) ∙ place.lies.starts 0 (omega (arith, some_here))

  pub reads_here : Reads laid tree at
  reads_here = record {
    kind = first_here.kind;
    is_token = first_here.token;
    start = first_here.starts ∙ sym starts_here;
    behind = first_here.behind;
    some = some_here;
    last = first_here.last;
    root = λ first. elim place.lies.stand [
      | inl root ↦ first_here.parent ∙ root.0
      | inr inside ↦ absurd (omega (arith, first, inside.at_is))
    ];
    stands = λ later. elim place.lies.stand [
      | inl root ↦ absurd (omega (arith, later, root.1))
      | inr inside ↦ record {
        node = place.node;
        before = inside.before;
        inner = inside.inner;
        at_is = inside.at_is;
        parent = first_here.parent;
        previous = inside.previous;
      }
    ];
    within = omega (arith, place.lies.within, size_parts trees place.begins);
    inside = inside_first laid tree trees place.node at place.start place.all place.begins place.lies;
  }

pub reads : (laid : Laid) (tree : Forest) → IsTree laid tree → (at : ℕ) → at < length laid.elements → Reads laid tree at
reads laid tree is at below = reads_here laid tree at (place_at laid tree is at below)

-- an element that is read from the list of a tree's model
pub element_read : (inside laid : Laid) → inside ≡ laid → (at : ℕ) → at < length laid.elements → (e : Element) → e ≡ get_or inside.elements at e → e ≡ element_in laid at
element_read inside laid same at below e read =
    read ∙ (ap (λ l. get_or l.elements at e) same ∙ get_or_default laid.elements at e no_element below)

-- a tree has an element
pub some_element : (laid : Laid) (tree : Forest) → IsTree laid tree → 0 < length laid.elements
some_element laid tree is = omega (arith, size-IsOneRoot tree is.one, elements_are laid tree is)

-- the invariant of a tree's model
pub held_in : (inside laid : Laid) → inside ≡ laid → HoldsTree inside → HoldsTree laid
held_in inside laid same held = subst HoldsTree same held
