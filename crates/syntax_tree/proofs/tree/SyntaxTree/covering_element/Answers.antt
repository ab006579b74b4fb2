use Rattle.std.proofs.Common.{◌≡◌, ◌∙◌, ◌<◌, ◌≤◌, ◌-◌, min, inl, inr, arith, ap, length, refl, subst, sym}
use Rattle.squawk_tree.specs.Forest.{Forest, forest_bytes}
use Rattle.syntax_tree.proofs.CoveringElement.{Holds, child_from, covers_range, covers_nothing, holds_parent, holds_token, near, root_covers}
use Rattle.syntax_tree.proofs.TokenOfByte.{byte_of}
use Rattle.syntax_tree.proofs.Texts.{bytes_are}
use Rattle.syntax_tree.specs.Layout.{IsTree, HoldsTree}
use Rattle.syntax_tree.specs.Offsets.{CoversRange}
use Rattle.syntax_tree.specs.Trees.{end_at}
use Rattle.syntax_tree.proofs.tree.SyntaxTree.covering_element.Goals as goal
use Rattle.syntax_tree.proofs.tree.SyntaxTree.covering_element.Goals.{then-range-via-then-range, then-range-via-else-range+then-range-len, After-len-last, After-branch-element}

pub returns-then-range : goal.returns-then-range
returns-then-range c = λ tree is.
    let len : length c.self.inside.text.now ≡ forest_bytes tree = ap (λ l. length l.text) c.self.view_is ∙ bytes_are c.args.self.now tree is in
    elim c.then-range.branch [
      | then-range-via-then-range w ↦ inl (omega arith)
      | then-range-via-else-range+then-range-len w ↦ inr (omega (arith, len))
    ]

-- ---- in an empty text

last : (c : After-len-last) (tree : Forest) → IsTree c.args.self.now tree
    → (1 ≤ c.len-last.result) × (c.len-last.result - 1 < length c.args.self.now.elements) × CoversRange tree c.args.range.start c.args.range.end (c.len-last.result - 1)
last c tree is =
    let len : c.len-last.result ≡ length c.args.self.now.elements = omega (arith, ap (λ l. length l.elements) c.self.view_is) in
    let text : length c.args.self.now.text ≡ 0 = omega (arith, ap (λ l. length l.text) c.self.view_is) in
    let covers = covers_nothing c.args.self.now tree is c.args.range.start c.args.range.end text (omega arith) (omega arith) in
    (omega (arith, covers.0), omega (arith, covers.0), subst (λ n. CoversRange tree c.args.range.start c.args.range.end (n - 1)) (sym len) covers.1)

pub overflow_sub-last : goal.overflow_sub-last
overflow_sub-last c =
    let holds = subst HoldsTree c.self.view_is c.self.invariant.holds in
    (last c holds.tree holds.is).0

pub invariant_of-result : goal.invariant_of-result
invariant_of-result c =
    let holds = subst HoldsTree c.self.view_is c.self.invariant.holds in
    record { within = (last c holds.tree holds.is).1 }

pub returns-then-len-eq0 : goal.returns-then-len-eq0
returns-then-len-eq0 c = λ tree is. (refl, (last (goal.at.returns-then-len-eq0 c).After-len-last tree is).2)

-- ---- from the token of the first byte upward

pub loop-range-init : goal.loop-range-init
loop-range-init c = record {
  same = c.token_of_byte-element.ensures.tree;
  holds = λ tree is.
      let t = c.token_of_byte-element in
      let byte : c.min.result ≡ min c.args.range.start (length c.self.inside.text.now - 1) = omega arith in
      let has = byte_of c.args.self.now t.result.tree.now tree c.min.result t.result.at t.ensures.tree t.result.within (t.ensures.token tree is) in
      rw (← byte) (holds_token c.args.self.now tree is c.min.result c.args.range.start c.args.range.end t.result.at has);
}

-- it ends before the range does
short : (c : After-branch-element) (tree : Forest) → IsTree c.args.self.now tree → end_at tree c.loop-range.element.at < c.args.range.end
short c tree is = omega (arith, c.text_range.ensures.end tree (subst (λ l. IsTree l tree) (sym c.loop-range.invariant.same) is))

pub returns-in_err-element : goal.returns-in_err-element
returns-in_err-element c = λ tree is.
    let first = c.in_err-element.ensures tree (subst (λ l. IsTree l tree) (sym c.loop-range.invariant.same) is) in
    let ends = short (goal.at.returns-in_err-element c).After-branch-element tree is in
    absurd (root_covers c.args.self.now tree is c.args.range.end (omega (arith, ends, ap (end_at tree) first)) (omega (arith, ap (λ l. length l.text) c.self.view_is)))

pub loop-range-smaller : goal.loop-range-smaller
loop-range-smaller c =
    let holds = subst HoldsTree c.self.view_is c.self.invariant.holds in
    let up = c.in_ok-element.ensures holds.tree (subst (λ l. IsTree l holds.tree) (sym c.loop-range.invariant.same) holds.is) in
    let below = subst (λ l. c.in_ok-element.element.at < length l.elements) (up.0 ∙ c.loop-range.invariant.same) c.in_ok-element.element.within in
    child_from c.args.self.now holds.tree holds.is c.in_ok-element.element.at below c.loop-range.element.at up.1

pub loop-range-preserved : goal.loop-range-preserved
loop-range-preserved c =
    let holds = subst HoldsTree c.self.view_is c.self.invariant.holds in
    let laid = c.args.self.now in
    let node = c.in_ok-element.element in
    let len = length c.self.inside.text.now in
    let start = c.args.range.start in
    let end = c.args.range.end in
    let same = (c.in_ok-element.ensures holds.tree (subst (λ l. IsTree l holds.tree) (sym c.loop-range.invariant.same) holds.is)).0 ∙ c.loop-range.invariant.same in
    record {
      same = same;
      holds = λ tree is.
          let up = c.in_ok-element.ensures tree (subst (λ l. IsTree l tree) (sym c.loop-range.invariant.same) is) in
          let below = subst (λ l. node.at < length l.elements) same node.within in
          holds_parent laid tree is (min start (len - 1)) start end c.loop-range.element.at node.at (near start end len (omega arith) (omega arith))
          (c.loop-range.invariant.holds tree is) (short (goal.at.loop-range-preserved c).After-branch-element tree is) below up.1;
    }

pub returns : goal.returns
returns c = λ tree is.
    let laid = c.args.self.now in
    let loop = c.loop-range in
    let start = c.args.range.start in
    let end = c.args.range.end in
    let len : length c.self.inside.text.now ≡ length laid.text = ap (λ l. length l.text) c.self.view_is in
    let holds = subst (λ n. Holds laid tree (min start (n - 1)) start end loop.element.at) len (loop.invariant.holds tree is) in
    let ends = c.text_range.ensures.end tree (subst (λ l. IsTree l tree) (sym loop.invariant.same) is) in
    (loop.invariant.same, covers_range laid tree is start end loop.element.at (omega (arith, len)) (omega arith) (omega (arith, len)) holds (omega (arith, ends)))
