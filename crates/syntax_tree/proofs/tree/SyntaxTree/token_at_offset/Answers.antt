use Rattle.std.proofs.Common.{◌≡◌, ◌∙◌, ◌-◌, ◌+◌, inl, inr, arith, ap, length, subst, sym}
use Rattle.squawk_tree.specs.Forest.{forest_bytes}
use Rattle.syntax_tree.proofs.TokenOfByte.{byte_of, touches_end, touches_two}
use Rattle.syntax_tree.proofs.Texts.{bytes_are}
use Rattle.syntax_tree.specs.Layout.{IsTree}
use Rattle.syntax_tree.specs.Trees.{TouchesOne}
use Rattle.syntax_tree.proofs.tree.SyntaxTree.token_at_offset.Goals as goal
use Rattle.syntax_tree.proofs.tree.SyntaxTree.token_at_offset.Goals.{then-len-eq0-via-then-len-eq0, then-len-eq0-via-else-len-eq0+then-offset-len}

pub returns-then-len-eq0 : goal.returns-then-len-eq0
returns-then-len-eq0 c = λ tree is.
    let len : length c.self.inside.text.now ≡ forest_bytes tree = ap (λ l. length l.text) c.self.view_is ∙ bytes_are c.args.self.now tree is in
    elim c.then-len-eq0.branch [
      | then-len-eq0-via-then-len-eq0 w ↦ inl (omega (arith, len))
      | then-len-eq0-via-else-len-eq0+then-offset-len w ↦ inr (omega (arith, len))
    ]

pub returns-then-offset-len-2 : goal.returns-then-offset-len-2
returns-then-offset-len-2 c = λ tree is.
    let t = c.token_of_byte in
    let same : c.args.offset - 1 + 1 ≡ c.args.offset = omega arith in
    let has = byte_of c.args.self.now t.result.tree.now tree (c.args.offset - 1) t.result.at t.ensures.tree t.result.within (t.ensures.token tree is) in (
      t.ensures.tree,
      subst (λ offset. TouchesOne tree offset t.result.at) same
          (touches_end c.args.self.now tree is (c.args.offset - 1) t.result.at has (omega (arith, ap (λ l. length l.text) c.self.view_is))),
    )

pub returns : goal.returns
returns c = λ tree is.
    let laid = c.args.self.now in
    let left = c.token_of_byte-2 in
    let right = c.token_of_byte-right in (
      left.ensures.tree,
      right.ensures.tree,
      touches_two laid tree is c.args.offset left.result.at right.result.at (omega arith)
          (byte_of laid left.result.tree.now tree (c.args.offset - 1) left.result.at left.ensures.tree left.result.within (left.ensures.token tree is))
          (byte_of laid right.result.tree.now tree c.args.offset right.result.at right.ensures.tree right.result.within (right.ensures.token tree is))
          (omega (arith, c.text_range.ensures.start tree (subst (λ l. IsTree l tree) (sym right.ensures.tree) is))),
    )
