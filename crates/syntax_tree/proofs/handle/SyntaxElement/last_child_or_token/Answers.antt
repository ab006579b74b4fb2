use Rattle.std.proofs.Common.{◌∙◌, ap, sym}
use Rattle.syntax_tree.specs.Trees.{children_of, EndsWith}
use Rattle.syntax_tree.proofs.Siblings.{no_child, last_child, placed}
use Rattle.syntax_tree.proofs.handle.SyntaxElement.last_child_or_token.Goals as goal

pub returns-then-element-self : goal.returns-then-element-self
returns-then-element-self c = λ tree is.
    no_child c.args.self.tree.now tree is c.args.self.at c.args.self.within (sym (ap (λ e. e.behind) c.element-element.ensures.element) ∙ c.if-element-self.true)

pub at-requires : goal.at-requires
at-requires c =
    let held = c.element-element.ensures.tree in
    rw c.element-element.ensures.element
    (last_child c.args.self.tree.now held.tree held.is c.args.self.at c.args.self.within
    (λ same. c.if-element-self.false (ap (λ e. e.behind) c.element-element.ensures.element ∙ same))).0

pub returns : goal.returns
returns c = λ tree is.
    placed c.at.result c.args.self.tree.now c.element-element.result.last c.at.ensures (EndsWith (children_of tree c.args.self.at))
    (rw c.element-element.ensures.element
    (last_child c.args.self.tree.now tree is c.args.self.at c.args.self.within
    (λ same. c.if-element-self.false (ap (λ e. e.behind) c.element-element.ensures.element ∙ same))).1)
