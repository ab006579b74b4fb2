use Rattle.std.proofs.Common.{◌∙◌, ◌+◌, ap, sym, arith}
use Rattle.syntax_tree.specs.Trees.{children_of, StartsWith}
use Rattle.syntax_tree.proofs.Siblings.{no_child, first_child, placed}
use Rattle.syntax_tree.proofs.handle.SyntaxElement.first_child_or_token.Goals as goal

pub overflow_add-first : goal.overflow_add-first
overflow_add-first c = let few = c.element-element.ensures.tree.few in omega (arith, c.args.self.within)

pub returns-then-element-first : goal.returns-then-element-first
returns-then-element-first c = λ tree is.
    no_child c.args.self.tree.now tree is c.args.self.at c.args.self.within (sym (ap (λ e. e.behind) c.element-element.ensures.element) ∙ c.if-element-first.true)

pub at-requires : goal.at-requires
at-requires c =
    let held = c.element-element.ensures.tree in
    (first_child c.args.self.tree.now held.tree held.is c.args.self.at c.args.self.within
    (λ same. c.if-element-first.false (ap (λ e. e.behind) c.element-element.ensures.element ∙ same))).0

pub returns : goal.returns
returns c = λ tree is.
    placed c.at.result c.args.self.tree.now (c.args.self.at + 1) c.at.ensures (StartsWith (children_of tree c.args.self.at))
    (first_child c.args.self.tree.now tree is c.args.self.at c.args.self.within
    (λ same. c.if-element-first.false (ap (λ e. e.behind) c.element-element.ensures.element ∙ same))).1
