use Rattle.std.proofs.Common.{rules, refl, subst, sym}
use Rattle.syntax_tree.specs.Layout.{IsTree}
use Rattle.syntax_tree.specs.Trees.{children_of, nodes_among}
use Rattle.syntax_tree.specs.Views.{at_of}
use Rattle.syntax_tree.proofs.ByKind.{all_passed, found, its_tree, of_other_kind, of_that_kind, passed}
use Rattle.syntax_tree.proofs.handle.SyntaxElement.first_child_by_kind.Goals as goal

pub loop-child-init : goal.loop-child-init
loop-child-init c = λ tree is.
    let children = c.children-child-items.ensures tree is in
    record { places = nodes_among tree (children_of tree c.args.self.at); left = cc; same = refl }

pub returns-then-eq : goal.returns-then-eq
returns-then-eq c = λ tree is.
    let before = c.loop-child.invariant tree is in
    let child = c.in-Some.child in
    let same = its_tree before (at_of child) c.next.new.self c.in-Some.ensures.steps in
    let own = subst (λ laid. IsTree laid tree) (sym same) is in (
      same,
      found before (at_of child) c.next.new.self c.in-Some.ensures.steps
          (of_that_kind child.tree.now tree own child.at c.element.result c.element.ensures.element c.args.kind (search rules)),
    )

pub loop-child-preserved : goal.loop-child-preserved
loop-child-preserved c = λ tree is.
    let before = c.loop-child.invariant tree is in
    let child = c.in-Some.child in
    let same = its_tree before (at_of child) c.next.new.self c.in-Some.ensures.steps in
    let own = subst (λ laid. IsTree laid tree) (sym same) is in
    passed before (at_of child) c.next.new.self c.in-Some.ensures.steps
    (of_other_kind child.tree.now tree own child.at c.element.result c.element.ensures.element c.args.kind (search rules))

pub returns : goal.returns
returns c = λ tree is. all_passed (c.loop-child.invariant tree is) c.in-None.ensures.steps.0
