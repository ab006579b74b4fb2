use Rattle.std.proofs.Common.{rules, ◌∙◌, refl, subst, sym}
use Rattle.syntax_tree.specs.Layout.{IsTree}
use Rattle.syntax_tree.specs.Trees.{children_of}
use Rattle.syntax_tree.specs.Views.{at_of}
use Rattle.syntax_tree.proofs.ByKind.{all_passed, found, its_tree, no_token_of_kind, passed, token_of_kind}
use Rattle.syntax_tree.proofs.handle.SyntaxElement.first_token_by_kind.Goals as goal

pub loop-element-init : goal.loop-element-init
loop-element-init c = λ tree is.
    let children = c.children_with_tokens-element-items.ensures tree is in
    record { places = children_of tree c.args.self.at; left = cc; same = refl }

pub returns-then-is_token_of : goal.returns-then-is_token_of
returns-then-is_token_of c = λ tree is.
    let before = c.loop-element.invariant tree is in
    let it = c.in-Some.element in
    let same = its_tree before (at_of it) c.next.new.self c.in-Some.ensures.steps in
    let own = subst (λ laid. IsTree laid tree) (sym same) is in (
      same,
      found before (at_of it) c.next.new.self c.in-Some.ensures.steps
          (token_of_kind it.tree.now tree own it.at c.element.result c.element.ensures.element c.args.kind (sym c.is_token_of.ensures ∙ search rules)),
    )

pub loop-element-preserved : goal.loop-element-preserved
loop-element-preserved c = λ tree is.
    let before = c.loop-element.invariant tree is in
    let it = c.in-Some.element in
    let same = its_tree before (at_of it) c.next.new.self c.in-Some.ensures.steps in
    let own = subst (λ laid. IsTree laid tree) (sym same) is in
    passed before (at_of it) c.next.new.self c.in-Some.ensures.steps
    (no_token_of_kind it.tree.now tree own it.at c.element.result c.element.ensures.element c.args.kind (sym c.is_token_of.ensures ∙ search rules))

pub returns : goal.returns
returns c = λ tree is. all_passed (c.loop-element.invariant tree is) c.in-None.ensures.steps.0
