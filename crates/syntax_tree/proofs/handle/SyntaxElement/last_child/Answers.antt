use Rattle.std.proofs.Common.{◌∙◌, sym, subst}
use Rattle.syntax_tree.specs.Layout.{IsTree}
use Rattle.syntax_tree.proofs.SiblingLoops.{last_before}
use Rattle.syntax_tree.proofs.handle.SyntaxElement.last_child.Goals as goal

pub returns-then-is_token : goal.returns-then-is_token
returns-then-is_token c = λ tree is.
    let last = c.in_ok-last.ensures tree is in
    let is' = subst (λ laid. IsTree laid tree) (sym last.0) is in
    last_before c.args.self c.in_ok-last.last tree is last.0 last.1 (sym (c.is_token.ensures tree is') ∙ c.if-is_token.true) c.prev_sibling.result
    (c.prev_sibling.ensures tree is')
