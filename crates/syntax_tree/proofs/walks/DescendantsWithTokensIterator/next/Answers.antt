use Rattle.std.proofs.Common.{◌<◌, ◌∙◌, ap, sym, map, arith}
use Rattle.syntax_tree.specs.Views.{place_in}
use Rattle.syntax_tree.proofs.ChildrenLeft.{places_first, progress}
use Rattle.syntax_tree.proofs.walks.DescendantsWithTokensIterator.next.Goals as goal

pub returns-clause-steps : goal.returns-clause-steps
returns-clause-steps c =
    let more : c.self.inside.at < c.self.inside.behind = omega (arith, c.self.invariant.0, c.if-self.false) in
    sym c.self.view_is ∙ ap (map (place_in c.self.inside.tree.now)) (places_first c.self.inside.at c.self.inside.behind more)

pub returns-clause-goes : goal.returns-clause-goes
returns-clause-goes c = progress (λ d. d) _ _ _ _ (returns-clause-steps c)
