use Rattle.std.proofs.Common.{subst}
use Rattle.syntax_tree.specs.Layout.{HoldsTree}
use Rattle.syntax_tree.proofs.Places.{element_read}
use Rattle.syntax_tree.proofs.handle.SyntaxElement.element.Goals as goal

pub returns-clause-element : goal.returns-clause-element
returns-clause-element c = element_read _ _ c.tree.view_is c.args.self.at c.args.self.within c.index.result.now c.index.ensures

pub returns-clause-tree : goal.returns-clause-tree
returns-clause-tree c = subst HoldsTree c.tree.view_is c.tree.invariant.holds
