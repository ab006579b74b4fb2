use Rattle.std.proofs.Common.{ap, map}
use Rattle.syntax_tree.specs.Views.{place_in}
use Rattle.syntax_tree.proofs.ChildrenLeft.{children_are, begins_at_child}
use Rattle.syntax_tree.proofs.handle.SyntaxElement.children_with_tokens.Goals as goal

pub invariant_of-result : goal.invariant_of-result
invariant_of-result c =
    let held = c.behind-behind.ensures.tree in
    rw c.behind-behind.ensures.behind (begins_at_child c.args.self.tree.now held.tree held.is c.args.self.at c.args.self.within)

pub returns : goal.returns
returns c = λ tree is.
    rw c.behind-behind.ensures.behind (ap (map (place_in c.args.self.tree.now)) (children_are c.args.self.tree.now tree is c.args.self.at c.args.self.within))
