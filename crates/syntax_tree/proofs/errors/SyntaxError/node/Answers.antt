use Rattle.std.proofs.Common.{◌∙◌, ◌<◌, length, subst, sym}
use Rattle.syntax_tree.proofs.ErrorsPlaced.{node_below}
use Rattle.syntax_tree.proofs.errors.SyntaxError.node.Goals as goal

pub invariant_of-result : goal.invariant_of-result
invariant_of-result c =
    let laid = c.args.self.tree.now in
    let node = c.node_place-at.ensures.node in
    let held = c.node_place-at.ensures.tree in
    record {
      within =
          subst (λ n. n < length laid.elements) (sym node)
          (node_below laid held.tree held.is c.args.self.at c.args.self.within (λ none. c.if-at.false (node ∙ none)));
    }
