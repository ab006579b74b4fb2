use Rattle.std.proofs.Common.{◌∙◌, ap, map}
use Rattle.syntax_tree.specs.Errors.{errors_between}
use Rattle.syntax_tree.specs.Layout.{errors_of}
use Rattle.syntax_tree.specs.Walks.{in_tree}
use Rattle.syntax_tree.proofs.ErrorsPlaced.{errors_inside}
use Rattle.syntax_tree.proofs.Places.{reads}
use Rattle.syntax_tree.proofs.handle.SyntaxElement.errors_in.Goals as goal

pub returns : goal.returns
returns c = λ tree is.
    let laid = c.args.self.tree.now in
    let at = c.args.self.at in
    let ends = c.behind-behind in
    let behind = ends.ensures.behind ∙ (reads laid tree is at c.args.self.within).behind in
    errors_inside laid tree is ends.ensures.tree.few at ends.result c.errors_before-first.result c.errors_before-stop.result c.args.self.within behind
    c.errors_before-first.ensures c.errors_before-stop.ensures
    ∙ (ap (λ l. errors_between at ends.result (map (in_tree laid) l)) is.errors ∙ ap (λ n. errors_between at n (map (in_tree laid) (errors_of tree 4294967295 0 0))) behind)
