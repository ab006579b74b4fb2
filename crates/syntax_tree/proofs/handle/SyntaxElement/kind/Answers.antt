use Rattle.std.proofs.Common.{◌∙◌, ap}
use Rattle.syntax_tree.proofs.Places.{reads}
use Rattle.syntax_tree.proofs.handle.SyntaxElement.kind.Goals as goal

pub returns : goal.returns
returns c = λ tree is. ap (λ e. e.kind) c.element.ensures.element ∙ (reads c.args.self.tree.now tree is c.args.self.at c.args.self.within).kind
