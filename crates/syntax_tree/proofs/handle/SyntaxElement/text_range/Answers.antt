use Rattle.std.proofs.Common.{◌≡◌, ◌∙◌, ◌+◌, ap, arith}
use Rattle.syntax_tree.specs.Trees.{start_at, size_at}
use Rattle.syntax_tree.proofs.Places.{reads}
use Rattle.syntax_tree.proofs.handle.SyntaxElement.text_range.Goals as goal

pub returns-clause-start : goal.returns-clause-start
returns-clause-start c = λ tree is.
    ap (λ e. e.start) c.element-element.ensures.element ∙ (reads c.args.self.tree.now tree is c.args.self.at c.args.self.within).start

pub returns-clause-end : goal.returns-clause-end
returns-clause-end c = λ tree is.
    let read = reads c.args.self.tree.now tree is c.args.self.at c.args.self.within in
    let behind : c.element-element.result.behind ≡ c.args.self.at + size_at tree c.args.self.at = ap (λ e. e.behind) c.element-element.ensures.element ∙ read.behind in
    c.end.ensures tree is (omega (arith, behind, read.within)) ∙ ap (start_at tree) behind
