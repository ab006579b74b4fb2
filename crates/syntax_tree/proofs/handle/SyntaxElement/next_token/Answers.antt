use Rattle.std.proofs.Common.{◌≡◌, ◌∙◌, ◌+◌, length, ap, sym, arith}
use Rattle.syntax_tree.specs.Trees.{size, size_at}
use Rattle.syntax_tree.proofs.Texts.{elements_are}
use Rattle.syntax_tree.proofs.Places.{reads}
use Rattle.syntax_tree.proofs.handle.SyntaxElement.next_token.Goals as goal

pub returns : goal.returns
returns c = λ tree is.
    let read = reads c.args.self.tree.now tree is c.args.self.at c.args.self.within in
    let behind : c.args.self.at + size_at tree c.args.self.at ≡ c.behind.result = sym (c.behind.ensures.behind ∙ read.behind) in
    let all : size tree ≡ c.len.result =
    omega (arith, c.len.ensures, c.tree.inside.elements.ok, ap (λ l. length l.elements) c.tree.view_is, elements_are c.args.self.tree.now tree is) in
    rw (behind, all) (c.first_token_between.ensures tree is)
