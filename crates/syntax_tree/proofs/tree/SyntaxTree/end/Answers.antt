use Rattle.std.proofs.Common.{◌≡◌, ◌∙◌, ◌<◌, ◌≤◌, length, get_or, ap, sym, arith}
use Rattle.syntax_tree.specs.Trees.{start_at, size}
use Rattle.syntax_tree.proofs.Texts.{start-all, bytes_are, elements_are}
use Rattle.syntax_tree.proofs.Places.{reads, element_read}
use Rattle.syntax_tree.proofs.tree.SyntaxTree.end.Goals as goal

pub returns-in-Some : goal.returns-in-Some
returns-in-Some c = λ tree is _.
    let laid = c.args.self.now in
    let at = c.args.element.behind in
    let next = c.in-Some.next.now in
    let found = c.in-Some.ensures.lookup in
    let below : at < length laid.elements = omega (arith, found.3.0, ap length c.deref.ensures.value, ap (λ l. length l.elements) c.self.view_is) in
    ap (λ e. e.start) (element_read _ _ c.self.view_is at below next (found.1 ∙ ap (λ l. get_or l at next) c.deref.ensures.value))
    ∙ (reads laid tree is at below).start

-- behind the last element the text ends
pub returns-in-None : goal.returns-in-None
returns-in-None c = λ tree is within.
    let laid = c.args.self.now in
    let at = c.args.element.behind in
    let past : length laid.elements ≤ at = omega (arith, c.in-None.ensures.lookup.3, ap length c.deref.ensures.value, ap (λ l. length l.elements) c.self.view_is) in
    let all : size tree ≡ at = omega (arith, elements_are laid tree is) in
    ap (λ l. length l.text) c.self.view_is ∙ (bytes_are laid tree is ∙ (sym (start-all tree) ∙ ap (start_at tree) all))
