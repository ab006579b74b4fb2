use Rattle.std.proofs.Common.{◌≡◌, map, take}
use Rattle.syntax_tree.specs.TextErrors.{OfLexer, meant}
use Rattle.syntax_tree.proofs.tree.SyntaxTree.errors_by_place.Given as goal

abbrev pub invariant-loop-error : goal.invariant-loop-error
invariant-loop-error l = map meant l.all.items ≡ map OfLexer (take l.error-index l.self.lexical)
