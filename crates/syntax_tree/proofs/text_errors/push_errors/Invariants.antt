use Rattle.std.proofs.Common.{◌≡◌, ◌++◌, map}
use Rattle.syntax_tree.specs.TextErrors.{OfGrammar, meant}
use Rattle.syntax_tree.proofs.text_errors.push_errors.Given as goal

abbrev pub invariant-loop-error : goal.invariant-loop-error
invariant-loop-error l = map meant l.all.items ++ map OfGrammar l.error-iterator ≡ map meant l.initial.all.items ++ map OfGrammar l.initial.error-iterator
