use Rattle.std.proofs.Common.{arith, ◌≡◌, ◌∙◌, ◌++◌, ap, length, map, rules}
use Rattle.std.proofs.lemmas.List.{take_all}
use Rattle.std.proofs.lemmas.Fn.{always_returns_same}
use Rattle.syntax_tree.specs.TextErrors.{OfGrammar, OfLexer, meant, place_of}
use Rattle.syntax_tree.proofs.tree.SyntaxTree.errors_by_place.Goals as goal

pub returns : goal.returns
returns c = λ tree is.
    let list = c.args.self.now.lexical in
    let all = take_all c.loop-error.error-index list (omega (arith, c.loop-error-test.false, ap length c.lexical_errors-error-items.ensures)) in
    let lexical : map meant c.loop-error.all.items ≡ map OfLexer list = c.loop-error.invariant ∙ ap (map OfLexer) all in
    let computes = always_returns_same _ (λ a r. r ≡ place_of a.0.now) _ (λ a r q k. search rules) in
    record {
      gathered = c.push_errors.new.all.items;
      mean = c.in_ok-push_errors.ensures
          ∙ (ap (λ l. l ++ map OfGrammar c.errors.result) lexical ∙ ap (λ l. map OfLexer list ++ map OfGrammar l) (c.errors.ensures tree is));
      same = c.in_ok-sort_by_key.ensures.permutation;
      sorted = c.in_ok-sort_by_key.ensures.sorted place_of computes;
      stable = c.in_ok-sort_by_key.ensures.stable place_of computes;
    }
