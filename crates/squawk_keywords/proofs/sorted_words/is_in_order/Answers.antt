use Rattle.std.proofs.Common.{◌≡◌, not, rules}
use Rattle.std.proofs.lemmas.Fn.{always_returns_same}
use Rattle.squawk_keywords.proofs.SortedWordLemmas.{comes_before, from_adjacent}
use Rattle.squawk_keywords.proofs.sorted_words.is_in_order.Goals as goal

pub returns : goal.returns
returns c =
    from_adjacent c.args.ignores_case c.args.words.now c.is_sorted_by.result
    (c.is_sorted_by.ensures.cases (λ one other. not (comes_before c.args.ignores_case other one))
    (always_returns_same _ (λ a r. r ≡ not (comes_before c.args.ignores_case a.1.0.now a.0.now)) _ (λ a r f k. search rules)))
