use Rattle.std.proofs.Common.{◌≡◌, ◌∙◌, ap, rules}
use Rattle.std.specs.Ordering.{is_lt}
use Rattle.std.proofs.lemmas.Cmp.{nat_list_cmp_total}
use Rattle.std.proofs.lemmas.Fn.{always_returns_same}
use Rattle.std.proofs.lemmas.List.Sorted.{ranks_by}
use Rattle.squawk_keywords.specs.KeywordPairs.{pairs_of}
use Rattle.squawk_keywords.specs.LetterCase.{kind_by}
use Rattle.squawk_keywords.proofs.SortedWordLemmas.{comes_before, key, kind_by-sorted}
use Rattle.squawk_keywords.proofs.sorted_words.sorted.Goals as goal

pub returns-clause-order : goal.returns-clause-order
returns-clause-order c =
    c.in_ok-sort_by.ensures.sorted (comes_before c.args.ignores_case) (ranks_by nat_list_cmp_total (key c.args.ignores_case))
    (always_returns_same _ (λ a r. is_lt r ≡ comes_before c.args.ignores_case a.0.now a.1.0.now) _ (λ a r f k. search rules))

pub returns-clause-kinds : goal.returns-clause-kinds
returns-clause-kinds c = λ text.
    kind_by-sorted c.args.ignores_case _ _
    (c.sort_by.ensures.stable (comes_before c.args.ignores_case) (ranks_by nat_list_cmp_total (key c.args.ignores_case))
    (always_returns_same _ (λ a r. is_lt r ≡ comes_before c.args.ignores_case a.0.now a.1.0.now) _ (λ a r f k. search rules))) text
    ∙ ap (λ words. kind_by c.args.ignores_case (pairs_of words) text) c.in_ok-words.ensures
