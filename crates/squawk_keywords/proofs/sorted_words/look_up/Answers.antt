use Rattle.std.proofs.Common.{◌∙◌, ap, rules}
use Rattle.std.specs.Ordering.{is_eq}
use Rattle.std.proofs.lemmas.List.Sorted.{IsPartitionPoint-from_clause}
use Rattle.squawk_keywords.proofs.SortedWordLemmas.{is_before, kind_by-at, kind_by-past, partitioned}
use Rattle.squawk_keywords.proofs.sorted_words.look_up.Goals as goal

pub returns-in_err-word : goal.returns-in_err-word
returns-in_err-word c =
    let point = IsPartitionPoint-from_clause (is_before c.args.ignores_case c.args.text.now) c.args.words.now c.partition_point-at.result c.partition_point-at.ensures.partitioned
    (partitioned c.args.ignores_case c.args.text.now c.args.words.now c.requires) (λ a r q k. search rules) in
    c.from_residual.ensures
    ∙ kind_by-past c.args.ignores_case c.args.words.now c.args.text.now c.partition_point-at.result c.requires point c.in_err-word.ensures.lookup.3

pub returns : goal.returns
returns c =
    let point = IsPartitionPoint-from_clause (is_before c.args.ignores_case c.args.text.now) c.args.words.now c.partition_point-at.result c.partition_point-at.ensures.partitioned
    (partitioned c.args.ignores_case c.args.text.now c.args.words.now c.requires) (λ a r q k. search rules) in
    let at = c.in_ok-word.ensures.lookup in
    c.then_some.ensures
    ∙ kind_by-at c.args.ignores_case c.args.words.now c.args.text.now c.partition_point-at.result c.requires point c.in_ok-word.field-0.now c.is_eq.result at.3.0 at.3.1
    (c.is_eq.ensures ∙ ap is_eq c.order.ensures)
