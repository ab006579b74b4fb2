use Rattle.std.proofs.Common.{◌∙◌, leb, rules, ap, subst}
use Rattle.std.proofs.lemmas.List.Sorted.{IsPartitionPoint-from_clause}
use Rattle.syntax_tree.specs.Layout.{HoldsTree}
use Rattle.syntax_tree.proofs.ErrorsPlaced.{come_before}
use Rattle.syntax_tree.proofs.tree.SyntaxTree.errors_before.Goals as goal

pub returns : goal.returns
returns c =
    let holds = subst HoldsTree c.self.view_is c.self.invariant.holds in
    come_before c.args.self.now holds.tree holds.is c.args.place c.deref.result.now (c.deref.ensures.value ∙ ap (λ l. l.errors) c.self.view_is)
    c.partition_point.result c.partition_point.ensures.bound
    (λ parted. IsPartitionPoint-from_clause (λ e. leb e.next c.args.place) _ _ c.partition_point.ensures.partitioned parted (λ a r q k. search rules))
