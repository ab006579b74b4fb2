use Rattle.std.proofs.Common.{◌≤◌, ◌-◌, ◌+◌, ◌∙◌, leb, rules, ap, subst, slice_range}
use Rattle.std.proofs.lemmas.List.Sorted.{IsPartitionPoint-from_clause}
use Rattle.squawk_tree.specs.Forest.{Forest}
use Rattle.syntax_tree.specs.Layout.{IsTree, HoldsTree}
use Rattle.syntax_tree.proofs.TokenOfByte.{HasByte, token_found}
use Rattle.syntax_tree.proofs.tree.SyntaxTree.token_of_byte.Goals as goal
use Rattle.syntax_tree.proofs.tree.SyntaxTree.token_of_byte.Goals.{After-partition_point}

-- in each tree that lies there
has : (c : After-partition_point) (tree : Forest) → IsTree c.args.self.now tree
    → (1 ≤ c.begun_by-from.result + c.partition_point.result) × HasByte c.args.self.now tree c.args.byte (c.begun_by-from.result + c.partition_point.result - 1)
has c tree is =
    let elements = c.deref.ensures.value ∙ ap (λ l. l.elements) c.self.view_is in
    token_found c.args.self.now tree is c.args.byte c.requires c.begun_by-from.result c.begun_behind.result c.begun_by-from.ensures c.begun_behind.ensures
    (slice_range c.deref.result.now c.begun_by-from.result c.begun_behind.result)
    (ap (λ l. slice_range l c.begun_by-from.result c.begun_behind.result) elements)
    c.partition_point.result c.partition_point.ensures.bound
    (λ parted. IsPartitionPoint-from_clause (λ e. leb e.start c.args.byte) _ _ c.partition_point.ensures.partitioned parted (λ a r q k. search rules))

pub overflow_sub-result : goal.overflow_sub-result
overflow_sub-result c =
    let holds = subst HoldsTree c.self.view_is c.self.invariant.holds in
    (has c holds.tree holds.is).0

pub invariant_of-result : goal.invariant_of-result
invariant_of-result c =
    let c' = (goal.at.invariant_of-result c).After-partition_point in
    let holds = subst HoldsTree c.self.view_is c.self.invariant.holds in
    record { within = (has c' holds.tree holds.is).1.below }

pub returns-clause-token : goal.returns-clause-token
returns-clause-token c = λ tree is.
    let byte = (has (goal.at.returns-clause-token c).After-partition_point tree is).1 in
    (byte.is_token, byte.starts, byte.ends)
