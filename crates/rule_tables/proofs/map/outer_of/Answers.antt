use Rattle.std.proofs.Common.{◌≡◌, ℕ, List, ◌<◌, ◌≤◌, ◌∙◌, suc, arith, nat_lt, None, Option, Some, sym, ap, subst, slice_index_or}
use Rattle.std.proofs.lemmas.Bool.{le-ltb, lt-ltb, ltb-true}
use Rattle.std.proofs.lemmas.Option.{get_or_from_slice_get}
use Rattle.rule_grammar.specs.declared.part.Part.{Part}
use Rattle.rule_tables.specs.Places.{end_at, last_below, outer_of}
use Rattle.rule_tables.specs.Maps.{AreOuters}
use Rattle.rule_tables.proofs.Below.{last-within, last_no, rank, rank-below}
use Rattle.rule_tables.proofs.map.outer_of.Goals as goal

-- the next row that may end after row k is the one that this row is in
module _ (rows : List Part) (outers : List (Option ℕ)) (k row : ℕ) (are : AreOuters rows outers k) (lt : row < k) where
  next_is : slice_index_or outers row None ≡ outer_of rows row
  next_is = get_or_from_slice_get outers row (outer_of rows row) None (are.are row lt)

  smaller : rank (slice_index_or outers row None) ≤ row
  smaller = rw next_is (rank-below (λ o. nat_lt row (end_at rows o)) row)

  still_last : end_at rows row ≤ k → outer_of rows k ≡ last_below (λ o. nat_lt k (end_at rows o)) (suc row) → outer_of rows k ≡ last_below (λ o. nat_lt k (end_at rows o)) (rank (slice_index_or outers row None))
  still_last ends is =
      is ∙ last_no (λ o. nat_lt k (end_at rows o)) row (le-ltb k (end_at rows row) ends)
      ∙ last-within (λ o. nat_lt k (end_at rows o)) (λ o. nat_lt row (end_at rows o)) row (λ o less passes. let more : k < end_at rows o = ltb-true k (end_at rows o) passes in lt-ltb row (end_at rows o) (omega arith))
      ∙ ap (λ (at : Option ℕ). last_below (λ o. nat_lt k (end_at rows o)) (rank at)) (sym next_is)

row_below : (at : Option ℕ) (row k : ℕ) → at ≡ Some row → rank at ≤ k → row < k
row_below at row k is below = let more : rank (Some row) ≤ k = subst (λ (found : Option ℕ). rank found ≤ k) is below in omega arith

pub loop-at-smaller : goal.loop-at-smaller
loop-at-smaller c =
    let lt : c.in-Some.row < c.args.index = row_below c.loop-at.at c.in-Some.row c.args.index c.in-Some.is c.loop-at.invariant.below in
    let less : rank (slice_index_or c.args.outers.now c.in-Some.row None) ≤ c.in-Some.row = smaller c.args.rows.now c.args.outers.now c.args.index c.in-Some.row c.requires lt in
    rw c.in-Some.is (omega arith)

pub loop-at-preserved : goal.loop-at-preserved
loop-at-preserved c =
    let lt : c.in-Some.row < c.args.index = row_below c.loop-at.at c.in-Some.row c.args.index c.in-Some.is c.loop-at.invariant.below in
    let less : rank (slice_index_or c.args.outers.now c.in-Some.row None) ≤ c.in-Some.row = smaller c.args.rows.now c.args.outers.now c.args.index c.in-Some.row c.requires lt in
    let ends : end_at c.args.rows.now c.in-Some.row ≤ c.args.index = omega (arith, c.end_at.ensures, c.if-index-end_at.false) in
    record {
      below = omega arith;
      last = still_last c.args.rows.now c.args.outers.now c.args.index c.in-Some.row c.requires lt ends (subst (λ (found : Option ℕ). outer_of c.args.rows.now c.args.index ≡ last_below (λ o. nat_lt c.args.index (end_at c.args.rows.now o)) (rank found)) c.in-Some.is c.loop-at.invariant.last);
    }
