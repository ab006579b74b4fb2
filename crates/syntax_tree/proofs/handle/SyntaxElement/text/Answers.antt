use Rattle.std.proofs.Common.{◌∙◌, chars, ap}
use Rattle.squawk_tree.specs.Forest.{Forest}
use Rattle.syntax_tree.specs.Layout.{IsTree}
use Rattle.syntax_tree.specs.Trees.{text_at}
use Rattle.syntax_tree.proofs.Texts.{IsSlice, slices}
use Rattle.syntax_tree.proofs.Places.{held_in}
use Rattle.syntax_tree.proofs.handle.SyntaxElement.text.Goals as goal
use Rattle.syntax_tree.proofs.handle.SyntaxElement.text.Goals.{After-text_range}

module _ (c : After-text_range) where
  cut : (tree : Forest) → IsTree c.args.self.tree.now tree
      → IsSlice c.tree.inside.text.now c.text_range.result.start c.text_range.result.end (text_at tree c.args.self.at)
  cut tree is =
      rw (ap (λ l. l.text) c.tree.view_is, c.text_range.ensures.start tree is, c.text_range.ensures.end tree is)
      (slices c.args.self.tree.now tree is c.args.self.at c.args.self.within)

  some_cut : IsSlice c.tree.inside.text.now c.text_range.result.start c.text_range.result.end
      (text_at (held_in _ _ c.tree.view_is c.tree.invariant.holds).tree c.args.self.at)
  some_cut = let held = held_in _ _ c.tree.view_is c.tree.invariant.holds in cut held.tree held.is

pub range-requires-clause-start_le_end : goal.range-requires-clause-start_le_end
range-requires-clause-start_le_end c = (some_cut c).ascends

pub range-requires-clause-start_boundary : goal.range-requires-clause-start_boundary
range-requires-clause-start_boundary c = λ _. (some_cut c).starts

pub range-requires-clause-end_boundary : goal.range-requires-clause-end_boundary
range-requires-clause-end_boundary c = (some_cut c).ends

pub returns : goal.returns
returns c = λ tree is.
    let here = cut (goal.at.returns c).After-text_range tree is in
    ap chars (c.range.ensures.value ∙ here.is) ∙ here.chars_are
