use Rattle.std.proofs.Common.{◌≡◌, ◌∙◌, length, take, rules, arith, ap, refl}
use Rattle.std.proofs.lemmas.List.{length-take-le}
use Rattle.syntax_tree.proofs.BlockPlaces.{HasBlocks-bytes}
use Rattle.syntax_tree.proofs.Drafts.{stood}
use Rattle.syntax_tree.proofs.Refusals.{sent_boundary, not_open, not_without, finished, HoldsTree-finished}
use Rattle.syntax_tree.proofs.builder.TreeBuilder.finish_with.Goals as goal
use Rattle.syntax_tree.proofs.builder.TreeBuilder.finish_with.Goals.{then-self-via-then-self, then-self-via-else-self+then-len-eq0}

pub returns-then-self-clause-refused : goal.returns-then-self-clause-refused
returns-then-self-clause-refused c = (
  refl,
  λ steps forest stands one same.
      elim c.then-self.branch [
        | then-self-via-then-self w ↦ not_open _ steps (stood _ _ c.self.view_is steps stands) forest one same w.if-self.true
        | then-self-via-else-self+then-len-eq0 w ↦
            not_without _ steps (stood _ _ c.self.view_is steps stands) forest one same (omega (arith, w.len.ensures, w.if-len-eq0.true, c.self.inside.elements.ok))
      ],
)

pub range-requires-clause-end_boundary : goal.range-requires-clause-end_boundary
range-requires-clause-end_boundary c = sent_boundary _ c.self.invariant.grows

pub invariant_of-result : goal.invariant_of-result
invariant_of-result c = record {
  holds = HoldsTree-finished _ c.range.result.now c.args.lexical.items (search rules) c.self.invariant.grows.few c.if-self.false
      (omega (arith, c.len.ensures, c.if-len-eq0.false, c.self.inside.elements.ok)) c.self.invariant.grows;
  places =
      let text : c.range.result.now ≡ take c.self.inside.sent c.self.inside.source.now = search rules in
      HasBlocks-bytes _ _ c.self.inside.sent (length c.range.result.now)
      (ap length text ∙ length-take-le c.self.inside.sent c.self.inside.source.now c.self.invariant.grows.is.sent) c.self.invariant.places;
}

pub returns-clause-tree : goal.returns-clause-tree
returns-clause-tree c = λ steps stands.
    finished _ c.range.result.now c.args.lexical.items (search rules) c.self.invariant.grows.few c.if-self.false (omega (arith, c.len.ensures, c.if-len-eq0.false, c.self.inside.elements.ok))
    steps (stood _ _ c.self.view_is steps stands)
