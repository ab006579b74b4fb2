use Rattle.std.proofs.Common.{rules, arith, refl}
use Rattle.syntax_tree.proofs.BlockPlaces.{HasBlocks-closed}
use Rattle.syntax_tree.proofs.DraftsClosed.{closed}
use Rattle.syntax_tree.proofs.DraftsLast.{with_last}
use Rattle.syntax_tree.proofs.Drafts.{few_steps_taken, innermost_below, stood, IsGrowing-closed, StandsAfter-closed}
use Rattle.syntax_tree.proofs.Refusals.{none_open}
use Rattle.syntax_tree.proofs.builder.TreeBuilder.finish_node.Goals as goal

pub returns-then-node-clause-step : goal.returns-then-node-clause-step
returns-then-node-clause-step c = λ steps stands.
    (refl, (refl, none_open _ steps (stood _ _ c.self.view_is steps stands) c.self.invariant.grows.few c.if-node.true))

pub index_mut-element-requires : goal.index_mut-element-requires
index_mut-element-requires c = omega (arith, innermost_below _ c.self.invariant.grows c.if-node.false, c.self.inside.elements.ok)

pub overflow_add-self : goal.overflow_add-self
overflow_add-self c = omega (arith, few_steps_taken _ c.self.invariant.grows)

pub invariant_of-self : goal.invariant_of-self
invariant_of-self c = record {
  grows = IsGrowing-closed _ c.self.invariant.grows.few c.if-node.false c.index.result.now c.index_mut.result.now c.index_mut-element.result.now c.len-behind.result
      (search rules) (search rules) c.index_mut.ensures.value c.index_mut-element.ensures.value c.self.invariant.grows;
  places = HasBlocks-closed _ c.self.inside.elements.items _ c.self.inside.innermost
      c.index_mut.result.now (with_last c.self.inside.innermost c.index_mut.result.now)
      c.index_mut-element.result.now (closed c.len-behind.result c.index.result.now.last c.index_mut-element.result.now) _
      c.index_mut.ensures.value c.index_mut-element.ensures.value refl refl c.self.invariant.places;
}

pub returns-clause-step : goal.returns-clause-step
returns-clause-step c = λ steps stands.
    StandsAfter-closed _ c.self.invariant.grows.few c.if-node.false c.index.result.now c.index_mut.result.now c.index_mut-element.result.now c.len-behind.result
    (search rules) (search rules) c.index_mut.ensures.value c.index_mut-element.ensures.value steps (stood _ _ c.self.view_is steps stands)
