use Rattle.std.proofs.Common.{rules, arith, refl}
use Rattle.syntax_tree.specs.Drafts.{open_element}
use Rattle.syntax_tree.proofs.BlockPlaces.{HasBlocks-element}
use Rattle.syntax_tree.specs.Refusals.{RefusesNode}
use Rattle.syntax_tree.proofs.Drafts.{few_steps_taken, stood, IsGrowing-node, StandsAfter-node}
use Rattle.syntax_tree.proofs.Refusals.{none_open, some_open, elements_taken, wants_memory}
use Rattle.syntax_tree.proofs.builder.TreeBuilder.start_node.Goals as goal
use Rattle.syntax_tree.proofs.builder.TreeBuilder.start_node.Goals.{else-self-via-then-self+else-at-gt0, else-self-via-else-self}

pub returns-then-at-gt0-clause-step : goal.returns-then-at-gt0-clause-step
returns-then-at-gt0-clause-step c = λ steps stands.
    let before = stood _ _ c.self.view_is steps stands in (
      refl,
      (
        none_open _ steps before c.self.invariant.grows.few c.if-self.true,
        omega (arith, elements_taken _ steps before, c.len-at.ensures, c.if-at-gt0.true, c.self.inside.elements.ok),
      ),
    )

pub returns-then-at-clause-step : goal.returns-then-at-clause-step
returns-then-at-clause-step c = λ steps stands.
    let before = stood _ _ c.self.view_is steps stands in (
      refl,
      (
        λ second. elim c.else-self.branch [
          | else-self-via-then-self+else-at-gt0 w ↦ omega (arith, w.if-at-gt0.false, c.if-at.true)
          | else-self-via-else-self w ↦ omega (arith, some_open _ steps before w.if-self.false, second.0)
        ],
        omega (arith, elements_taken _ steps before, c.len-at.ensures, c.if-at.true, c.self.inside.elements.ok),
      ),
    )

pub returns-in_err-reserve-clause-step : goal.returns-in_err-reserve-clause-step
returns-in_err-reserve-clause-step c = λ steps stands.
    let before = stood _ _ c.self.view_is steps stands in
    wants_memory c.from_residual.result _ _ (RefusesNode steps) c.from_residual.ensures.1 (search rules) (
      λ second. elim c.else-self.branch [
        | else-self-via-then-self+else-at-gt0 w ↦
            omega (arith, w.if-at-gt0.false, second.1, elements_taken _ steps before, c.len-at.ensures, c.self.inside.elements.ok)
        | else-self-via-else-self w ↦ omega (arith, some_open _ steps before w.if-self.false, second.0)
      ],
      omega (arith, elements_taken _ steps before, c.len-at.ensures, c.if-at.false, c.self.inside.elements.ok),
    )

pub overflow_add-self : goal.overflow_add-self
overflow_add-self c = omega (arith, few_steps_taken _ c.self.invariant.grows)

pub invariant_of-self-2 : goal.invariant_of-self-2
invariant_of-self-2 c = record {
  grows = IsGrowing-node _ c.args.kind c.len-at.result c.push_reserved.new.self.items (search rules) (search rules)
      (λ none. elim c.else-self.branch [
        | else-self-via-then-self+else-at-gt0 w ↦ omega (arith, w.if-at-gt0.false, c.len-at.ensures, c.self.inside.elements.ok)
        | else-self-via-else-self w ↦ absurd (w.if-self.false none)
      ])
      c.self.invariant.grows (omega (arith, c.if-at.false, c.len-at.ensures, c.self.inside.elements.ok));
  places = HasBlocks-element _ _ c.push_reserved.new.self.items (open_element c.args.kind c.self.inside.innermost c.len-at.result c.self.inside.sent) _
      (search rules) refl c.self.invariant.places;
}

pub returns-clause-step : goal.returns-clause-step
returns-clause-step c = λ steps stands.
    StandsAfter-node _ c.args.kind c.len-at.result c.push_reserved.new.self.items (search rules) (search rules)
    (λ none. elim c.else-self.branch [
      | else-self-via-then-self+else-at-gt0 w ↦ omega (arith, w.if-at-gt0.false, c.len-at.ensures, c.self.inside.elements.ok)
      | else-self-via-else-self w ↦ absurd (w.if-self.false none)
    ])
    steps (stood _ _ c.self.view_is steps stands)
