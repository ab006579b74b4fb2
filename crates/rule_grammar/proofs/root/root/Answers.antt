use Rattle.std.proofs.Common.{refl, ◌∙◌}
use Rattle.rule_grammar.proofs.Derived.{as_part, from_place}
use Rattle.rule_grammar.proofs.root.root.Goals as goal

pub returns-clause-derives : goal.returns-clause-derives
returns-clause-derives c =
    from_place (c.in_node-inside.ensures.told ∙ c.innermost-innermost.ensures.told)
    (as_part c.block.ensures.derives (λ d. c.innermost-innermost.ensures.inside _ refl _ _ (c.in_node-inside.ensures.inside _ refl _ _ d)))
