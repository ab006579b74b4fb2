use Rattle.std.proofs.Common.{refl, ◌∙◌}
use Rattle.rule_grammar.proofs.table.Table.innermost.Goals as goal

pub loop-init : goal.loop-init
loop-init c = ((λ t same i j d. d), refl)

pub loop-preserved : goal.loop-preserved
loop-preserved c =
    ((λ t same i j d. c.loop.invariant.0 t same i j (c.in-Some.ensures.inside t same i j d)), c.further_in.ensures.told ∙ c.loop.invariant.1)

pub returns-in-None-clause-inside : goal.returns-in-None-clause-inside
returns-in-None-clause-inside c = c.loop.invariant.0

pub returns-in-None-clause-told : goal.returns-in-None-clause-told
returns-in-None-clause-told c = c.further_in.ensures.told ∙ c.loop.invariant.1

pub returns-clause-inside : goal.returns-clause-inside
returns-clause-inside c = c.loop.invariant.0

pub returns-clause-told : goal.returns-clause-told
returns-clause-told c = c.loop.invariant.1
