use Rattle.std.proofs.Common.{IfOk, List, ◌∙◌, sym, subst}
use Rattle.rule_parts.specs.declared.Part.{Part}
use Rattle.rule_tables.specs.Classes.{HasClasses}
use Rattle.rule_tables.specs.Refusals.{IsPlanOf}
use Rattle.rule_tables.proofs.UpToPart.{are_small}
use Rattle.rule_tables.proofs.rules.Rules.new.Goals as goal

pub rules_by-requires : goal.rules_by-requires
rules_by-requires g c = are_small (g.N.Names.vocabulary c.args.names.now) c.in_ok-definitions.definitions.parts.now (sym c.fault_of.ensures ∙ c.in-None.is)

pub returns-clause-classes : goal.returns-clause-classes
returns-clause-classes g c =
    subst (λ (parts : List Part). IfOk c.rules_by.result (λ rules. HasClasses (g.N.Names.vocabulary c.args.names.now) parts rules.sets)) c.in_ok-definitions.ensures c.rules_by.ensures.classes

pub returns-clause-plan : goal.returns-clause-plan
returns-clause-plan g c =
    subst (λ (parts : List Part). IfOk c.rules_by.result (λ rules. IsPlanOf (g.N.Names.vocabulary c.args.names.now) parts rules.plan)) c.in_ok-definitions.ensures c.rules_by.ensures.plan
