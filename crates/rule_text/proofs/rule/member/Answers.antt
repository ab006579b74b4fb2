use Rattle.std.proofs.Common.{refl, sym, ◌∙◌}
use Rattle.rule_text.specs.declared.word.Sort.TheVariants as sorts
use Rattle.rule_text.specs.Rules.Member.{given, kind, other, without}
use Rattle.rule_text.proofs.rule.member.Goals as goal

pub returns-in-Kind-clause-is : goal.returns-in-Kind-clause-is
returns-in-Kind-clause-is c = kind (c.name-name.ensures sorts.Kind (sym c.sort.ensures ∙ c.in-Kind.is) refl)

pub returns-in-Class-clause-is : goal.returns-in-Class-clause-is
returns-in-Class-clause-is c = other (c.name-name.ensures sorts.Class (sym c.sort.ensures ∙ c.in-Class.is) refl)

pub returns-in-Call-clause-is : goal.returns-in-Call-clause-is
returns-in-Call-clause-is c = given (c.name-name.ensures sorts.Call (sym c.sort.ensures ∙ c.in-Call.is) refl)

pub returns-in-Minus-clause-is : goal.returns-in-Minus-clause-is
returns-in-Minus-clause-is c = without (sym c.sort.ensures ∙ c.in-Minus.is)
