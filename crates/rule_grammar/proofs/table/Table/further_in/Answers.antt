use Rattle.std.proofs.Common.{sym, ◌∙◌}
use Rattle.std.proofs.lemmas.Option.{IfSome_then}
use Rattle.rule_grammar.proofs.Roots.{in_arm, in_call}
use Rattle.rule_grammar.proofs.table.Table.further_in.Goals as goal

pub returns-in-Call-clause-inside : goal.returns-in-Call-clause-inside
returns-in-Call-clause-inside c = in_call c.in_ok-row.ensures.is (sym c.part.ensures ∙ c.in-Call.is)

pub returns-in-Choice-clause-inside : goal.returns-in-Choice-clause-inside
returns-in-Choice-clause-inside c =
    IfSome_then c.arm.result c.arm.ensures.is (λ inner way. in_arm c.in_ok-row.ensures.is (sym c.part.ensures ∙ c.in-Choice.is) way)
