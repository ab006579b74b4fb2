use Rattle.std.proofs.Common.{inl, inr, arith}
use Rattle.std.proofs.lemmas.Bool.{cases_lt}
use Rattle.squawk_kinds.proofs.TokenSetLemmas.{has-other}
use Rattle.rule_tables.proofs.sets.first_of.Goals as goal

pub returns-clause-none : goal.returns-clause-none
returns-clause-none c none kind = elim (cases_lt kind 640) [ inl below ↦ c.loop-number.invariant kind (omega arith) | inr past ↦ has-other c.args.set kind (omega arith) ]
