use Rattle.std.proofs.Common.{inl, inr, refl}
use Rattle.rule_tables.proofs.NoKinds.{token_in}
use Rattle.rule_tables.proofs.strands.undecided_at.Goals as goal

pub told-requires-clause-token : goal.told-requires-clause-token
told-requires-clause-token c = token_in c.args.shared c.in-Some.kind c.in-Some.ensures.some

pub returns-in-Some : goal.returns-in-Some
returns-in-Some c = inl (_, c.in-Some.kind, refl, refl, c.in-Some.ensures.some, c.told.ensures.len, c.told.ensures.kinds)

pub returns-in-None : goal.returns-in-None
returns-in-None c = inr (refl, c.first_of.ensures.none c.in-None.is)
