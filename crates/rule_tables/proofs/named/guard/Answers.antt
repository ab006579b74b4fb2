use Rattle.std.proofs.Common.{arith}
use Rattle.std.proofs.lemmas.Option.{IfSome_then}
use Rattle.rule_tables.proofs.UpToPart.{few_parts}
use Rattle.rule_tables.proofs.named.guard.Goals as goal

pub guard_of-requires-clause-first : goal.guard_of-requires-clause-first
guard_of-requires-clause-first c = IfSome_then c.class_number.result c.class_number.ensures.few (λ number few. omega (arith, few, few_parts c.args.definitions.now.parts.now c.requires))

pub guard_of-requires-clause-next : goal.guard_of-requires-clause-next
guard_of-requires-clause-next c = IfSome_then c.class_number-in-Some-Guard.result c.class_number-in-Some-Guard.ensures.few (λ number few. omega (arith, few, few_parts c.args.definitions.now.parts.now c.requires))
