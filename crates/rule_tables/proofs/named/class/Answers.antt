use Rattle.std.proofs.Common.{arith}
use Rattle.rule_tables.proofs.UpToPart.{few_parts}
use Rattle.rule_tables.proofs.named.class.Goals as goal

pub class_row-requires-clause-few : goal.class_row-requires-clause-few
class_row-requires-clause-few g c = omega (arith, few_parts c.args.definitions.now.parts.now c.requires, c.in-Some.ensures.few)
