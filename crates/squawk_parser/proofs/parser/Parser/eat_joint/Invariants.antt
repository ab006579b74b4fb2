use Rattle.squawk_parser.proofs.EatenParts.{IsTouched}
use Rattle.squawk_parser.proofs.parser.Parser.eat_joint.Given as goal

abbrev pub invariant-loop-part : goal.invariant-loop-part
invariant-loop-part l = IsTouched l.part-items l.part-index l.initial.self l.self
