use Rattle.squawk_parser.proofs.EatenParts.{IsEaten}
use Rattle.squawk_parser.proofs.parser.Parser.eat_elements.Given as goal

-- the elements so far are recorded, and the others stand
abbrev pub invariant-loop-part : goal.invariant-loop-part
invariant-loop-part l = IsEaten l.part-items l.part-index l.fn.self l.self
