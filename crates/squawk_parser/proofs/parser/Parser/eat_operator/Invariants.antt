use Rattle.squawk_parser.proofs.EatenOperator.{AreEaten}
use Rattle.squawk_parser.proofs.parser.Parser.eat_operator.Given as goal

-- so many tokens are eaten
abbrev pub invariant-loop : goal.invariant-loop
invariant-loop l = AreEaten l.counter l.initial.self l.self
