use Rattle.std.proofs.Common.{◌-◌}
use Rattle.squawk_kinds.specs.TokenSets.{has}
use Rattle.squawk_parser.proofs.SkippedTokens.{Skips}
use Rattle.squawk_parser.proofs.parser.Parser.skip_to.Given as goal

abbrev pub invariant-loop-set : goal.invariant-loop-set
invariant-loop-set l = Skips (has l.set) l.initial.self l.self

-- the tokens that are left
abbrev pub decreases-loop-set : goal.decreases-loop-set
decreases-loop-set l = l.self.limit - l.self.position
