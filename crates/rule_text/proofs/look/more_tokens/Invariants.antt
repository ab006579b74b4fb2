use Rattle.std.proofs.Common.{◌-◌, length}
use Rattle.rule_text.specs.Written.{MoreTokens}
use Rattle.rule_text.proofs.Decisions.{Leads}
use Rattle.rule_text.proofs.look.more_tokens.Given as goal

abbrev pub invariant-loop-reader : goal.invariant-loop-reader
invariant-loop-reader l = Leads MoreTokens MoreTokens l.fn.reader l.reader

abbrev pub decreases-loop-reader : goal.decreases-loop-reader
decreases-loop-reader l = length l.reader.words.now - l.reader.at
