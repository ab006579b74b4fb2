use Rattle.std.proofs.Common.{◌-◌, length}
use Rattle.rule_text.specs.Rules.{Members}
use Rattle.rule_text.proofs.Decisions.{Leads}
use Rattle.rule_text.proofs.rule.members.Given as goal

abbrev pub invariant-loop-part : goal.invariant-loop-part
invariant-loop-part l = Leads Members Members l.fn.reader l.reader

abbrev pub decreases-loop-part : goal.decreases-loop-part
decreases-loop-part l = length l.reader.words.now - l.reader.at
