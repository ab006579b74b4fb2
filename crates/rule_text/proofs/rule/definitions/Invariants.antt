use Rattle.std.proofs.Common.{◌-◌, length}
use Rattle.rule_text.specs.Rules.{Rules}
use Rattle.rule_text.proofs.Decisions.{Leads}
use Rattle.rule_text.proofs.rule.definitions.Given as goal

abbrev pub invariant-loop-reader : goal.invariant-loop-reader
invariant-loop-reader l = Leads Rules Rules l.fn.reader l.reader

abbrev pub decreases-loop-reader : goal.decreases-loop-reader
decreases-loop-reader l = length l.reader.words.now - l.reader.at
