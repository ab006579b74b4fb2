use Rattle.std.proofs.Common.{◌+◌, ◌-◌, ◌^◌, ◌<◌, length}
use Rattle.rule_text.specs.Rules.{MoreOperators, first_level}
use Rattle.rule_text.proofs.Decisions.{Leads}
use Rattle.rule_text.proofs.body.levels.Given as goal

abbrev pub invariant-loop-next : goal.invariant-loop-next
invariant-loop-next l = record {
  leads : Leads (MoreOperators l.level) (MoreOperators first_level) l.fn.reader l.reader;
  later : l.level.number < l.reader.at;
  fits : l.level.number + 1 < 2 ^ 64;
}

abbrev pub decreases-loop-next : goal.decreases-loop-next
decreases-loop-next l = length l.reader.words.now - l.reader.at
