use Rattle.std.proofs.Common.{◌+◌, ◌-◌, ◌*◌, length}
use Rattle.rule_text.specs.Reading.{written_as}
use Rattle.rule_text.specs.Written.Form.{arms, items}
use Rattle.rule_text.proofs.Decisions.{Leads}
use Rattle.rule_text.proofs.expression.+expression.Given as goal

-- A call has less depth, or as much and a lower rank.
abbrev pub decreases-alternatives : goal.decreases-alternatives
decreases-alternatives l = 10 * l.depth + 9

abbrev pub decreases-arms : goal.decreases-arms
decreases-arms l = 10 * l.depth + 8

abbrev pub decreases-arm : goal.decreases-arm
decreases-arm l = 10 * l.depth + 7

abbrev pub decreases-alternative : goal.decreases-alternative
decreases-alternative l = 10 * l.depth + 6

abbrev pub decreases-sequence : goal.decreases-sequence
decreases-sequence l = 10 * l.depth + 5

abbrev pub decreases-items : goal.decreases-items
decreases-items l = 10 * l.depth + 4

abbrev pub decreases-item : goal.decreases-item
decreases-item l = 10 * l.depth + 3

abbrev pub decreases-atom : goal.decreases-atom
decreases-atom l = 10 * l.depth + 2

abbrev pub decreases-group : goal.decreases-group
decreases-group l = 10 * l.depth + 1

abbrev pub decreases-list : goal.decreases-list
decreases-list l = 10 * l.depth + 1

abbrev pub decreases-nested : goal.decreases-nested
decreases-nested l = 10 * l.depth

abbrev pub invariant-items-loop-reader : goal.invariant-items-loop-reader
invariant-items-loop-reader l = Leads (written_as items l.fn.floor) (written_as items l.fn.floor) l.fn.reader l.reader

abbrev pub decreases-items-loop-reader : goal.decreases-items-loop-reader
decreases-items-loop-reader l = length l.reader.words.now - l.reader.at

abbrev pub invariant-arms-loop-reader : goal.invariant-arms-loop-reader
invariant-arms-loop-reader l =
    Leads (written_as (arms l.fn.of_rule l.fn.ordered) l.fn.floor) (written_as (arms l.fn.of_rule l.fn.ordered) l.fn.floor) l.fn.reader l.reader

abbrev pub decreases-arms-loop-reader : goal.decreases-arms-loop-reader
decreases-arms-loop-reader l = length l.reader.words.now - l.reader.at
