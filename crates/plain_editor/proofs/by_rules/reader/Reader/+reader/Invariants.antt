use Rattle.std.proofs.Common.{◌*◌, ◌+◌}
use Rattle.plain_editor.proofs.by_rules.reader.Reader.+reader.Given as goal

abbrev pub decreases-ends : goal.decreases-ends
decreases-ends l = 4 * l.depth + 0

abbrev pub decreases-inside : goal.decreases-inside
decreases-inside l = 4 * l.depth + 1

abbrev pub decreases-listed : goal.decreases-listed
decreases-listed l = 4 * l.depth + 2

abbrev pub decreases-one_of : goal.decreases-one_of
decreases-one_of l = 4 * l.depth + 1

abbrev pub decreases-operate : goal.decreases-operate
decreases-operate l = 4 * l.depth + 2

abbrev pub decreases-operation : goal.decreases-operation
decreases-operation l = 4 * l.depth + 3

abbrev pub decreases-repeated : goal.decreases-repeated
decreases-repeated l = 4 * l.depth + 2
