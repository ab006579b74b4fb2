use Rattle.std.proofs.Common.{◌*◌, ◌+◌}
use Rattle.plain_editor.proofs.by_rules.sentences.Sentences.+sentences.Given as goal

abbrev pub decreases-again : goal.decreases-again
decreases-again l = 4 * l.depth + 2

abbrev pub decreases-inside : goal.decreases-inside
decreases-inside l = 4 * l.depth + 1

abbrev pub decreases-one_of : goal.decreases-one_of
decreases-one_of l = 4 * l.depth + 1

abbrev pub decreases-operation : goal.decreases-operation
decreases-operation l = 4 * l.depth + 2

abbrev pub decreases-part : goal.decreases-part
decreases-part l = 4 * l.depth + 0
