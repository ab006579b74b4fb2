use Rattle.std.proofs.Common.{◌∙◌}
use Rattle.rule_tables.proofs.Opened.{decided_in}
use Rattle.rule_tables.proofs.rules.rules_of.Goals as goal

pub returns-clause-decided : goal.returns-clause-decided
returns-clause-decided c =
    decided_in c.in_ok-map.map c.args.definitions.now.parts.now c.in_ok-map.ensures.rows c.in_ok-map.ensures.sets (c.in_ok-map.ensures.start ∙ c.file_row-header.ensures) c.in_ok-numbers.ensures.decided
