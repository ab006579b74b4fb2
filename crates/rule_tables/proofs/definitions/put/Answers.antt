use Rattle.std.proofs.Common.{rules}
use Rattle.std.proofs.lemmas.Map.Text.{btree_map_updates_str}
use Rattle.rule_tables.proofs.ByName.{put_first}
use Rattle.rule_tables.proofs.definitions.put.Goals as goal

pub returns-in_ok-insert : goal.returns-in_ok-insert
returns-in_ok-insert c one =
    put_first c.args.by_name.now c.insert.new.self c.args.name.now one c.args.definition (search rules)
    (btree_map_updates_str c.args.name.now c.args.by_name.now c.insert.new.self _ c.in_ok-insert.ensures.updates one)
