use Rattle.std.proofs.Common.{Bool, false, length, ap}
use Rattle.rule_tables.specs.Classes.{list_has, member_has, members_have}
use Rattle.rule_tables.proofs.NoKinds.{has_none}
use Rattle.rule_tables.proofs.classes.union_of.Goals as goal

pub loop-member-init : goal.loop-member-init
loop-member-init g c kind =
    ap (λ (before : Bool). members_have (member_has (g.N.Names.vocabulary c.args.names.now) c.args.definitions.now.parts.now (list_has c.args.sets.now) (length c.args.sets.now) c.is_words-is_words.result kind) before false c.members_of-member-items.result.now) (has_none kind)
