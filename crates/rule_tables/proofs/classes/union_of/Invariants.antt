use Rattle.std.proofs.Common.{◌≡◌, ℕ, false, drop, length}
use Rattle.squawk_kinds.specs.TokenSets.{has}
use Rattle.rule_tables.specs.Classes.{list_has, member_has, members_have}
use Rattle.rule_tables.proofs.classes.union_of.Given as goal

-- the union so far, joined with the members that are left, is that of all
abbrev pub invariant-loop-member : goal.invariant-loop-member
invariant-loop-member g l = (kind : ℕ) →
    members_have (member_has (g.N.Names.vocabulary l.names) l.definitions.parts.now (list_has l.sets) (length l.sets) l.is_words kind) (has l.set kind) l.is_without (drop l.member-index l.member-items)
    ≡ members_have (member_has (g.N.Names.vocabulary l.names) l.definitions.parts.now (list_has l.sets) (length l.sets) l.is_words kind) false false l.member-items
