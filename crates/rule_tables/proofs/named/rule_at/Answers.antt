use Rattle.std.proofs.Common.{◌≤◌, ◌∙◌, Some, ap, arith, sym}
use Rattle.std.specs.Option.{option_copied}
use Rattle.rule_tables.specs.Rows.{end_of}
use Rattle.rule_tables.proofs.named.rule_at.Goals as goal

pub end_of-requires-in-Some-Rule : goal.end_of-requires-in-Some-Rule
end_of-requires-in-Some-Rule c = (c.requires c.args.part _ (sym c.part_at.ensures ∙ ap option_copied c.in-Some-Rule.is ∙ ap Some c.in-Some-Rule.field-0-is)).0

pub end_of-requires : goal.end_of-requires
end_of-requires c =
    let end : end_of c.args.part c.in-Some-Rule.size ≤ 65000 = (c.requires c.args.part _ (sym c.part_at.ensures ∙ ap option_copied c.in-Some-Rule.is ∙ ap Some c.in-Some-Rule.field-0-is)).0 in
    omega (arith, end)
