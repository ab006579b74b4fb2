use Rattle.std.proofs.Common.{◌∙◌, ap, sym}
use Rattle.std.specs.Option.{option_copied}
use Rattle.squawk_kinds.proofs.FirstPairs.{first_name-at, first_name-past}
use Rattle.squawk_kinds.proofs.kind_names.KindNames.name.Goals as goal

pub returns-in_err-name-clause-name : goal.returns-in_err-name-clause-name
returns-in_err-name-clause-name c =
    ap option_copied c.from_residual.ensures
    ∙ sym (first_name-past c.self.inside.pairs.now c.args.self.now c.args.kind c.slot-slot.result (c.self.view_is ∙ c.slot-slot.ensures.same)
    c.slot-slot.ensures.slot c.in_err-name.ensures.lookup.3)

pub returns-clause-name : goal.returns-clause-name
returns-clause-name c =
    let there = c.in_ok-name.ensures.lookup in
    sym (first_name-at c.self.inside.pairs.now c.args.self.now c.args.kind c.slot-slot.result c.in_ok-name.field-0.now (c.self.view_is ∙ c.slot-slot.ensures.same)
    c.slot-slot.ensures.slot there.3.0 there.1)
