use Rattle.std.proofs.Common.{◌∙◌, get_or, arith, ap, sym}
use Rattle.squawk_table.specs.ParserInput.{contextual_kind_in}
use Rattle.squawk_table.proofs.InputEntries.{contextual_kind_in-entries}
use Rattle.squawk_table.proofs.input.Input.contextual_kind.Goals as goal

pub returns-in-Some : goal.returns-in-Some
returns-in-Some c =
    let told = contextual_kind_in-entries c.self.inside.kinds.items c.self.inside.contextual_kinds.items c.self.inside.joints c.self.invariant.0 c.args.i in
    c.in-Some.ensures.lookup.4 (omega arith) 0
    ∙ (ap (λ xs. get_or xs c.args.i 0) c.deref.ensures.value ∙ (sym told ∙ ap (λ input. contextual_kind_in input c.args.i) c.self.view_is))

pub returns-in-None : goal.returns-in-None
returns-in-None c =
    let told = contextual_kind_in-entries c.self.inside.kinds.items c.self.inside.contextual_kinds.items c.self.inside.joints c.self.invariant.0 c.args.i in
    c.in-None.ensures.lookup.4 (omega arith) 0
    ∙ (ap (λ xs. get_or xs c.args.i 0) c.deref.ensures.value ∙ (sym told ∙ ap (λ input. contextual_kind_in input c.args.i) c.self.view_is))
