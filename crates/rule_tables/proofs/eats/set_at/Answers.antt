use Rattle.std.proofs.Common.{◌≡◌, ◌∙◌, None, slice_get, ap, sym, arith}
use Rattle.std.proofs.lemmas.Option.{slice_get_past}
use Rattle.squawk_kinds.proofs.TokenSetLemmas.{has-no_kinds}
use Rattle.rule_tables.specs.Classes.{some_has}
use Rattle.rule_tables.proofs.eats.set_at.Goals as goal

pub returns-in-None : goal.returns-in-None
returns-in-None c kind =
    let past : slice_get c.args.sets.now c.args.number ≡ None = slice_get_past c.args.sets.now c.args.number (omega (arith, c.in-None.ensures.lookup.3, c.from.ensures)) in
    has-no_kinds kind ∙ ap (λ set. some_has set kind) (sym past)
