use Rattle.std.proofs.Common.{◌∙◌, ap, sym}
use Rattle.std.proofs.lemmas.Option.{slice_get_past}
use Rattle.squawk_kinds.proofs.TokenSetLemmas.{has-no_kinds}
use Rattle.rule_tables.specs.Places.{separates}
use Rattle.rule_tables.proofs.eats.separators_at.Goals as goal

pub returns-in-None : goal.returns-in-None
returns-in-None c kind = has-no_kinds kind ∙ ap (λ row. separates row kind) (sym (slice_get_past c.args.map.now.rows.now _ c.in-None.ensures.lookup.3))
