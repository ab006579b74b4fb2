use Rattle.std.proofs.Common.{◌≡◌, ◌∙◌, ap, map, slice_set}
use Rattle.std.proofs.lemmas.List.{map-set}
use Rattle.rule_grammar.specs.Parts.{bit_of}
use Rattle.rule_tables.proofs.trail.Trail.told.Goals as goal

pub returns-clause-kinds : goal.returns-clause-kinds
returns-clause-kinds c =
    let is = c.kinds.view_is in
    let stands = c.kind_of.ensures in
    let e : bit_of c.kinds.inside.0 ≡ c.args.symbol = cc in
    map-set bit_of c.args.self.now.kinds c.args.self.now.depth c.kinds.inside.0 ∙ ap (slice_set (map bit_of c.args.self.now.kinds) c.args.self.now.depth) e
