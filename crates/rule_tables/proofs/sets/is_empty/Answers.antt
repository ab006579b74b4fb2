use Rattle.std.proofs.Common.{◌≡◌, ◌∙◌, sym}
use Rattle.std.specs.Cmp.Lexicographic.{bytes_decides}
use Rattle.squawk_kinds.specs.TokenSets.{no_kinds}
use Rattle.squawk_kinds.proofs.TokenSetLemmas.{has-no_kinds}
use Rattle.rule_tables.proofs.sets.is_empty.Goals as goal

pub returns : goal.returns
returns c e kind = let same : c.args.set ≡ no_kinds = (bytes_decides c.args.set no_kinds).0 (sym c.eq.ensures ∙ e) in rw same (has-no_kinds kind)
