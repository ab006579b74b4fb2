use Rattle.std.specs.Cmp.{booleans_Decides}
use Rattle.std.proofs.lemmas.Slice.Eq.{slice_eq-Decides}
use Rattle.rule_source.proofs.same.are_same_tokens.Goals as goal

pub returns : goal.returns
returns c = slice_eq-Decides booleans_Decides c.args.one.now c.args.other.now c.eq.result c.eq.ensures
