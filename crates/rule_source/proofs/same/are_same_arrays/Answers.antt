use Rattle.std.specs.Cmp.Lexicographic.{bytes_decides}
use Rattle.std.proofs.lemmas.Slice.Eq.{slice_eq-Decides}
use Rattle.rule_source.proofs.same.are_same_arrays.Goals as goal

pub returns : goal.returns
returns g c = slice_eq-Decides bytes_decides c.args.one.now c.args.other.now c.eq.result c.eq.ensures
