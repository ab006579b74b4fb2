use Rattle.std.proofs.Common.{◌≡◌, ◌<◌, false, nat_le, arith}
use Rattle.std.proofs.lemmas.Bool.Decides.{nat_tests}
use Rattle.squawk_kinds.specs.Kinds.{WHITESPACE}
use Rattle.squawk_kinds.proofs.TokenSetLemmas.{has-no_kinds}
use Rattle.rule_tables.proofs.sets.set_of.Goals as goal

pub returns-else-kind : goal.returns-else-kind
returns-else-kind c one =
    let past : WHITESPACE < c.args.kind = omega (arith, c.if-kind.false, c.kind.view_is) in
    let large : nat_le c.args.kind WHITESPACE ≡ false = grind (arith, nat_tests) in
    rw large (has-no_kinds one)
