use Rattle.std.proofs.Common.{List, arith, sym, subst}
use Rattle.rule_tables.specs.Strands.{AreListed, ComesOn}
use Rattle.rule_tables.specs.Walks.{plan_of}
use Rattle.rule_tables.specs.declared.strands.Strand.{Strand}
use Rattle.rule_tables.proofs.Walking.{if_ok}
use Rattle.rule_tables.proofs.Beside.{way_decided, way_told}
use Rattle.rule_tables.proofs.looks.Looks.decide_ways.Goals as goal

pub decide-requires : goal.decide-requires
decide-requires c =
    let listed : AreListed (plan_of c.args.map.now) (ComesOn (plan_of c.args.map.now) c.args.way c.args.row) c.deref.result.now =
    subst (λ (xs : List Strand). AreListed (plan_of c.args.map.now) (ComesOn (plan_of c.args.map.now) c.args.way c.args.row) xs) (sym c.deref.ensures.value) c.in_ok-strands.ensures.ok in record { depth = omega (arith, c.none.ensures); strands = listed.are }

pub returns-clause-ok : goal.returns-clause-ok
returns-clause-ok c =
    let listed : AreListed (plan_of c.args.map.now) (ComesOn (plan_of c.args.map.now) c.args.way c.args.row) c.deref.result.now =
    subst (λ (xs : List Strand). AreListed (plan_of c.args.map.now) (ComesOn (plan_of c.args.map.now) c.args.way c.args.row) xs) (sym c.deref.ensures.value) c.in_ok-strands.ensures.ok in
    if_ok (λ found decided. way_decided (plan_of c.args.map.now) c.args.parts.now c.args.way c.args.row c.deref.result.now listed c.none.result c.none.ensures found decided) c.decide.result c.decide.ensures.ok

pub returns-clause-told : goal.returns-clause-told
returns-clause-told c =
    let listed : AreListed (plan_of c.args.map.now) (ComesOn (plan_of c.args.map.now) c.args.way c.args.row) c.deref.result.now =
    subst (λ (xs : List Strand). AreListed (plan_of c.args.map.now) (ComesOn (plan_of c.args.map.now) c.args.way c.args.row) xs) (sym c.deref.ensures.value) c.in_ok-strands.ensures.ok in
    if_ok (λ found told. way_told (plan_of c.args.map.now) c.args.parts.now c.args.way c.requires.way c.args.row c.deref.result.now listed c.none.result c.none.ensures found told) c.decide.result c.decide.ensures.told
