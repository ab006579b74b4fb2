use Rattle.std.proofs.Common.{rules, ◌≡◌, ℕ, Some, length, slice_get, arith, refl, subst}
use Rattle.std.proofs.lemmas.Option.{slice_get_read}
use Rattle.rule_tables.specs.Strands.{IsFound}
use Rattle.rule_tables.specs.Walks.{plan_of}
use Rattle.rule_tables.proofs.Longer.{extends_then}
use Rattle.rule_tables.proofs.NoKinds.{has_none}
use Rattle.rule_tables.proofs.Shares.{found_more, found_none}
use Rattle.rule_tables.proofs.looks.Looks.tell_all.Goals as goal

pub loop-strand-init : goal.loop-strand-init
loop-strand-init c = record { keeps = search rules; found = found_none (plan_of c.args.map.now) c.args.strands.now c.requires.strands c.args.parts.now c.args.trail.now _ refl has_none }

pub loop-strand-preserved : goal.loop-strand-preserved
loop-strand-preserved c =
    let here : slice_get c.args.strands.now c.loop-strand.strand-index ≡ Some c.strand-item.result = slice_get_read c.args.strands.now _ c.loop-strand.strand-index _ refl c.loop-strand-test.true c.strand-item.is in
    record {
      keeps = extends_then c.loop-strand.invariant.keeps c.in_ok-found.ensures.keeps;
      found = found_more (plan_of c.args.map.now) c.args.strands.now c.requires.strands c.args.parts.now c.args.trail.now c.loop-strand.strand-index c.loop-strand.found c.in_ok-found.found c.strand-item.result here c.loop-strand.invariant.found c.in_ok-found.ensures.ok;
    }

pub returns-clause-ok : goal.returns-clause-ok
returns-clause-ok c =
    let all : c.loop-strand.strand-index ≡ length c.args.strands.now = omega (arith, c.loop-strand-test.false, c.loop-strand.auto.strand-index-end) in
    subst (λ (n : ℕ). IsFound (plan_of c.args.map.now) c.args.parts.now c.args.strands.now c.args.trail.now n c.loop-strand.found) all c.loop-strand.invariant.found
