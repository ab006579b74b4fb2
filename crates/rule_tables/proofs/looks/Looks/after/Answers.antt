use Rattle.std.proofs.Common.{rules, ◌≡◌, Some, slice_get, arith, refl, subst, sym}
use Rattle.std.proofs.lemmas.Option.{slice_get_read}
use Rattle.rule_tables.specs.Walks.{plan_of}
use Rattle.rule_tables.proofs.Longer.{extends_then}
use Rattle.rule_tables.proofs.Listing.{IsGoing, going_done, going_more, going_none}
use Rattle.rule_tables.proofs.looks.Looks.after.Goals as goal

pub loop-strand-init : goal.loop-strand-init
loop-strand-init c = record { keeps = search rules; going = subst (IsGoing (plan_of c.args.map.now) c.args.strands.now c.args.kind 0) (sym c.new-after.ensures.items) (going_none (plan_of c.args.map.now) c.args.strands.now c.requires c.args.kind) }

pub push_after-requires : goal.push_after-requires
push_after-requires c =
    let here : slice_get c.args.strands.now c.loop-strand.strand-index ≡ Some c.strand-item.result = slice_get_read c.args.strands.now _ c.loop-strand.strand-index _ refl c.loop-strand-test.true c.strand-item.is in
    c.requires.each c.loop-strand.strand-index c.strand-item.result here

pub loop-strand-preserved : goal.loop-strand-preserved
loop-strand-preserved c =
    let here : slice_get c.args.strands.now c.loop-strand.strand-index ≡ Some c.strand-item.result = slice_get_read c.args.strands.now _ c.loop-strand.strand-index _ refl c.loop-strand-test.true c.strand-item.is in
    record {
      keeps = extends_then c.loop-strand.invariant.keeps c.in_ok-push_after.ensures.keeps;
      going = going_more (plan_of c.args.map.now) c.args.strands.now c.requires c.args.kind c.loop-strand.strand-index c.loop-strand.after.items c.push_after.new.after.items c.strand-item.result here c.loop-strand.invariant.going c.in_ok-push_after.ensures.ok;
    }

pub returns-clause-ok : goal.returns-clause-ok
returns-clause-ok c = going_done (plan_of c.args.map.now) c.args.strands.now c.requires c.args.kind c.loop-strand.strand-index c.loop-strand.after.items (omega (arith, c.loop-strand-test.false)) c.loop-strand.invariant.going
