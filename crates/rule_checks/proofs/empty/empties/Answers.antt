use Rattle.std.proofs.Common.{◌≡◌, false, length}
use Rattle.std.proofs.Math.ListN.{length-replicate}
use Rattle.std.proofs.lemmas.List.{take_at}
use Rattle.rule_checks.specs.Sets.{has}
use Rattle.rule_checks.proofs.Empties.{empty_in, unmarked-empty}
use Rattle.rule_checks.proofs.empty.empties.Goals as goal

pub loop-init : goal.loop-init
loop-init c = rw (c.in_ok-empties.ensures.items_if_clones_equal (λ mark same. same)) (record {
  len = length-replicate (length c.args.rows.now) false;
  sound = unmarked-empty c.args.rows.now;
})

pub loop-preserved : goal.loop-preserved
loop-preserved c =
    let whole : length c.add_empties.new.empties ≡ c.loop.empties.len = cc c.loop.empties.ok.0 in
    rw take_at (record {
      len = c.add_empties.ensures.len;
      sound = c.add_empties.ensures.sound (λ k marked. c.loop.invariant.sound k (rw (← c.deref_mut.ensures.value) marked));
    })

pub returns : goal.returns
returns c k =
    let whole : length c.add_empties.new.empties ≡ c.loop.empties.len = cc c.loop.empties.ok.0 in
    rw take_at (
      c.add_empties.ensures.sound (λ i marked. c.loop.invariant.sound i (rw (← c.deref_mut.ensures.value) marked)) k,
      empty_in c.args.rows.now (has c.add_empties.new.empties) (c.add_empties.ensures.all (cc)),
    )
