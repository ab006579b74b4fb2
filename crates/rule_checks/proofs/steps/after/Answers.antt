use Rattle.std.proofs.Common.{◌≡◌, length}
use Rattle.std.proofs.lemmas.List.{take_at}
use Rattle.rule_checks.specs.Sets.{has}
use Rattle.rule_checks.specs.Steps.{Lists}
use Rattle.rule_checks.proofs.Afters.{after_in}
use Rattle.rule_checks.proofs.steps.after.Goals as goal

pub loop-preserved : goal.loop-preserved
loop-preserved c =
    let whole : length c.add_after.new.marks ≡ c.loop.marks.len = cc c.loop.marks.ok.0 in
    rw take_at (record {
      len = c.add_after.ensures.len;
      sound = c.add_after.ensures.sound (λ k within marked. c.loop.invariant.sound k within (rw (← c.deref_mut.ensures.value) marked));
    })

pub returns : goal.returns
returns c k within =
    let whole : length c.add_after.new.marks ≡ c.loop.marks.len = cc c.loop.marks.ok.0 in
    rw take_at (
      c.add_after.ensures.sound (λ i below marked. c.loop.invariant.sound i below (rw (← c.deref_mut.ensures.value) marked)) k within,
      after_in (Lists c.args.lists.now) c.args.from (has c.add_after.new.marks) (c.add_after.ensures.all (cc)),
    )
