use Rattle.std.proofs.Common.{refl}
use Rattle.squawk_output.proofs.PlainVisits.{next_has_room, visits_next}
use Rattle.squawk_output.proofs.pass.visit_plain.Goals as goal

pub gives_plain-requires-clause-room : goal.gives_plain-requires-clause-room
gives_plain-requires-clause-room c = next_has_room _ _ _ _ _ c.loop-at.invariant c.requires.room _ _ c.loop-at-test.true c.index-events-at.is

pub loop-at-preserved : goal.loop-at-preserved
loop-at-preserved c =
    visits_next _ _ _ c.gives_plain.new.builder _ _ c.loop-at.invariant _ _ c.loop-at-test.true c.index-events-at.is (c.if-gives_plain.ensures.gives refl)
