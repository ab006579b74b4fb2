use Rattle.squawk_output.proofs.EnteredBack.{Enters-next, next_enters}
use Rattle.squawk_output.proofs.pass.enter_all.Goals as goal

pub enter-requires : goal.enter-requires
enter-requires c =
    rw c.turn.ensures (record { room = next_enters _ _ c.pop.new.self.items _ _ c.in-Some.kind c.in-Some.ensures.items c.loop-kind.invariant c.requires.room })

pub loop-kind-preserved : goal.loop-kind-preserved
loop-kind-preserved c =
    Enters-next _ _ c.pop.new.self.items _ _ c.enter.new.builder c.in-Some.kind c.in-Some.ensures.items (rw c.turn.ensures at c.enter.ensures) c.loop-kind.invariant
