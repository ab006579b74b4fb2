use Rattle.std.proofs.Common.{◌∙◌, ◌∷◌, [], ◌++◌, append_assoc, ap, arith, length, length-append, sym}
use Rattle.caliperdock_c.specs.Steps.{numbered_steps}
use Rattle.caliperdock_c.proofs.Overlays.{put_there}
use Rattle.caliperdock_c.proofs.steps.write_front.Goals as goal

pub loop-count-preserved : goal.loop-count-preserved
loop-count-preserved c =
    let inv = c.loop-count.invariant in
    let rest = c.next.new.self.steps in
    let gives = c.in-Some.ensures.steps.0 in
    let number = c.advance.result in
    let place = c.loop-count.place in
    let behind = c.advance.new.self in
    let next = c.advance.ensures.number rest in
    record {
      eaten_all = c.in-Some.ensures.steps.1.0 ∙ inv.eaten_all;
      few = omega (arith, inv.few, ap length gives);
      numbers = c.advance.ensures.behind rest (rw gives at inv.numbers);
      front = inv.front ++ number ∷ [];
      all =
          append_assoc inv.front (number ∷ []) (numbered_steps behind.at behind.errors rest)
          ∙ (ap (λ xs. inv.front ++ xs) (sym next ∙ sym (ap (numbered_steps place.at place.errors) gives)) ∙ inv.all);
      count = omega (arith, inv.count, length-append inv.front (number ∷ []));
      room = put_there c.args.room.now inv.front c.loop-count.room number c.loop-count.count inv.count inv.room c.loop-count-test.true;
    }
