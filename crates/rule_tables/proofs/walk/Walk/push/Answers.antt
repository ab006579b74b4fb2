use Rattle.std.proofs.Common.{◌≡◌, ◌<◌, ◌∙◌, ℕ, List, get_or, set, length, arith, ap, refl, sym}
use Rattle.std.proofs.lemmas.Option.{get_or_from_slice_get, slice_get_read}
use Rattle.rule_tables.specs.Walks.{slot}
use Rattle.rule_tables.proofs.Marks.{goes_new, goes_old}
use Rattle.rule_tables.proofs.walk.Walk.push.Goals as goal
use Rattle.rule_tables.proofs.walk.Walk.push.Goals.{else-slot-len-via-then-slot-len+else-index-self, else-slot-len-via-else-slot-len}

-- the mark that is read is that of the place
read_is : (marks : List ℕ) (at slot mark : ℕ) → at ≡ slot → at < length marks → mark ≡ get_or marks at mark → get_or marks slot 0 ≡ mark
read_is marks at slot mark same lt is = rw (← same) (get_or_from_slice_get marks at mark 0 (slice_get_read marks _ at mark refl lt is))

pub returns-in_ok-push : goal.returns-in_ok-push
returns-in_ok-push c =
    let same : c.slot_of-slot.result ≡ slot c.args.place = omega (arith, c.if-slot-len.true, c.len.type_inv, c.slot_of-slot.ensures) in
    let within : c.slot_of-slot.result < length c.args.self.now.marks.items = omega (arith, c.if-slot-len.true, c.len.ensures) in
    goes_new c.args.self.now _ c.args.place refl (ap (λ (i : ℕ). set c.args.self.now.marks.items i c.args.self.now.number) same) c.in_ok-push.ensures (omega arith)
    (λ e. c.if-index-self.true (sym (read_is c.args.self.now.marks.items c.slot_of-slot.result (slot c.args.place) c.index.result.now same within c.index.ensures) ∙ e))

pub returns-else-slot-len : goal.returns-else-slot-len
returns-else-slot-len c =
    goes_old c.args.self.now c.args.place
    (λ less. elim c.else-slot-len.branch [
      | else-slot-len-via-then-slot-len+else-index-self w ↦
          let same : c.slot_of-slot.result ≡ slot c.args.place = omega (arith, w.if-slot-len.true, c.len.type_inv, c.slot_of-slot.ensures) in
          let within : c.slot_of-slot.result < length c.args.self.now.marks.items = omega (arith, w.if-slot-len.true, c.len.ensures) in
          read_is c.args.self.now.marks.items c.slot_of-slot.result (slot c.args.place) w.index.result.now same within w.index.ensures ∙ w.if-index-self.false
      | else-slot-len-via-else-slot-len w ↦ absurd (omega (arith, w.if-slot-len.false, c.len.ensures, c.slot_of-slot.ensures))
    ])
