use Rattle.std.proofs.Common.{◌≡◌, ◌∙◌, ap, subst, sym}
use Rattle.rule_tables.specs.Made.{Made}
use Rattle.rule_tables.specs.Places.{Plan, Sees}
use Rattle.rule_tables.specs.Walks.{AreFirst, AreNext, plan_of}
use Rattle.rule_tables.proofs.Deciding.{next_kinds}
use Rattle.rule_tables.proofs.Opened.{plan_is}
use Rattle.rule_tables.proofs.rules.Rules.next_kinds.Goals as goal

pub returns-in-Ok : goal.returns-in-Ok
returns-in-Ok c =
    let same : plan_of c.in_ok-map.map ≡ c.args.self.now.plan =
    plan_is c.in_ok-map.map (c.in_ok-map.ensures.rows ∙ c.deref.ensures.value) (c.in_ok-map.ensures.sets ∙ c.deref-2.ensures.value) c.in_ok-map.ensures.start ∙ ap (λ (m : Made). m.plan) c.self.view_is in
    subst (λ (plan : Plan). AreNext plan c.args.place c.kinds_at.result) same
    (next_kinds (plan_of c.in_ok-map.map) c.args.place c.deref-in-Ok.result.now c.kinds_at.result
    (subst (AreFirst (plan_of c.in_ok-map.map) (Sees (plan_of c.in_ok-map.map) c.args.place)) (sym c.deref-in-Ok.ensures.value) c.in-Ok.ensures.ok) c.kinds_at.ensures)
