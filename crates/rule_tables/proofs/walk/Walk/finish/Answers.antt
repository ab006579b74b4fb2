use Rattle.std.proofs.Common.{◌≡◌, ◌∙◌, List, ap, subst, sym}
use Rattle.std.specs.List.{filter}
use Rattle.rule_tables.specs.Places.{SeesFrom, does_eat}
use Rattle.rule_tables.specs.Walks.{AreFirst, plan_of}
use Rattle.rule_tables.specs.declared.place.Place.{Place}
use Rattle.rule_tables.proofs.Closing.{first_of}
use Rattle.rule_tables.proofs.walk.Walk.finish.Goals as goal

pub returns-clause-ok : goal.returns-clause-ok
returns-clause-ok c =
    let are : c.in_ok-places.places.items ≡ filter (does_eat (plan_of c.args.map.now)) c.go_all.new.self.reached.items = c.in_ok-places.ensures ∙ ap (filter (does_eat (plan_of c.args.map.now))) c.deref.ensures.value in
    subst (λ (places : List Place). AreFirst (plan_of c.args.map.now) (SeesFrom (plan_of c.args.map.now) c.args.self.now.reached.items) places) (sym are)
    (first_of (plan_of c.args.map.now) c.args.self.now.reached.items c.go_all.new.self.reached.items c.in_ok-go_all.ensures)
