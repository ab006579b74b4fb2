use Rattle.std.proofs.Common.{◌≡◌, ◌∙◌, None, length, sym}
use Rattle.rule_tables.specs.Maps.{leads_to}
use Rattle.rule_tables.specs.Places.{last_below}
use Rattle.rule_tables.specs.Strands.IsIn.{arm, tail}
use Rattle.rule_tables.specs.Walks.{plan_of}
use Rattle.rule_tables.specs.declared.place.Way.TheVariants as way
use Rattle.rule_tables.proofs.Beside.{none_lead}
use Rattle.rule_tables.proofs.looks.Looks.decide_row.Goals as goal

pub decide_ways-requires-clause-way : goal.decide_ways-requires-clause-way
decide_ways-requires-clause-way c = arm

pub decide_ways-requires-2-clause-way : goal.decide_ways-requires-2-clause-way
decide_ways-requires-2-clause-way c = tail

pub returns-in_default-clause-arms : goal.returns-in_default-clause-arms
returns-in_default-clause-arms c =
    let none : last_below (leads_to c.args.map.now.rows.now c.args.row) (length c.args.map.now.rows.now) ≡ None = sym (c.last_to.ensures c.requires) ∙ c.in_default.is in
    none_lead (plan_of c.args.map.now) c.args.parts.now way.Arm c.args.row none None

pub returns-in_default-clause-tails : goal.returns-in_default-clause-tails
returns-in_default-clause-tails c =
    let none : last_below (leads_to c.args.map.now.rows.now c.args.row) (length c.args.map.now.rows.now) ≡ None = sym (c.last_to.ensures c.requires) ∙ c.in_default.is in
    none_lead (plan_of c.args.map.now) c.args.parts.now way.Tail c.args.row none None
