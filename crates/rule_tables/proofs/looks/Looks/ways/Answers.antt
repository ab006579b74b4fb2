use Rattle.std.proofs.Common.{rules, subst, sym}
use Rattle.rule_tables.specs.Walks.{plan_of}
use Rattle.rule_tables.proofs.Leading.{goal_within}
use Rattle.rule_tables.proofs.Longer.{extends_then}
use Rattle.rule_tables.proofs.Beside.{IsListingWays, ways_done, ways_next, ways_none, ways_row, ways_smaller}
use Rattle.rule_tables.proofs.looks.Looks.ways.Goals as goal

pub loop-at-init : goal.loop-at-init
loop-at-init c = record { keeps = search rules; ways = subst (IsListingWays (plan_of c.args.map.now) c.args.way c.args.row c.last_to-at.result) (sym c.new-strands.ensures.items) (ways_none (plan_of c.args.map.now) c.args.way c.args.row c.last_to-at.result (c.last_to-at.ensures c.requires)) }

pub push_way-requires : goal.push_way-requires
push_way-requires c = goal_within c.args.map.now.rows.now c.args.row c.in-Some.led (ways_row (plan_of c.args.map.now) c.args.way c.args.row c.loop-at.at c.loop-at.strands.items c.loop-at.invariant.ways c.in-Some.led c.in-Some.is).1

pub loop-at-preserved : goal.loop-at-preserved
loop-at-preserved c =
    let here = ways_row (plan_of c.args.map.now) c.args.way c.args.row c.loop-at.at c.loop-at.strands.items c.loop-at.invariant.ways c.in-Some.led c.in-Some.is in
    record {
      keeps = extends_then c.loop-at.invariant.keeps c.in_ok-push_way.ensures.keeps;
      ways = ways_next (plan_of c.args.map.now) c.args.way c.args.row c.loop-at.at c.loop-at.strands.items c.loop-at.invariant.ways c.in-Some.led c.in-Some.is c.earlier-at.result
          (c.earlier-at.ensures c.args.row (goal_within c.args.map.now.rows.now c.args.row c.in-Some.led here.1) c.requires here.1) c.push_way.new.strands.items c.in_ok-push_way.ensures.ok;
    }

pub loop-at-smaller : goal.loop-at-smaller
loop-at-smaller c =
    let here = ways_row (plan_of c.args.map.now) c.args.way c.args.row c.loop-at.at c.loop-at.strands.items c.loop-at.invariant.ways c.in-Some.led c.in-Some.is in
    ways_smaller (plan_of c.args.map.now) c.args.way c.args.row c.loop-at.at c.loop-at.strands.items c.loop-at.invariant.ways c.in-Some.led c.in-Some.is c.earlier-at.result
    (c.earlier-at.ensures c.args.row (goal_within c.args.map.now.rows.now c.args.row c.in-Some.led here.1) c.requires here.1)

pub returns-clause-ok : goal.returns-clause-ok
returns-clause-ok c = ways_done (plan_of c.args.map.now) c.args.way c.args.row c.loop-at.at c.loop-at.strands.items c.loop-at.invariant.ways c.in_default.is
