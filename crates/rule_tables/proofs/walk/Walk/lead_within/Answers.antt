use Rattle.std.proofs.Common.{◌≡◌, ◌<◌, ◌≤◌, length, suc, arith, refl}
use Rattle.rule_tables.specs.Maps.{leads_to}
use Rattle.rule_tables.specs.Places.{last_below}
use Rattle.rule_tables.proofs.Below.{rank, rank-below}
use Rattle.rule_tables.proofs.Leading.{goal_within, leading_first, leading_next, leading_none, leading_row}
use Rattle.rule_tables.proofs.walk.Walk.lead_within.Goals as goal

pub push_way-requires : goal.push_way-requires
push_way-requires c = goal_within c.args.map.now.rows.now c.args.row c.in-Some.led (leading_row c.args.map.now.rows.now c.args.way c.args.row (omega arith) c.args.self.now c.loop-at.self c.loop-at.self c.loop-at.at c.loop-at.invariant c.in-Some.led c.in-Some.is).1

pub returns : goal.returns
returns c = leading_none c.args.map.now.rows.now c.args.way c.args.row (omega arith) c.args.self.now c.loop-at.self c.loop-at.self c.loop-at.at c.loop-at.invariant c.in_default.is

pub loop-at-init : goal.loop-at-init
loop-at-init c = leading_first c.args.map.now.rows.now c.args.way c.args.row c.args.self.now c.last_to-at.result (c.last_to-at.ensures (omega arith))

pub loop-at-preserved : goal.loop-at-preserved
loop-at-preserved c =
    let lt : c.args.row < length c.args.map.now.rows.now = omega arith in
    let here = leading_row c.args.map.now.rows.now c.args.way c.args.row lt c.args.self.now c.loop-at.self c.loop-at.self c.loop-at.at c.loop-at.invariant c.in-Some.led c.in-Some.is in
    leading_next c.args.map.now.rows.now c.args.way c.args.row lt c.args.self.now c.loop-at.self c.push_way.new.self c.loop-at.at c.loop-at.invariant c.in-Some.led c.in-Some.is c.earlier-at.result
    (c.earlier-at.ensures c.args.row (goal_within c.args.map.now.rows.now c.args.row c.in-Some.led here.1) lt here.1) c.in_ok-push_way.ensures

pub loop-at-smaller : goal.loop-at-smaller
loop-at-smaller c =
    let lt : c.args.row < length c.args.map.now.rows.now = omega arith in
    let here = leading_row c.args.map.now.rows.now c.args.way c.args.row lt c.args.self.now c.loop-at.self c.loop-at.self c.loop-at.at c.loop-at.invariant c.in-Some.led c.in-Some.is in
    let is : c.earlier-at.result ≡ last_below (leads_to c.args.map.now.rows.now c.args.row) c.in-Some.led = c.earlier-at.ensures c.args.row (goal_within c.args.map.now.rows.now c.args.row c.in-Some.led here.1) lt here.1 in
    let below : rank c.earlier-at.result ≤ c.in-Some.led = rw is (rank-below (leads_to c.args.map.now.rows.now c.args.row) c.in-Some.led) in
    let more : rank c.loop-at.at ≡ suc c.in-Some.led = rw c.in-Some.is refl in
    omega arith
