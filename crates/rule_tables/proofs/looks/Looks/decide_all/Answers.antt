use Rattle.rule_tables.specs.Walks.{plan_of}
use Rattle.rule_tables.proofs.Beside.{ways_more}
use Rattle.rule_tables.proofs.Longer.{extends_then}
use Rattle.rule_tables.proofs.looks.Looks.decide_all.Goals as goal

pub loop-row-preserved : goal.loop-row-preserved
loop-row-preserved c = record {
  keeps = extends_then c.loop-row.invariant.keeps c.in_ok-found.ensures.keeps;
  ways = ways_more (plan_of c.args.map.now) c.args.parts.now c.loop-row.row c.loop-row.undecided c.in_ok-found.found c.first_open-undecided.result c.loop-row.invariant.ways c.first_open-undecided.ensures.up c.first_open-undecided.ensures.one
      c.in_ok-found.ensures.told c.in_ok-found.ensures.arms c.in_ok-found.ensures.tails;
}
