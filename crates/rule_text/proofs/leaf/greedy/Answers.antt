use Rattle.std.proofs.Common.{ap}
use Rattle.rule_text.specs.Written.{is_end}
use Rattle.rule_text.specs.Written.Greedy.{greedy, not_greedy}
use Rattle.rule_text.proofs.Leaves.{gives_none, gives_over}
use Rattle.rule_text.proofs.Reading.{over_one}
use Rattle.rule_text.proofs.leaf.greedy.Goals as goal

pub returns-then-not-is_at : goal.returns-then-not-is_at
returns-then-not-is_at c = gives_none c.args.reader.now (not_greedy (c.is_at.ensures.is_not c.if-not-is_at.true))

pub returns : goal.returns
returns c =
    let is = c.is_at.ensures.is c.if-not-is_at.false in
    gives_over (over_one (c.bump.ensures (ap is_end is))) (greedy is)
