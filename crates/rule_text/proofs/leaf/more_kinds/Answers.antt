use Rattle.std.proofs.Common.{ap}
use Rattle.rule_text.specs.Written.{is_end}
use Rattle.rule_text.specs.Written.MoreKinds.{last_kind}
use Rattle.rule_text.proofs.Leaves.{more_kinds_lead}
use Rattle.rule_text.proofs.Decisions.{leads_end, read}
use Rattle.rule_text.proofs.Reading.{reads_none}
use Rattle.rule_text.proofs.leaf.more_kinds.Goals as goal

pub loop-reader-preserved : goal.loop-reader-preserved
loop-reader-preserved c =
    let there = c.is_at.ensures.is c.loop-reader-test.true in
    more_kinds_lead c.loop-reader.invariant there (c.bump.ensures (ap is_end there)) c.in_ok-kind.ensures.reads

pub returns : goal.returns
returns c = read (leads_end c.loop-reader.invariant (reads_none c.loop-reader.reader (last_kind (c.is_at.ensures.is_not c.loop-reader-test.false))))
