use Rattle.rule_text.specs.Rules.Members.{no_member}
use Rattle.rule_text.proofs.Definitions.{becomes_decided, member_is, member_lead}
use Rattle.rule_text.proofs.Leaves.{still_there}
use Rattle.rule_text.proofs.Decisions.{leads_decides, leads_end, read}
use Rattle.rule_text.proofs.Reading.{reads_none}
use Rattle.rule_text.proofs.rule.members.Goals as goal

pub loop-part-preserved : goal.loop-part-preserved
loop-part-preserved c =
    let there = c.in-Some.ensures.is in
    let adds = c.in_ok-push.ensures.adds in
    member_lead c.loop-part.invariant there adds (c.bump.ensures (still_there adds.words adds.at (member_is there)))

pub returns-then-is_at : goal.returns-then-is_at
returns-then-is_at c = leads_decides c.loop-part.invariant (becomes_decided (c.is_at.ensures.is c.if-is_at.true) c.becomes.ensures)

pub returns-else-is_at : goal.returns-else-is_at
returns-else-is_at c =
    read (leads_end c.loop-part.invariant (reads_none c.loop-part.reader (no_member c.in_default.ensures.no (c.is_at.ensures.is_not c.if-is_at.false))))
