use Rattle.rule_text.specs.Rules.Rules.{no_rule}
use Rattle.rule_text.proofs.Definitions.{rule_lead}
use Rattle.rule_text.proofs.Goes.{definition_goes, measured}
use Rattle.rule_text.proofs.Decisions.{leads_end, read}
use Rattle.rule_text.proofs.Reading.{reads_none}
use Rattle.rule_text.proofs.rule.definitions.Goals as goal

pub loop-reader-smaller : goal.loop-reader-smaller
loop-reader-smaller c =
    let r = c.in_ok-definition.ensures.reads in
    measured r.words (definition_goes r.written) (c.is_done.ensures.more c.loop-reader-test.true)

pub loop-reader-preserved : goal.loop-reader-preserved
loop-reader-preserved c = rule_lead c.loop-reader.invariant (c.is_done.ensures.more c.loop-reader-test.true) c.in_ok-definition.ensures.reads

pub returns-clause-reads : goal.returns-clause-reads
returns-clause-reads c =
    read (leads_end c.loop-reader.invariant (reads_none c.loop-reader.reader (no_rule (c.is_done.ensures.done c.loop-reader-test.false))))
