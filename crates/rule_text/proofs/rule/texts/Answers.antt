use Rattle.std.proofs.Common.{ap, refl}
use Rattle.rule_text.specs.declared.word.Sort.TheVariants as sorts
use Rattle.rule_text.specs.Rules.Texts.{no_text}
use Rattle.rule_text.specs.Written.{is_end}
use Rattle.rule_text.proofs.Definitions.{text_lead}
use Rattle.rule_text.proofs.Leaves.{still_there}
use Rattle.rule_text.proofs.Decisions.{leads_end, read}
use Rattle.rule_text.proofs.Reading.{reads_none}
use Rattle.rule_text.proofs.rule.texts.Goals as goal

pub loop-reader-preserved : goal.loop-reader-preserved
loop-reader-preserved c =
    let there = c.is_at.ensures.is c.loop-reader-test.true in
    let adds = c.in_ok-push.ensures.adds in
    text_lead c.loop-reader.invariant (c.name-name.ensures sorts.Call there refl) adds (c.bump.ensures (still_there adds.words adds.at (ap is_end there)))

pub returns : goal.returns
returns c = read (leads_end c.loop-reader.invariant (reads_none c.loop-reader.reader (no_text (c.is_at.ensures.is_not c.loop-reader-test.false))))
