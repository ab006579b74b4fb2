use Rattle.std.proofs.Common.{ap, refl}
use Rattle.rule_text.specs.declared.word.Sort.TheVariants as sorts
use Rattle.rule_text.specs.Rules.Called.{by_message, by_name}
use Rattle.rule_text.specs.Written.{is_end}
use Rattle.rule_text.proofs.Leaves.{gives_none, gives_over}
use Rattle.rule_text.proofs.Reading.{over_one}
use Rattle.rule_text.proofs.rule.message.Goals as goal

pub returns-then-not-is_at : goal.returns-then-not-is_at
returns-then-not-is_at c = gives_none c.args.reader.now (by_name (c.is_at.ensures.is_not c.if-not-is_at.true))

pub returns : goal.returns
returns c =
    let there = c.is_at.ensures.is c.if-not-is_at.false in
    gives_over (over_one (c.bump.ensures (ap is_end there))) (by_message (c.name-message.ensures sorts.Message there refl))
