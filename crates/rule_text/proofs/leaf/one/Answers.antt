use Rattle.rule_text.specs.Reading.One.{one}
use Rattle.rule_text.proofs.Leaves.{still_there}
use Rattle.rule_text.proofs.Decisions.{read}
use Rattle.rule_text.proofs.Reading.{reads_one}
use Rattle.rule_text.proofs.leaf.one.Goals as goal

pub returns : goal.returns
returns c = λ is. read (reads_one c.in_ok-push.ensures.adds (c.bump.ensures (still_there c.in_ok-push.ensures.adds.words c.in_ok-push.ensures.adds.at is)) one)
