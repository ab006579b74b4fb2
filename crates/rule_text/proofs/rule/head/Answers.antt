use Rattle.std.proofs.Common.{refl}
use Rattle.rule_text.proofs.Definitions.{head_read, no_name}
use Rattle.rule_text.proofs.Decisions.{errs}
use Rattle.rule_text.proofs.Reading.{over_one, sort_not_from}
use Rattle.rule_text.proofs.rule.head.Goals as goal

pub returns-clause-read : goal.returns-clause-read
returns-clause-read c =
    head_read (c.bump.ensures c.requires.at) (c.in_ok-name.ensures.takes c.requires.named) (c.in_ok-expect.ensures.takes refl)

pub returns-in_err-name-clause-missed : goal.returns-in_err-name-clause-missed
returns-in_err-name-clause-missed c =
    errs c.from_residual.result (no_name (sort_not_from (over_one (c.bump.ensures c.requires.at)) c.in_err-name.ensures.misses))
