use Rattle.std.proofs.Common.{◌∙◌}
use Rattle.rule_text.specs.Written.Guarding.{unguarded}
use Rattle.rule_text.proofs.Decisions.{read}
use Rattle.rule_text.proofs.Reading.{reads_none}
use Rattle.rule_text.proofs.leaf.guard.Goals as goal

pub returns-in_default : goal.returns-in_default
returns-in_default c =
    read (reads_none c.args.reader.now (unguarded (λ e. c.in_default.not-At (c.sort.ensures ∙ e)) (λ e. c.in_default.not-And (c.sort.ensures ∙ e))))
