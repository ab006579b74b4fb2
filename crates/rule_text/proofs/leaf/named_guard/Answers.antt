use Rattle.std.proofs.Common.{ap, refl}
use Rattle.rule_text.specs.Written.{is_end}
use Rattle.rule_text.proofs.Leaves.{guard_read}
use Rattle.rule_text.proofs.Decisions.{decides_by}
use Rattle.rule_text.proofs.leaf.named_guard.Goals as goal

pub returns : goal.returns
returns c =
    decides_by c.push.result c.push.ensures.adds c.push.ensures.only
    (λ adds. guard_read c.requires (c.bump.ensures (ap is_end c.requires)) (c.in_ok-name.ensures.takes refl) adds)
