use Rattle.std.proofs.Common.{refl}
use Rattle.rule_text.proofs.Leaves.{kind_read}
use Rattle.rule_text.proofs.Decisions.{decides_by}
use Rattle.rule_text.proofs.leaf.kind.Goals as goal

pub returns : goal.returns
returns c = decides_by c.push.result c.push.ensures.adds c.push.ensures.only (λ adds. kind_read (c.in_ok-name.ensures.takes refl) adds)
