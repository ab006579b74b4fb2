use Rattle.std.proofs.Common.{ap}
use Rattle.rule_parts.specs.declared.Part.TheVariants as parts
use Rattle.rule_text.specs.Written.{is_end}
use Rattle.rule_text.specs.Written.Guarding.{looks}
use Rattle.rule_text.proofs.Decisions.{behind, decides_by}
use Rattle.rule_text.proofs.Reading.{reads_around}
use Rattle.rule_text.proofs.look.look.Goals as goal

pub returns : goal.returns
returns c =
    let bumps = c.bump.ensures (ap is_end c.requires) in
    decides_by c.wrap.result c.wrap.ensures.wraps c.wrap.ensures.only
    (λ w. reads_around (λ n. parts.Look n) (behind bumps c.in_ok-tokens.ensures.reads) c.len-start.ensures c.size_from-size.ensures w
    (λ ps v. looks c.requires v))
