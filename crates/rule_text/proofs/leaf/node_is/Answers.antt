use Rattle.std.proofs.Common.{ap}
use Rattle.rule_parts.specs.declared.Part.TheVariants as parts
use Rattle.rule_text.specs.Written.{is_end, Written as forms}
use Rattle.rule_text.proofs.Decisions.{behind, decides_by}
use Rattle.rule_text.proofs.Reading.{reads_around}
use Rattle.rule_text.proofs.leaf.node_is.Goals as goal

pub returns : goal.returns
returns c = λ floor.
    let bumps = c.bump.ensures (ap is_end c.requires) in
    decides_by c.wrap.result c.wrap.ensures.wraps c.wrap.ensures.only
    (λ w. reads_around (λ n. parts.Is n) (behind bumps c.in_ok-kinds.ensures.reads) c.len-start.ensures c.size_from-size.ensures w (λ ps v. forms.is v))
