use Rattle.std.proofs.Common.{◌∙◌, ap}
use Rattle.squawk_table.specs.JointBits.{bits_of}
use Rattle.squawk_table.proofs.JointLemmas.{zeros_bits}
use Rattle.squawk_table.proofs.input.joints.Joints.with_len.Goals as goal

pub returns : goal.returns
returns c = ap (λ words. bits_of words c.args.len) (c.in_ok-vec.ensures.items_if_clones_equal (λ y h. h)) ∙ zeros_bits c.div_ceil.result c.args.len
