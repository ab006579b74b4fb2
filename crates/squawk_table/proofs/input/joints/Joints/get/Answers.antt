use Rattle.std.proofs.Common.{false, ◌∙◌, ◌<◌, ◌%◌, ◌/◌, ◌^◌, ◌==◌, length, get_or, bit_and, arith, ap, refl}
use Rattle.std.proofs.lemmas.List.{get_or_read_under}
use Rattle.squawk_table.proofs.JointLemmas.{length-bits_of, shifted_bit}
use Rattle.squawk_table.proofs.input.joints.Joints.get.Goals as goal

pub index-requires : goal.index-requires
index-requires c =
    let len = length-bits_of c.self.inside.words.items c.self.inside.len in
    omega (arith, len, c.requires, c.self.invariant.count, ap length c.self.view_is)

pub returns : goal.returns
returns c =
    let words = c.self.inside.words.items in
    let n = c.self.inside.len in
    let k = c.args.k in
    let bits = c.self.view_is in
    let lt : k < n = omega (arith, length-bits_of words n, ap length bits, c.requires) in
    let word = get_or_read_under words (k / 64) (length words) c.index.result.now 0 c.index.ensures (omega (arith, c.self.invariant.count)) refl in
    ap (λ word. bit_and (word / 2 ^ (k % 64)) 1 == 1) word ∙ (shifted_bit words n k lt ∙ ap (λ bits. get_or bits k false) bits)
