use Rattle.std.proofs.Common.{◌∙◌, ◌≡◌, ◌<◌, get_or, set, false, length, arith, ap}
use Rattle.squawk_table.specs.JointBits.{bits_of}
use Rattle.squawk_table.proofs.JointLemmas.{length-bits_of, written_packed, written_bits}
use Rattle.squawk_table.proofs.input.joints.Joints.set.Goals as goal

pub index_mut-requires : goal.index_mut-requires
index_mut-requires c =
    let len = length-bits_of c.self.inside.words.items c.self.inside.len in
    omega (arith, len, c.requires.within, c.self.invariant.count, ap length c.self.view_is)

pub invariant_of-self : goal.invariant_of-self
invariant_of-self c =
    let words = c.self.inside.words.items in
    let n = c.self.inside.len in
    let lt : c.args.k < n = omega (arith, length-bits_of words n, ap length c.self.view_is, c.requires.within) in
    let free : get_or (bits_of words n) c.args.k false ≡ false = ap (λ bits. get_or bits c.args.k false) c.self.view_is ∙ c.requires.unset in
    written_packed words n c.args.k c.self.invariant lt free c.args.bit c.index_mut.result.now c.from.result c.index_mut.ensures.value c.from.ensures

pub returns : goal.returns
returns c =
    let words = c.self.inside.words.items in
    let n = c.self.inside.len in
    let lt : c.args.k < n = omega (arith, length-bits_of words n, ap length c.self.view_is, c.requires.within) in
    let free : get_or (bits_of words n) c.args.k false ≡ false = ap (λ bits. get_or bits c.args.k false) c.self.view_is ∙ c.requires.unset in
    written_bits words n c.args.k c.self.invariant lt free c.args.bit c.index_mut.result.now c.from.result c.index_mut.ensures.value c.from.ensures
    ∙ ap (λ bits. set bits c.args.k c.args.bit) c.self.view_is
