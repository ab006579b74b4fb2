use Rattle.std.proofs.Common.{◌∙◌, ◌≡◌, ◌≤◌, ℕ, get_or, take, false, length, arith, ap}
use Rattle.squawk_table.specs.JointBits.{bits_of}
use Rattle.squawk_table.proofs.JointLemmas.{length-bits_of, front_packed, front_bits}
use Rattle.squawk_table.proofs.input.joints.Joints.truncate.Goals as goal

pub invariant_of-self : goal.invariant_of-self
invariant_of-self c =
    let words = c.self.inside.words.items in
    let n = c.self.inside.len in
    let le : c.args.len ≤ n = omega (arith, length-bits_of words n, ap length c.self.view_is, c.requires.within) in
    let rest : (k : ℕ) → c.args.len ≤ k → get_or (bits_of words n) k false ≡ false = λ k from. ap (λ bits. get_or bits k false) c.self.view_is ∙ c.requires.unset k from in
    rw (c.truncate.ensures.items, c.div_ceil.ensures) (front_packed words n c.args.len c.self.invariant le rest)

pub returns : goal.returns
returns c =
    let words = c.self.inside.words.items in
    let n = c.self.inside.len in
    let le : c.args.len ≤ n = omega (arith, length-bits_of words n, ap length c.self.view_is, c.requires.within) in
    let rest : (k : ℕ) → c.args.len ≤ k → get_or (bits_of words n) k false ≡ false = λ k from. ap (λ bits. get_or bits k false) c.self.view_is ∙ c.requires.unset k from in
    rw (c.truncate.ensures.items, c.div_ceil.ensures) (front_bits words n c.args.len c.self.invariant le rest)
    ∙ ap (take c.args.len) c.self.view_is
