-- Tokens that are one token where a parser sees them are one token of its input.
use Rattle.std.proofs.Common.{◌≡◌, ◌∙◌, ℕ, zero, suc, ◌+◌, ◌<◌, ◌≤◌, List, [], ◌∷◌, drop, take, arith, sym, refl}
use Rattle.std.proofs.lemmas.List.{length-drop, length-take}
use Rattle.squawk_table.specs.ParserInput.{Entry, is_joint_in}
use Rattle.squawk_table.specs.Shape.{AreOneToken}
use Rattle.squawk_parser.specs.LookAhead.{seen_from}

is_joint_in-take : (limit i : ℕ) (input : List Entry) → i < limit → is_joint_in (take limit input) i ≡ is_joint_in input i
is_joint_in-take zero i input lt = absurd (omega arith)
is_joint_in-take (suc limit) i [] lt = refl
is_joint_in-take (suc limit) zero (e ∷ input) lt = refl
is_joint_in-take (suc limit) (suc i) (e ∷ input) lt = is_joint_in-take limit i input (omega arith)

AreOneToken-take : (n limit : ℕ) (input : List Entry) → AreOneToken n (take limit input) → AreOneToken n input
AreOneToken-take n limit input one = record {
  some = one.some;
  there = omega (arith, one.there, length-take limit input);
  touch = λ i lt. sym (is_joint_in-take limit i input (omega (arith, one.there, length-take limit input))) ∙ one.touch i lt;
}

pub AreOneToken-seen : (n limit index : ℕ) (input : List Entry) → AreOneToken n (seen_from input limit index) → AreOneToken n (drop index input)
AreOneToken-seen n limit zero input one = AreOneToken-take n limit input one
AreOneToken-seen n zero (suc index) input one = absurd (omega (arith, one.some, one.there))
AreOneToken-seen n (suc limit) (suc index) [] one = absurd (omega (arith, one.some, one.there))
AreOneToken-seen n (suc limit) (suc index) (e ∷ input) one = AreOneToken-seen n limit index input one

-- they stand before the limit
pub AreOneToken-within : (n limit index : ℕ) (input : List Entry) → AreOneToken n (seen_from input limit index) → index + n ≤ limit
AreOneToken-within n limit index input one =
    omega (arith, one.some, one.there, length-drop index (take limit input), length-take limit input)
