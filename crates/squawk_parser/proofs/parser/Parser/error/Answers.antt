use Rattle.std.proofs.Common.{arith, ◌≡◌, string_bytes, ap, refl, subst, ◌∷◌, []}
use Rattle.std.specs.Str.{chars}
use Rattle.std.proofs.lemmas.Result.{IfOk-weaker}
use Rattle.squawk_output.specs.Steps.{Error}
use Rattle.squawk_parser.specs.Recorded.{Puts}
use Rattle.squawk_parser.specs.State.{State}
use Rattle.squawk_parser.proofs.SomeSteps.{puts_some}
use Rattle.squawk_parser.proofs.parser.Parser.error.Goals as goal

pub returns-then-has_room_for_error-clause-puts : goal.returns-then-has_room_for_error-clause-puts
returns-then-has_room_for_error-clause-puts c =
    let msg = c.args.msg.now in
    let text = IfOk-weaker c.from_str-text.result (λ s. string_bytes s ≡ msg) (λ s. chars (string_bytes s) ≡ chars msg) (λ s is. ap chars is) c.from_str-text.ensures.ok in
    let same : c.has_room_for_error.new.self ≡ c.args.self.now = (c.if-has_room_for_error.ensures.room refl).0 in
    subst (λ (s : State). Puts (Error (chars msg) ∷ []) s c.put_error.new.self) same (c.put_error.ensures (chars msg) text)

pub returns-else-has_room_for_error-clause-puts : goal.returns-else-has_room_for_error-clause-puts
returns-else-has_room_for_error-clause-puts c = c.if-has_room_for_error.ensures.full refl (chars c.args.msg.now)

pub returns-then-has_room_for_error-clause-some : goal.returns-then-has_room_for_error-clause-some
returns-then-has_room_for_error-clause-some c = puts_some (returns-then-has_room_for_error-clause-puts c)

pub returns-else-has_room_for_error-clause-some : goal.returns-else-has_room_for_error-clause-some
returns-else-has_room_for_error-clause-some c = puts_some (returns-else-has_room_for_error-clause-puts c)

pub returns-then-has_room_for_error-clause-spends : goal.returns-then-has_room_for_error-clause-spends
returns-then-has_room_for_error-clause-spends c = let puts = returns-then-has_room_for_error-clause-puts c in omega (arith, puts.few, puts.position)

pub returns-else-has_room_for_error-clause-spends : goal.returns-else-has_room_for_error-clause-spends
returns-else-has_room_for_error-clause-spends c = let puts = returns-else-has_room_for_error-clause-puts c in omega (arith, puts.few, puts.position)
