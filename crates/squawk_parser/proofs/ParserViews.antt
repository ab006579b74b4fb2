-- The fields of a parser, as contracts see them.
use Rattle.std.proofs.Common.{◌≡◌, ◌∙◌, ◌<◌, ℕ, Option, Some, None, false, ap, refl, sym, subst}
use Rattle.std.specs.Prelude.{IsSome, is_some}
use Rattle.squawk_table.specs.Shape.{AreOneToken}
use Rattle.squawk_parser.specs.declared.parser.Parser.TheInside.{Inside}
use Rattle.squawk_output.specs.Draft.{Draft, errors_of}
use Rattle.squawk_parser.specs.State.{State, HasNotFailed, IsSound, Keeps, Changes, ahead}
use Rattle.squawk_parser.proofs.Soundness.{not_failed}

abbrev pub seen : Inside → State
seen p = record { input = p.tokens.input.now; words = record { operator_first = p.operator_first; names = p.names }; position = p.position; limit = p.limit; draft = p.log; max_events = p.log_limits.events; max_errors = p.log_limits.errors; first_reason = p.first_reason }

-- a parser that goes on and has room, seen as it was before
pub record HasRoom (s : State) : Type 0 where
  pub goes : HasNotFailed s
  pub room : s.draft.recorded < s.max_events

pub has_room : (s t : State) → s ≡ t → HasNotFailed t × (t.draft.recorded < t.max_events) → HasRoom s
has_room s t e h = rw e (record { goes = h.0; room = h.1 })

-- and room for an error
pub errors_room : (s t : State) → s ≡ t → errors_of t.draft.items < t.max_errors → errors_of s.draft.items < s.max_errors
errors_room s t e h = rw e h

-- what is one token for a parser is one for another that sees the same
pub sees_same : (s t u : State) (n : ℕ) → s ≡ t → Keeps u t → t.position ≡ u.position → AreOneToken n (ahead u 0) → AreOneToken n (ahead s 0)
sees_same s t u n e keeps same_position one = subst (AreOneToken n) (sym same) one
  where
    same : ahead s 0 ≡ ahead u 0
    same = let input = keeps.input in let limit = keeps.limit in cc

-- what a test of the reason to fail says
pub goes_on : (s : State) → is_some s.first_reason ≡ false → HasNotFailed s
goes_on s e = cases s.first_reason e
  where
    cases : {X : Type 0} (f : Option X) → is_some f ≡ false → f ≡ None
    cases None e = refl
    cases (Some reason) e = absurd (let h = e in cc)

-- an edit that isn't recorded, of a parser that goes on
pub Changes-edited : (old s new : State) (edited : Draft) → s ≡ old → HasNotFailed s → new ≡ record s { draft = edited } → IsSound new → Changes old new edited
Changes-edited old s new edited same goes is sound = let edit : State → State = λ t. record t { draft = edited } in record {
  goes = λ go. is ∙ ap edit same;
  stays = λ failed. absurd (not_failed s goes (subst (λ t. IsSome t.first_reason) (sym same) failed));
  sound = sound;
}

-- a parser that has failed stays as it is
pub Changes-failed : (old s new : State) (edited : Draft) → s ≡ old → IsSome s.first_reason → new ≡ old → IsSound new → Changes old new edited
Changes-failed old s new edited same failed is sound = record {
  goes = λ goes. absurd (not_failed old goes (subst (λ t. IsSome t.first_reason) same failed));
  stays = λ fails. is;
  sound = sound;
}
