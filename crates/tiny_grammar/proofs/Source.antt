-- A whole run.
use Rattle.std.proofs.Common.{◌≡◌, ◌∙◌, ◌++◌, arith, ap, subst}
use Rattle.squawk_output.specs.Draft.{Node, HasNoOpenMarker}
use Rattle.squawk_parser.specs.Composed.{Adds, AddsNode, RecordsSteps}
use Rattle.squawk_parser.specs.Recorded.{Puts}
use Rattle.squawk_parser.specs.State.{State, HasNotFailed, IsFresh, Keeps, ahead}
use Rattle.squawk_parser.specs.Whole.{IsWholeFile}
use Rattle.squawk_parser.proofs.AddedSteps.{Adds-node, Adds-puts, Adds-then, closed-fresh, plain-fresh}
use Rattle.squawk_parser.proofs.SeenSteps.{ahead-fresh, ahead-still}
use Rattle.squawk_parser.proofs.StepsInOrder.{RecordsSteps-puts, RecordsSteps-then}
use Rattle.tiny_grammar.specs.Expressions.{FailsTiny, IsTiny, expression_in_order, expression_steps, behind_expression, tail_steps, tiny_in_order, tiny_steps}

-- what stands in the root: an expression and the tail
module _ {a b c d : State} (fresh : IsFresh a) (keeps : Keeps a b) (here : b.position ≡ a.position) (rest : ahead c 0 ≡ behind_expression (ahead b 0))
    (tail : Puts (tail_steps (ahead c 0)) c d) where
  -- behind the root's marker the parser sees all of the input
  from_start : ahead b 0 ≡ a.input
  from_start = ahead-still keeps here ∙ ahead-fresh fresh

  left : Puts (tail_steps (behind_expression (ahead b 0))) c d
  left = subst (λ seen. Puts (tail_steps seen) c d) rest tail

  pub inside_adds : Adds (expression_steps (ahead b 0)) b c → Adds (expression_steps a.input ++ tail_steps (behind_expression a.input)) b d
  inside_adds adds = subst (λ input. Adds (expression_steps input ++ tail_steps (behind_expression input)) b d) from_start (Adds-then adds (Adds-puts left))

  pub inside_records : RecordsSteps (expression_in_order (ahead b 0)) b c → RecordsSteps (expression_in_order a.input ++ tail_steps (behind_expression a.input)) b d
  inside_records records =
      subst (λ input. RecordsSteps (expression_in_order input ++ tail_steps (behind_expression input)) b d) from_start (RecordsSteps-then records (RecordsSteps-puts left))

-- all of a run
module _ {a e : State} (fresh : IsFresh a) (records : RecordsSteps (tiny_in_order a.input) a e) where
  pub source_fails : FailsTiny a e
  source_fails = records.refused (ap (λ s. s.first_reason) fresh)

  module _ {n : Node} (adds : AddsNode (tiny_steps a.input) n a e) where
    pub source_closed : HasNotFailed e → HasNoOpenMarker e.draft.items
    source_closed = closed-fresh fresh (Adds-node adds)

    pub source_leaves : (HasNotFailed e → IsWholeFile a.input e.draft) → HasNotFailed e → IsTiny a.input e.draft
    source_leaves whole goes = record {
      whole = whole goes;
      items = plain-fresh fresh (Adds-node adds) goes;
      recorded = omega (arith, records.recorded goes, ap (λ s. s.draft.recorded) fresh);
    }
