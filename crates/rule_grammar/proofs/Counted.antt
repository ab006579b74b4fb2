-- That an error that is told is recorded.
use Rattle.std.specs.Prelude.{◌≡◌, ℕ, ◌+◌, ◌≤◌, false, Option, Some, None, IsSome, List, [], ◌∷◌, ◌++◌}
use Rattle.std.proofs.Common.{arith, ap, ◌∙◌, refl}
use Rattle.squawk_output.specs.Draft.{Close, Mark, Node, errors_of}
use Rattle.squawk_output.specs.Edits.{filled}
use Rattle.squawk_output.specs.Steps.{Step, errors_in}
use Rattle.squawk_output.specs.declared.log.Made.TheVariants.{ByPrecede}
use Rattle.squawk_output.proofs.EditedErrors.{errors-append, errors-filled, errors-preceded}
use Rattle.squawk_parser.specs.Recorded.{Completes, Precedes, Puts}
use Rattle.squawk_parser.specs.SomeSteps.{AddsSome, HasAdded, open_markers_for}
use Rattle.squawk_parser.specs.State.{State, IsSound}
use Rattle.squawk_parser.proofs.RecordedSteps.{Keeps-then, went}
use Rattle.squawk_parser.proofs.SomeSteps.{none_some}
use Rattle.squawk_parser.proofs.StepsInOrder.{RecordsSteps-puts}
use Rattle.rule_grammar.specs.Derivations.{Counts, weight}
use Rattle.rule_grammar.specs.Errors.{is_new_after}

pub counts_then : {a b c : State} {t u v : Option ℕ} → Counts t u a b → Counts u v b c → Counts t v a c
counts_then {a} {b} {c} {t} {u} {v} p q = record {
  keeps = Keeps-then p.keeps q.keeps;
  errors = λ goes.
      let first : errors_of a.draft.items + weight u ≤ errors_of b.draft.items + weight t = p.errors (went q.keeps goes) in
      let then : errors_of b.draft.items + weight v ≤ errors_of c.draft.items + weight u = q.errors goes in
      omega arith;
}

-- steps that are added only add errors
pub counts_added : {a b : State} {first opened : List Mark} {t : Option ℕ} → HasAdded first opened a b → Counts t t a b
counts_added {a} {b} {first} {opened} {t} p = record {
  keeps = p.keeps;
  errors = λ goes.
      let put = p.draft goes in
      let more = open_markers_for first ++ put.made in
      let e : errors_of b.draft.items ≡ errors_of a.draft.items + errors_of more = ap errors_of put.items ∙ errors-append a.draft.items more in
      omega (arith, e);
}

pub counts_some : {a b : State} {t : Option ℕ} → AddsSome a b → Counts t t a b
counts_some p = counts_added p.some

-- a node that ends has the errors that were there
pub counts_completed : {a b : State} {id kind : ℕ} {t : Option ℕ} → Completes id kind a b → Counts t t a b
counts_completed {a} {b} {id} {kind} {t} p = record {
  keeps = p.keeps;
  errors = λ goes.
      let e : errors_of b.draft.items ≡ errors_of (filled a.draft.items id kind) + errors_of (Close ∷ []) =
      ap (λ d. errors_of d.items) (p.records.draft goes) ∙ errors-append (filled a.draft.items id kind) (Close ∷ []) in
      omega (arith, e, errors-filled id kind a.draft.items);
}

pub counts_preceded : {a b : State} {node : Node} {m : Mark} {t : Option ℕ} → Precedes node m a b → Counts t t a b
counts_preceded {a} {b} {node} {m} {t} p = record {
  keeps = p.keeps;
  errors = λ goes.
      let e = ap (λ d. errors_of d.items) (p.records.draft goes) ∙ errors-preceded node.id a.draft.entries ByPrecede a.draft.items in
      omega (arith, e);
}

-- an error is recorded
pub counts_told : {a b : State} {xs : List Step} {t u : Option ℕ} → Puts xs a b → 1 ≤ errors_in xs → Counts t u a b
counts_told {a} {b} {xs} {t} {u} p one = record {
  keeps = p.keeps;
  errors = λ goes.
      let e : errors_of b.draft.items ≡ errors_of a.draft.items + errors_in xs = (RecordsSteps-puts p).errors goes in
      let w : weight u ≤ 1 = light u in
      omega arith;
}
  where
    light : (u : Option ℕ) → weight u ≤ 1
    light None = omega arith
    light (Some place) = omega arith

-- no error was told
pub untold : (t : Option ℕ) → weight t ≤ 0 → t ≡ None
untold None le = refl
untold (Some place) le = absurd (omega arith)

-- after an error was told, steps that are added only add errors
pub counts_known : {a b : State} {i j : ℕ} → AddsSome a b → Counts (Some i) (Some j) a b
counts_known {a} {b} {i} p = let more = counts_added {t = Some i} p.some in record { keeps = more.keeps; errors = more.errors }

-- where an error was told shortly before, none is told
pub counts_near : {a : State} {t : Option ℕ} {i : ℕ} → IsSound a → is_new_after t i ≡ false → Counts t (Some i) a a
counts_near {t = None} sound near = absurd (cc)
counts_near {a = a} {t = Some last} sound near = counts_known (none_some a sound)

-- the place of an error that was told is another one
pub counts_moved : {a b : State} {t u : Option ℕ} {i : ℕ} → Counts t u a b → IsSome u → Counts t (Some i) a b
counts_moved {u = None} p some = absurd (cc)
counts_moved {u = Some j} p some = record { keeps = p.keeps; errors = p.errors }
