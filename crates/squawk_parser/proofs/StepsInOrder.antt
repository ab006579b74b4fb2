-- What grammars may rely on: steps that are recorded one after another, wherever they are put.
use Rattle.std.proofs.Common.{◌≡◌, ◌∙◌, ℕ, ◌+◌, false, List, [], ◌∷◌, ◌++◌, arith, ap, refl, length-append}
use Rattle.squawk_output.specs.Steps.{Step, Enter, Exit, is_error, errors_in}
use Rattle.squawk_output.specs.Draft.{Draft, Close, Mark, Node, errors_of}
use Rattle.squawk_output.specs.declared.log.Made.TheVariants.{ByPrecede}
use Rattle.squawk_output.specs.Edits.{filled}
use Rattle.squawk_output.proofs.EditedErrors.{errors-append, errors-filled, errors-preceded}
use Rattle.squawk_parser.specs.Composed.{RecordsSteps}
use Rattle.squawk_parser.specs.Eaten.{node}
use Rattle.squawk_parser.specs.Recorded.{Begins, Completes, Precedes, Puts}
use Rattle.squawk_parser.specs.State.{State, Keeps, Records}
use Rattle.squawk_parser.proofs.RecordedItems.{steps_errors-append}
use Rattle.squawk_parser.proofs.RecordedSteps.{Keeps-then, begun_counts, counted, refuses-one, refuses-then, went}

-- steps that are put at the end are recorded as they stand there
pub RecordsSteps-puts : {a b : State} {xs : List Step} → Puts xs a b → RecordsSteps xs a b
RecordsSteps-puts {a} {b} p = record {
  keeps = p.keeps;
  recorded = λ goes. (counted {a = a} {b = b} (p.draft goes)).recorded;
  errors = λ goes. (counted {a = a} {b = b} (p.draft goes)).errors;
  refused = p.refused;
}

-- steps, and others after them
pub RecordsSteps-then : {a b c : State} {xs ys : List Step} → RecordsSteps xs a b → RecordsSteps ys b c → RecordsSteps (xs ++ ys) a c
RecordsSteps-then {a} {b} {c} {xs} {ys} p q = record {
  keeps = Keeps-then p.keeps q.keeps;
  recorded = λ goes. omega (arith, p.recorded (went q.keeps goes), q.recorded goes, length-append xs ys);
  errors = λ goes. omega (arith, p.errors (went q.keeps goes), q.errors goes, steps_errors-append xs ys);
  refused = refuses-then p.keeps q.keeps (λ goes. record { recorded = p.recorded goes; errors = p.errors goes }) p.refused q.refused;
}

-- an event that is no error, which leaves the errors as they are
one_event : {a b : State} {edited : Draft} (step : Step) → is_error step ≡ false → edited.recorded ≡ a.draft.recorded + 1 → errors_of edited.items ≡ errors_of a.draft.items
    → errors_in (step ∷ []) ≡ 0 → Keeps a b → Records a b edited → RecordsSteps (step ∷ []) a b
one_event {a} {b} {edited} step plain_step one same none keeps r = record {
  keeps = keeps;
  recorded = λ goes. ap (λ d. d.recorded) (r.draft goes) ∙ one;
  errors = λ goes. ap (λ d. errors_of d.items) (r.draft goes) ∙ (same ∙ omega (arith, none));
  refused = refuses-one step plain_step r;
}

-- A node is begun with the event of its opening, whatever kind it will have.
RecordsSteps-start : {a b : State} {m : Mark} (kind : ℕ) → Begins m a b → RecordsSteps (Enter kind ∷ []) a b
RecordsSteps-start {a} {b} kind begins = record {
  keeps = begins.keeps;
  recorded = λ goes. (begun_counts {a = a} {b = b} kind (begins.records.draft goes)).recorded;
  errors = λ goes. (begun_counts {a = a} {b = b} kind (begins.records.draft goes)).errors;
  refused = refuses-one (Enter kind) refl begins.records;
}

-- So it is where it is begun in front of another.
RecordsSteps-precede : {a b : State} {node : Node} {m : Mark} (kind : ℕ) → Precedes node m a b → RecordsSteps (Enter kind ∷ []) a b
RecordsSteps-precede {a} {b} {node} kind precedes =
    one_event (Enter kind) refl refl (errors-preceded node.id a.draft.entries ByPrecede a.draft.items) refl precedes.keeps precedes.records

-- It ends with the event of its closing.
RecordsSteps-complete : {a b : State} {id kind : ℕ} → Completes id kind a b → RecordsSteps (Exit ∷ []) a b
RecordsSteps-complete {a} {b} {id} {kind} completes =
    let same : errors_of (filled a.draft.items id kind ++ Close ∷ []) ≡ errors_of a.draft.items =
    errors-append (filled a.draft.items id kind) (Close ∷ []) ∙ (omega (arith, errors-filled id kind a.draft.items)) in
    one_event Exit refl refl same refl completes.keeps completes.records

-- ---- nodes

-- a node is begun, steps are recorded, and it is completed
pub RecordsSteps-node : {a b c d : State} {m : Mark} {xs : List Step} {k : ℕ} (kind : ℕ) → Begins m a b → RecordsSteps xs b c → Completes m.id k c d
    → RecordsSteps (node kind xs) a d
RecordsSteps-node kind begins inside completes = RecordsSteps-then (RecordsSteps-start kind begins) (RecordsSteps-then inside (RecordsSteps-complete completes))

-- and so it is with one that is begun in front of another
pub RecordsSteps-before : {a b c d : State} {left : Node} {m : Mark} {xs : List Step} {k : ℕ} (kind : ℕ) → Precedes left m a b → RecordsSteps xs b c → Completes m.id k c d
    → RecordsSteps (Enter kind ∷ xs ++ Exit ∷ []) a d
RecordsSteps-before kind precedes inside completes = RecordsSteps-then (RecordsSteps-precede kind precedes) (RecordsSteps-then inside (RecordsSteps-complete completes))
