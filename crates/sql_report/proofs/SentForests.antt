-- What is sent for a walk that stands in one root is the steps of trees.
use Rattle.std.proofs.Common.{◌≡◌, ◌∙◌, ℕ, zero, suc, ◌+◌, ◌<◌, Option, None, Some, List, [], ◌∷◌, ◌++◌, length, map, take, cond, ap, arith, append_assoc, refl, subst, sym}
use Rattle.std.proofs.lemmas.List.{append-nil}
use Rattle.std.proofs.lemmas.List.Sums.{sum_by-cons}
use Rattle.squawk_output.specs.OneRoot.{StandsInOneRoot}
use Rattle.squawk_output.specs.Steps.{Step, Token, Enter, Exit, Error, is_enter, is_exit, openings, closings, without_errors}
use Rattle.squawk_table.proofs.SentLaws.{others-errors_moved}
use Rattle.squawk_table.specs.RawTable.{RawToken, Table, raw_tokens}
use Rattle.squawk_table.specs.Sent.{Marked, Spot, PutBack, Walked, eaten_at, errors_moved, spots_behind, sent_behind, sent_list, sent_raw, sent_step, trivia_at, unmarked}
use Rattle.squawk_table.specs.Shape.{Fits}
use Rattle.squawk_table.specs.declared.shortcuts.str_step.OwnedStep.{OwnedStep}
use Rattle.squawk_table.specs.declared.shortcuts.str_step.OwnedStep.TheVariants as sent
use Rattle.squawk_tree.specs.Forest.{Forest, forest_steps}
use Rattle.squawk_tree.specs.Forest as tree

-- ---- walks

-- A walk stands in one root: `None` before it begins, and then `Some` of how many nodes are open. No more are closed than are open,
-- and in the end none is. Behind the root no other node begins.
abbrev WalkCloses : List Step → Option ℕ → Type 0
WalkCloses [] None = ⊥
WalkCloses [] (Some n) = n ≡ 0
WalkCloses (Token kind count ∷ steps) nodes = WalkCloses steps nodes
WalkCloses (Enter kind ∷ steps) None = WalkCloses steps (Some 1)
WalkCloses (Enter kind ∷ steps) (Some zero) = ⊥
WalkCloses (Enter kind ∷ steps) (Some (suc n)) = WalkCloses steps (Some (suc (suc n)))
WalkCloses (Exit ∷ steps) None = ⊥
WalkCloses (Exit ∷ steps) (Some zero) = ⊥
WalkCloses (Exit ∷ steps) (Some (suc n)) = WalkCloses steps (Some n)
WalkCloses (Error text ∷ steps) nodes = WalkCloses steps nodes

openings-cons : (step : Step) (steps : List Step) → openings (step ∷ steps) ≡ cond (is_enter step) 1 0 + openings steps
openings-cons step steps = sum_by-cons (λ s. cond (is_enter s) 1 0) step steps

closings-cons : (step : Step) (steps : List Step) → closings (step ∷ steps) ≡ cond (is_exit step) 1 0 + closings steps
closings-cons step steps = sum_by-cons (λ s. cond (is_exit s) 1 0) step steps

-- no beginning but the whole closes all that are open
abbrev StaysOpen : List Step → ℕ → Type 0
StaysOpen steps n = (k : ℕ) → k < length steps → closings (take k steps) < n + openings (take k steps)

counted : (steps : List Step) (n : ℕ) → StaysOpen steps n → closings steps ≡ n + openings steps → WalkCloses steps (Some n)
counted [] n below closed = omega (arith, closed)
counted (Token kind count ∷ steps) n below closed =
    let step = Token kind count in
    counted steps n (λ k lt. omega (arith, below (suc k) (omega (arith, lt)), openings-cons step (take k steps), closings-cons step (take k steps)))
    (omega (arith, closed, openings-cons step steps, closings-cons step steps))
counted (Enter kind ∷ steps) zero below closed = absurd (omega (arith, below 0 (omega arith)))
counted (Enter kind ∷ steps) (suc n) below closed =
    let step = Enter kind in
    counted steps (suc (suc n)) (λ k lt. omega (arith, below (suc k) (omega (arith, lt)), openings-cons step (take k steps), closings-cons step (take k steps)))
    (omega (arith, closed, openings-cons step steps, closings-cons step steps))
counted (Exit ∷ steps) zero below closed = absurd (omega (arith, below 0 (omega arith)))
counted (Exit ∷ steps) (suc n) below closed =
    counted steps n (λ k lt. omega (arith, below (suc k) (omega (arith, lt)), openings-cons Exit (take k steps), closings-cons Exit (take k steps)))
    (omega (arith, closed, openings-cons Exit steps, closings-cons Exit steps))
counted (Error text ∷ steps) n below closed =
    let step = Error text in
    counted steps n (λ k lt. omega (arith, below (suc k) (omega (arith, lt)), openings-cons step (take k steps), closings-cons step (take k steps)))
    (omega (arith, closed, openings-cons step steps, closings-cons step steps))

-- the root begins with the first step
rooted : (steps : List Step) → StandsInOneRoot steps → WalkCloses steps None
rooted [] root = absurd root.begins
rooted (Token kind count ∷ steps) root = absurd root.begins
rooted (Enter kind ∷ steps) root =
    let step = Enter kind in
    counted steps 1 (λ k lt. omega (arith, root.inside (suc k) (omega arith) (omega (arith, lt)), openings-cons step (take k steps), closings-cons step (take k steps)))
    (omega (arith, root.closed, openings-cons step steps, closings-cons step steps))
rooted (Exit ∷ steps) root = absurd root.begins
rooted (Error text ∷ steps) root = absurd root.begins

-- errors change nothing
with_errors : (steps : List Step) (nodes : Option ℕ) → WalkCloses (without_errors steps) nodes → WalkCloses steps nodes
with_errors [] nodes closes = closes
with_errors (Token kind count ∷ steps) nodes closes = with_errors steps nodes closes
with_errors (Enter kind ∷ steps) None closes = with_errors steps (Some 1) closes
with_errors (Enter kind ∷ steps) (Some zero) closes = closes
with_errors (Enter kind ∷ steps) (Some (suc n)) closes = with_errors steps (Some (suc (suc n))) closes
with_errors (Exit ∷ steps) None closes = closes
with_errors (Exit ∷ steps) (Some zero) closes = closes
with_errors (Exit ∷ steps) (Some (suc n)) closes = with_errors steps (Some n) closes
with_errors (Error text ∷ steps) nodes closes = with_errors steps nodes closes

-- ---- what is sent

-- the same of what is sent
abbrev Closes : List OwnedStep → Option ℕ → Type 0
Closes [] None = ⊥
Closes [] (Some n) = n ≡ 0
Closes (sent.Token kind text ∷ steps) nodes = Closes steps nodes
Closes (sent.Enter kind ∷ steps) None = Closes steps (Some 1)
Closes (sent.Enter kind ∷ steps) (Some zero) = ⊥
Closes (sent.Enter kind ∷ steps) (Some (suc n)) = Closes steps (Some (suc (suc n)))
Closes (sent.Exit ∷ steps) None = ⊥
Closes (sent.Exit ∷ steps) (Some zero) = ⊥
Closes (sent.Exit ∷ steps) (Some (suc n)) = Closes steps (Some n)
Closes (sent.Error text pos ∷ steps) nodes = Closes steps nodes

with_trivia : (trivia : List RawToken) (rest : List Marked) (nodes : Option ℕ) → Closes (map unmarked rest) nodes
    → Closes (map unmarked (map PutBack trivia ++ rest)) nodes
with_trivia [] rest nodes closes = closes
with_trivia (raw ∷ trivia) rest nodes closes = with_trivia trivia rest nodes closes

-- a spot, with what was sent before its step and behind it
module _ (raw : List RawToken) (earlier : List Spot) (before : List OwnedStep) (spot : Spot) where
  abbrev past : List OwnedStep
  past = before ++ map sent_raw (trivia_at raw earlier spot)

  abbrev step : OwnedStep
  step = sent_step raw (eaten_at spot) past spot.step

  abbrev sent_past : List OwnedStep
  sent_past = past ++ step ∷ []

  abbrev rest : List Spot → List Marked
  rest spots = sent_behind raw (earlier ++ spot ∷ []) sent_past spots

  past_trivia : (spots : List Spot) (nodes : Option ℕ) → Closes (step ∷ map unmarked (rest spots)) nodes
      → Closes (map unmarked (sent_behind raw earlier before (spot ∷ spots))) nodes
  past_trivia spots nodes closes = with_trivia (trivia_at raw earlier spot) (Walked step ∷ rest spots) nodes closes

abbrev spot_at : List Step → Step → List Step → Spot
spot_at walked step steps = record { before = walked; step = step; behind = steps }

sent_closes : (steps walked : List Step) (raw : List RawToken) (earlier : List Spot) (before : List OwnedStep) (nodes : Option ℕ) → WalkCloses steps nodes
    → Closes (map unmarked (sent_behind raw earlier before (spots_behind walked steps))) nodes
sent_closes [] walked raw earlier before None closes = absurd closes
sent_closes [] walked raw earlier before (Some n) closes = closes
sent_closes (Token kind count ∷ steps) walked raw earlier before nodes closes =
    let spot = spot_at walked (Token kind count) steps in
    let more = walked ++ Token kind count ∷ [] in
    past_trivia raw earlier before spot (spots_behind more steps) nodes
    (sent_closes steps more raw (earlier ++ spot ∷ []) (sent_past raw earlier before spot) nodes closes)
sent_closes (Enter kind ∷ steps) walked raw earlier before None closes =
    let spot = spot_at walked (Enter kind) steps in
    let more = walked ++ Enter kind ∷ [] in
    past_trivia raw earlier before spot (spots_behind more steps) None
    (sent_closes steps more raw (earlier ++ spot ∷ []) (sent_past raw earlier before spot) (Some 1) closes)
sent_closes (Enter kind ∷ steps) walked raw earlier before (Some zero) closes = absurd closes
sent_closes (Enter kind ∷ steps) walked raw earlier before (Some (suc n)) closes =
    let spot = spot_at walked (Enter kind) steps in
    let more = walked ++ Enter kind ∷ [] in
    past_trivia raw earlier before spot (spots_behind more steps) (Some (suc n))
    (sent_closes steps more raw (earlier ++ spot ∷ []) (sent_past raw earlier before spot) (Some (suc (suc n))) closes)
sent_closes (Exit ∷ steps) walked raw earlier before None closes = absurd closes
sent_closes (Exit ∷ steps) walked raw earlier before (Some zero) closes = absurd closes
sent_closes (Exit ∷ steps) walked raw earlier before (Some (suc n)) closes =
    let spot = spot_at walked Exit steps in
    let more = walked ++ Exit ∷ [] in
    past_trivia raw earlier before spot (spots_behind more steps) (Some (suc n))
    (sent_closes steps more raw (earlier ++ spot ∷ []) (sent_past raw earlier before spot) (Some n) closes)
sent_closes (Error text ∷ steps) walked raw earlier before nodes closes =
    let spot = spot_at walked (Error text) steps in
    let more = walked ++ Error text ∷ [] in
    past_trivia raw earlier before spot (spots_behind more steps) nodes
    (sent_closes steps more raw (earlier ++ spot ∷ []) (sent_past raw earlier before spot) nodes closes)

-- all that is sent stands in one root
one_root : (table : Table) (steps : List Step) → Fits table steps → Closes (sent_list table steps) None
one_root table steps fits =
    let walk : WalkCloses (without_errors steps) None = rooted (without_errors steps) fits.root in
    let moved : WalkCloses (errors_moved steps) None = with_errors (errors_moved steps) None (subst (λ l. WalkCloses l None) (sym (others-errors_moved steps)) walk) in
    sent_closes (errors_moved steps) [] (raw_tokens table) [] [] None moved

-- ---- nodes of any number of roots

-- inside of so many open nodes, steps close no more than are open, and leave none open
abbrev ClosesNodes : List OwnedStep → ℕ → Type 0
ClosesNodes [] n = n ≡ 0
ClosesNodes (sent.Token kind text ∷ steps) n = ClosesNodes steps n
ClosesNodes (sent.Enter kind ∷ steps) n = ClosesNodes steps (suc n)
ClosesNodes (sent.Exit ∷ steps) zero = ⊥
ClosesNodes (sent.Exit ∷ steps) (suc n) = ClosesNodes steps n
ClosesNodes (sent.Error text pos ∷ steps) n = ClosesNodes steps n

-- so do those of one root
of_open : (steps : List OwnedStep) (n : ℕ) → Closes steps (Some n) → ClosesNodes steps n
of_open [] n closes = closes
of_open (sent.Token kind text ∷ steps) n closes = of_open steps n closes
of_open (sent.Enter kind ∷ steps) zero closes = absurd closes
of_open (sent.Enter kind ∷ steps) (suc n) closes = of_open steps (suc (suc n)) closes
of_open (sent.Exit ∷ steps) zero closes = closes
of_open (sent.Exit ∷ steps) (suc n) closes = of_open steps n closes
of_open (sent.Error text pos ∷ steps) n closes = of_open steps n closes

of_root : (steps : List OwnedStep) → Closes steps None → ClosesNodes steps 0
of_root [] closes = absurd closes
of_root (sent.Token kind text ∷ steps) closes = of_root steps closes
of_root (sent.Enter kind ∷ steps) closes = of_open steps 1 closes
of_root (sent.Exit ∷ steps) closes = closes
of_root (sent.Error text pos ∷ steps) closes = of_root steps closes

-- behind the root no closing is left
none_closes : (steps : List OwnedStep) → Closes (steps ++ sent.Exit ∷ []) (Some 0) → ⊥
none_closes [] closes = closes
none_closes (sent.Token kind text ∷ steps) closes = none_closes steps closes
none_closes (sent.Enter kind ∷ steps) closes = closes
none_closes (sent.Exit ∷ steps) closes = closes
none_closes (sent.Error text pos ∷ steps) closes = none_closes steps closes

-- so do those in a root that the last step closes
in_root : (steps : List OwnedStep) (n : ℕ) → Closes (steps ++ sent.Exit ∷ []) (Some (suc n)) → ClosesNodes steps n
in_root [] n closes = closes
in_root (sent.Token kind text ∷ steps) n closes = in_root steps n closes
in_root (sent.Enter kind ∷ steps) n closes = in_root steps (suc n) closes
in_root (sent.Exit ∷ steps) zero closes = absurd (none_closes steps closes)
in_root (sent.Exit ∷ steps) (suc n) closes = in_root steps n closes
in_root (sent.Error text pos ∷ steps) n closes = in_root steps n closes

-- ---- trees

-- trees behind the nodes in which others stand, the innermost first
abbrev steps_behind : List Forest → List OwnedStep
steps_behind [] = []
steps_behind (forest ∷ forests) = sent.Exit ∷ (forest_steps forest ++ steps_behind forests)

-- steps that close so many nodes are those of trees in the innermost, and of trees behind each
record AreTrees (steps : List OwnedStep) (n : ℕ) : Type 0 where
  forest : Forest
  forests : List Forest
  count : length forests ≡ n
  are : steps ≡ forest_steps forest ++ steps_behind forests

around : (kind n : ℕ) (steps : List OwnedStep) (forest : Forest) (forests : List Forest) → length forests ≡ suc n → steps ≡ forest_steps forest ++ steps_behind forests
    → AreTrees (sent.Enter kind ∷ steps) n
around kind n steps forest [] count are = absurd (omega (arith, count))
around kind n steps forest (others ∷ forests) count are = record {
  forest = tree.Node kind forest others;
  forests = forests;
  count = omega (arith, count);
  are = ap (λ l. sent.Enter kind ∷ l) (are ∙ sym (append_assoc (forest_steps forest) (sent.Exit ∷ forest_steps others) (steps_behind forests)));
}

trees : (steps : List OwnedStep) (n : ℕ) → ClosesNodes steps n → AreTrees steps n
trees [] n closes = record { forest = tree.Nothing; forests = []; count = sym closes; are = refl }
trees (sent.Token kind text ∷ steps) n closes =
    let t = trees steps n closes in
    record { forest = tree.Token kind text t.forest; forests = t.forests; count = t.count; are = ap (λ l. sent.Token kind text ∷ l) t.are }
trees (sent.Enter kind ∷ steps) n closes =
    let t = trees steps (suc n) closes in
    around kind n steps t.forest t.forests t.count t.are
trees (sent.Exit ∷ steps) zero closes = absurd closes
trees (sent.Exit ∷ steps) (suc n) closes =
    let t = trees steps n closes in
    record { forest = tree.Nothing; forests = t.forest ∷ t.forests; count = ap suc t.count; are = ap (λ l. sent.Exit ∷ l) t.are }
trees (sent.Error text pos ∷ steps) n closes =
    let t = trees steps n closes in
    record { forest = tree.Error text pos t.forest; forests = t.forests; count = t.count; are = ap (λ l. sent.Error text pos ∷ l) t.are }

alone : (steps : List OwnedStep) (forest : Forest) (forests : List Forest) → length forests ≡ 0 → steps ≡ forest_steps forest ++ steps_behind forests → steps ≡ forest_steps forest
alone steps forest [] none are = are ∙ append-nil (forest_steps forest)
alone steps forest (other ∷ forests) none are = absurd (omega (arith, none))

forest_of : (steps : List OwnedStep) → ClosesNodes steps 0 → (forest : Forest) × (steps ≡ forest_steps forest)
forest_of steps closes =
    let t = trees steps 0 closes in
    (t.forest, alone steps t.forest t.forests t.count t.are)

pub sent_forest : (table : Table) (steps : List Step) → Fits table steps → (forest : Forest) × (sent_list table steps ≡ forest_steps forest)
sent_forest table steps fits = forest_of (sent_list table steps) (of_root (sent_list table steps) (one_root table steps fits))

-- so is what is sent in the root
pub inner_forest : (table : Table) (steps : List Step) (kind : ℕ) (inner : List OwnedStep) → Fits table steps → sent_list table steps ≡ sent.Enter kind ∷ inner ++ sent.Exit ∷ []
    → (forest : Forest) × (inner ≡ forest_steps forest)
inner_forest table steps kind inner fits are =
    let closes : Closes (sent.Enter kind ∷ (inner ++ sent.Exit ∷ [])) None = subst (λ l. Closes l None) are (one_root table steps fits) in
    forest_of inner (in_root inner 0 closes)
