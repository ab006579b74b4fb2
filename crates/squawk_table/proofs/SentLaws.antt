-- Laws of what is sent.
use Rattle.std.proofs.Common.{◌≡◌, ◌∙◌, ℕ, zero, suc, Option, None, Some, List, [], ◌∷◌, ◌++◌, map, filter, length, length-append, slice_get, arith, append_assoc, ap, sym, refl, subst, ◌⊎◌, inl, inr}
use Rattle.std.proofs.lemmas.List.{append-nil}
use Rattle.squawk_table.specs.RawTable.{Table, RawToken, raw_tokens}
use Rattle.squawk_table.specs.Sent.{errors_moved, sent_raw, sent_step, sent_list, bytes_of, ErrorsArePlaced}
use Rattle.squawk_output.specs.Steps.{Step, Token, Enter, Exit, Error, is_error, eaten, without_errors}
use Rattle.squawk_table.specs.declared.shortcuts.str_step.OwnedStep.{OwnedStep}
use Rattle.squawk_table.specs.declared.shortcuts.str_step.OwnedStep.TheVariants as sent
use Rattle.squawk_table.proofs.ErrorsMoved as moved
use Rattle.squawk_table.proofs.NumberedSteps.{eaten_before, trivia_before, sent_steps, sent_below}
use Rattle.squawk_table.proofs.SentNumbered.{sent_list-numbered}

-- ---- the order of steps

-- a law: where errors are moved, all other steps keep their order
pub others-errors_moved : (steps : List Step) → without_errors (errors_moved steps) ≡ without_errors steps
others-errors_moved steps = moved.without_errors-moved steps

-- a law: and the errors keep theirs
pub errors-errors_moved : (steps : List Step) → filter is_error (errors_moved steps) ≡ filter is_error steps
errors-errors_moved steps = moved.errors-moved steps

-- a law: as many input tokens are eaten
pub eaten-errors_moved : (steps : List Step) → eaten (errors_moved steps) ≡ eaten steps
eaten-errors_moved steps = moved.eaten-moved steps

-- a law: and there are as many steps
pub length-errors_moved : (steps : List Step) → length (errors_moved steps) ≡ length steps
length-errors_moved steps = moved.length-moved steps

-- ---- the positions of errors

-- a step of a list that is one longer is one of the list, or the last
split_last : {X : Type 0} (l front rest : List X) (x e : X) → l ++ x ∷ [] ≡ front ++ e ∷ rest → ((behind : List X) × (l ≡ front ++ e ∷ behind)) ⊎ ((front ≡ l) × (x ≡ e))
split_last [] [] rest x e is = inr (refl, cc)
split_last [] (f ∷ front) rest x e is = absurd (omega (arith, ap length is, length-append front (e ∷ rest)))
split_last (y ∷ l) [] rest x e is = inl (l, let same : y ≡ e = cc in ap (λ s. s ∷ l) same)
split_last (y ∷ l) (f ∷ front) rest x e is =
    let first : y ≡ f = cc in
    let others : l ++ x ∷ [] ≡ front ++ e ∷ rest = cc in
    elim (split_last l front rest x e others) [
      | inl before ↦ inl (before.0, cc)
      | inr last ↦ inr (cc, last.1)
    ]

placed_more : (steps : List OwnedStep) (next : OwnedStep) → ErrorsArePlaced steps → ((text : List ℕ) (pos : ℕ) → next ≡ sent.Error text pos → pos ≡ bytes_of steps) → ErrorsArePlaced (steps ++ next ∷ [])
placed_more steps next placed here front rest text pos is =
    elim (split_last steps front rest next (sent.Error text pos) is) [
      | inl before ↦ placed front before.0 text pos before.1
      | inr last ↦ here text pos last.1 ∙ ap bytes_of (sym last.0)
    ]

placed_raw : (steps : List OwnedStep) (raw : List RawToken) → ErrorsArePlaced steps → ErrorsArePlaced (steps ++ map sent_raw raw)
placed_raw steps [] placed = subst ErrorsArePlaced (sym (append-nil steps)) placed
placed_raw steps (r ∷ raw) placed =
    let more = placed_more steps (sent_raw r) placed (λ text pos e. cc) in
    subst ErrorsArePlaced (append_assoc steps (sent_raw r ∷ []) (map sent_raw raw)) (placed_raw (steps ++ sent_raw r ∷ []) raw more)

placed_step : (raw : List RawToken) (c : ℕ) (before : List OwnedStep) (step : Step) → ErrorsArePlaced before → ErrorsArePlaced (before ++ sent_step raw c before step ∷ [])
placed_step raw c before (Token kind n) placed = placed_more before (sent_step raw c before (Token kind n)) placed (λ text pos e. cc)
placed_step raw c before (Enter kind) placed = placed_more before (sent.Enter kind) placed (λ text pos e. cc)
placed_step raw c before Exit placed = placed_more before sent.Exit placed (λ text pos e. cc)
placed_step raw c before (Error msg) placed = placed_more before (sent.Error msg (bytes_of before)) placed (λ text pos e. cc)

placed_steps : (raw : List RawToken) (c : ℕ) (before : List OwnedStep) (step : Option Step) → ErrorsArePlaced before → ErrorsArePlaced (before ++ sent_steps raw c before step)
placed_steps raw c before None placed = subst ErrorsArePlaced (sym (append-nil before)) placed
placed_steps raw c before (Some step) placed = placed_step raw c before step placed

placed_below : (raw : List RawToken) (steps : List Step) (n : ℕ) → ErrorsArePlaced (sent_below raw steps n)
placed_below raw steps zero = λ front rest text pos is. absurd (omega (arith, ap length is, length-append front (sent.Error text pos ∷ rest)))
placed_below raw steps (suc i) =
    let trivia = trivia_before raw steps i in
    placed_steps raw (eaten_before steps i) (sent_below raw steps i ++ map sent_raw trivia) (slice_get steps i)
    (placed_raw (sent_below raw steps i) trivia (placed_below raw steps i))

-- the position of an error is the number of bytes that were sent before it
pub errors_placed : (table : Table) (steps : List Step) → ErrorsArePlaced (sent_list table steps)
errors_placed table steps =
    let moved = errors_moved steps in
    subst ErrorsArePlaced (sym (sent_list-numbered table steps)) (placed_below (raw_tokens table) moved (length moved))
