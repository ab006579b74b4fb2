-- The errors among what is sent are those of the walk.
use Rattle.std.proofs.Common.{◌≡◌, ◌∙◌, ℕ, List, [], ◌∷◌, ◌++◌, ap, arith, filter, length, length-append, map, refl, sym}
use Rattle.std.specs.List.{flat_map}
use Rattle.std.proofs.lemmas.List.Sums.{length-filter}
use Rattle.squawk_output.specs.Steps.{Step, Token, Enter, Exit, Error, errors_in, is_error}
use Rattle.squawk_table.specs.RawTable.{IsTable, RawToken, Table}
use Rattle.squawk_table.specs.Sending.{depth_behind, next_raw, raw_here, sent_from, sent_here, trivia_here}
use Rattle.squawk_table.specs.Sent.{errors_moved, sent_list, sent_raw}
use Rattle.squawk_table.specs.Shape.{Fits}
use Rattle.squawk_table.specs.declared.shortcuts.str_step.OwnedStep.{OwnedStep}
use Rattle.squawk_table.specs.declared.shortcuts.str_step.OwnedStep.TheVariants as sent
use Rattle.squawk_table.proofs.ErrorsMoved.{errors-moved}
use Rattle.squawk_table.proofs.SentFrom.{sent_from-sent_list}

-- what a step tells: one thing of an error, and nothing of any other step
pub record TellsErrors {X : Type 0} (tell : OwnedStep → List X) : Type 0 where
  pub token : (kind : ℕ) (text : List ℕ) → tell (sent.Token kind text) ≡ []
  pub enter : (kind : ℕ) → tell (sent.Enter kind) ≡ []
  pub exit : tell sent.Exit ≡ []
  pub error : (text : List ℕ) (pos : ℕ) → length (tell (sent.Error text pos)) ≡ 1

module _ {X : Type 0} (tell : OwnedStep → List X) (tells : TellsErrors tell) where
  -- trivia is no error
  no_error : (trivia : List RawToken) (rest : List OwnedStep) → flat_map tell (map sent_raw trivia ++ rest) ≡ flat_map tell rest
  no_error [] rest = refl
  no_error (r ∷ trivia) rest = ap (λ xs. xs ++ flat_map tell (map sent_raw trivia ++ rest)) (tells.token r.kind _) ∙ no_error trivia rest

  errors_from : (t : Table) (place depth : ℕ) (left : List Step) → length (flat_map tell (sent_from t place depth left)) ≡ length (filter is_error left)
  errors_from t place depth [] = refl
  errors_from t place depth (step ∷ left) =
      let at = raw_here t place depth step in
      let after = sent_from t (next_raw at step) (depth_behind depth step) left in
      ap length (no_error (trivia_here t place depth step) (sent_here t at step ∷ after)) ∙ one at step after left (errors_from t (next_raw at step) (depth_behind depth step) left)
    where
      one : (at : ℕ) (step : Step) (after : List OwnedStep) (left : List Step) → length (flat_map tell after) ≡ length (filter is_error left)
          → length (flat_map tell (sent_here t at step ∷ after)) ≡ length (filter is_error (step ∷ left))
      one at (Token kind n) after left e = ap (λ xs. length (xs ++ flat_map tell after)) (tells.token kind _) ∙ e
      one at (Enter kind) after left e = ap (λ xs. length (xs ++ flat_map tell after)) (tells.enter kind) ∙ e
      one at Exit after left e = ap (λ xs. length (xs ++ flat_map tell after)) tells.exit ∙ e
      one at (Error text) after left e =
          let told : length (tell (sent_here t at (Error text))) ≡ 1 = tells.error _ _ in
          omega (arith, e, length-append (tell (sent_here t at (Error text))) (flat_map tell after), told)

  -- as many errors are sent as the walk has
  pub errors_sent : (t : Table) → IsTable t → (steps : List Step) → Fits t steps → length (flat_map tell (sent_list t steps)) ≡ errors_in steps
  errors_sent t table steps fits =
      ap (λ xs. length (flat_map tell xs)) (sym (sent_from-sent_list t table steps fits))
      ∙ (errors_from t 0 0 (errors_moved steps) ∙ (ap length (errors-moved steps) ∙ length-filter is_error steps))

  -- so none where it has none
  pub none_sent : (t : Table) → IsTable t → (steps : List Step) → Fits t steps → errors_in steps ≡ 0 → flat_map tell (sent_list t steps) ≡ []
  none_sent t table steps fits none = empty (flat_map tell (sent_list t steps)) (errors_sent t table steps fits ∙ none)
    where
      empty : {Y : Type 0} (xs : List Y) → length xs ≡ 0 → xs ≡ []
      empty [] is = refl
      empty (x ∷ xs) is = absurd (omega (arith, is))
