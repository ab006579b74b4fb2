-- What is written of a parse.
use Rattle.std.specs.Prelude.{◌≡◌, ◌⊎◌, ℕ, ◌≤◌, List, length}
use Rattle.std.specs.List.{flat_map}
use Rattle.std.specs.Str.{chars}
use Rattle.squawk_output.specs.Steps.{Step}
use Rattle.squawk_table.specs.RawTable.{Table}
use Rattle.squawk_table.specs.Sent.{sent_list, texts_of}
use Rattle.squawk_table.specs.Shape.{Fits}
use Rattle.squawk_table.specs.declared.shortcuts.str_step.OwnedStep.{OwnedStep}
use Rattle.caliperdock_c.specs.Errors.{all_errors, error_in, error_texts, numbered_errors}
use Rattle.caliperdock_c.specs.Overlays.{over}
use Rattle.caliperdock_c.specs.Refusals.{Given, HasSteps}
use Rattle.caliperdock_c.specs.Steps.{numbered_steps}
use Rattle.caliperdock_c.specs.declared.errors.CError.{CError}
use Rattle.caliperdock_c.specs.declared.sent.CCounts.{CCounts}
use Rattle.caliperdock_c.specs.declared.steps.CStep.{CStep}

abbrev pub no_counts : CCounts
no_counts = record { steps = 0; step_errors = 0; errors = 0; texts = 0; whole = 0 }

-- there is room for all
pub record HasRoom (steps : List CStep) (errors : List CError) (texts : List ℕ) (counts : CCounts) : Type 0 where
  pub steps_fit : counts.steps ≤ length steps
  pub errors_fit : counts.errors ≤ length errors
  pub texts_fit : counts.texts ≤ length texts

-- a number that tells whether this holds: 1 where it does, and else 0
abbrev pub IsTold : ℕ → Type 0 → Type 0
IsTold n Holds = ((n ≡ 1) × Holds) ⊎ ((n ≡ 0) × (¬ Holds))

-- Steps that are sent over a table, their errors and behind them the lexical ones, and the texts of all errors, each in numbers, over
-- what stood there before; and how many there are.
pub record AreWritten (table : Table) (sent : List OwnedStep) (steps : List CStep) (errors : List CError) (texts : List ℕ)
    (new_steps : List CStep) (new_errors : List CError) (new_texts : List ℕ) (counts : CCounts) : Type 0 where
  pub steps_are : new_steps ≡ over (numbered_steps 0 0 sent) steps
  pub errors_are : new_errors ≡ over (numbered_errors 0 (all_errors sent table.errors)) errors
  pub texts_are : new_texts ≡ over (error_texts (all_errors sent table.errors)) texts
  pub step_count : counts.steps ≡ length sent
  pub step_error_count : counts.step_errors ≡ length (flat_map error_in sent)
  pub error_count : counts.errors ≡ length (all_errors sent table.errors)
  pub text_count : counts.texts ≡ length (error_texts (all_errors sent table.errors))
  pub whole : IsTold counts.whole (texts_of sent ≡ chars table.text)

-- What is given has a table and steps that fit it, and what is sent for these is written.
pub record AreSent (g : Given) (steps : List CStep) (errors : List CError) (texts : List ℕ)
    (new_steps : List CStep) (new_errors : List CError) (new_texts : List ℕ) (counts : CCounts) : Type 0 where
  pub table : Table
  pub walk : List Step
  pub have : HasSteps g table walk
  pub fits : Fits table walk
  pub written : AreWritten table (sent_list table walk) steps errors texts new_steps new_errors new_texts counts
