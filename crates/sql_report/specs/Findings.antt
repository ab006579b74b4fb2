-- What is wrong with a text, in the order of places.
use Rattle.std.specs.Prelude.{◌≡◌, ℕ, Option, None, List, [], ◌∷◌, ◌++◌, map, option_map, encode_utf8_all}
use Rattle.std.specs.List.{flat_map}
use Rattle.std.specs.List.Sorted.{IsPermutation, IsSortedByKey, IsStableByKey}
use Rattle.std.specs.Ordering.{nat_cmp}
use Rattle.squawk_tokens.specs.LexicalErrors.{LexicalError}
use Rattle.squawk_table.specs.declared.shortcuts.str_step.OwnedStep.{OwnedStep}
use Rattle.squawk_table.specs.declared.shortcuts.str_step.OwnedStep.TheVariants.{Token, Enter, Exit, Error}
use Rattle.sql_report.specs.declared.finding_list.Finding.{Finding}

-- an error at a byte, with what is wanted, where it says so
pub record Told : Type 0 where
  pub at : ℕ
  pub message : List ℕ
  pub hint : Option (List ℕ)

-- what a finding tells
abbrev pub told : Finding → Told
told finding = record { at = finding.at; message = finding.message.now; hint = option_map (λ hint. hint.now) finding.hint }

-- a lexical error stands where it starts
abbrev pub told_lexical : LexicalError → Told
told_lexical error = record { at = error.start; message = error.message; hint = error.hint }

-- the error that a step is, if it is one
abbrev pub told_in : OwnedStep → List Told
told_in (Token kind text) = []
told_in (Enter kind) = []
told_in Exit = []
told_in (Error text pos) = record { at = pos; message = encode_utf8_all text; hint = None } ∷ []

-- lexical errors, and behind them those of steps
abbrev pub all_told : List LexicalError → List OwnedStep → List Told
all_told errors steps = map told_lexical errors ++ flat_map told_in steps

-- Findings are these errors, sorted by their places. Those at one place stand as they stood.
pub record AreInOrder (errors : List Told) (findings : List Finding) : Type 0 where
  pub gathered : List Finding
  pub tell : map told gathered ≡ errors
  pub same : IsPermutation gathered findings
  pub sorted : IsSortedByKey (λ finding. finding.at) nat_cmp findings
  pub stable : IsStableByKey (λ finding. finding.at) nat_cmp gathered findings
