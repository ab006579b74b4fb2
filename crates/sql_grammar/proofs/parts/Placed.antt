-- Errors of a part stand before its end.
use Rattle.std.proofs.Common.{◌≡◌, ℕ, ◌+◌, ◌-◌, ◌<◌, List, [], ◌∷◌, ◌++◌, length, map, slice_index, arith, ap, refl}
use Rattle.squawk_output.specs.Steps.{Step, Token, Enter, Exit, Error}
use Rattle.squawk_table.specs.RawTable.{IsTable, RawToken, Table}
use Rattle.squawk_table.specs.Sending.{HaveTokens, raw_here, sent_from, trivia_here}
use Rattle.squawk_table.specs.Sent.{sent_raw}
use Rattle.squawk_table.specs.declared.shortcuts.str_step.OwnedStep.{OwnedStep}
use Rattle.sql_grammar.specs.ReadParts.{ErrorsBelow}
use Rattle.sql_grammar.proofs.parts.Sending.{AreBeforeTokens, some_left}
use Rattle.sql_grammar.proofs.parts.Sending.AreBeforeTokens.{more}

over_trivia : (n : ℕ) (rs : List RawToken) (steps : List OwnedStep) → ErrorsBelow n steps → ErrorsBelow n (map sent_raw rs ++ steps)
over_trivia n [] steps below = below
over_trivia n (r ∷ rs) steps below = over_trivia n rs steps below

module _ (t : Table) (table : IsTable t) where
  pub errors_below : (at depth : ℕ) (steps : List Step) → AreBeforeTokens depth steps → HaveTokens t at depth steps → ErrorsBelow (length t.text) (sent_from t at depth steps)
  errors_below at depth [] are has = tt
  errors_below at depth (Token kind n ∷ steps) (more token are) has =
      over_trivia (length t.text) (trivia_here t at depth (Token kind n)) _ (errors_below (raw_here t at depth (Token kind n) + n) depth steps are has.1)
  errors_below at depth (Enter kind ∷ steps) (more token are) has =
      over_trivia (length t.text) (trivia_here t at depth (Enter kind)) _ (errors_below (raw_here t at depth (Enter kind)) (depth + 1) steps are has.1)
  errors_below at depth (Exit ∷ steps) (more token are) has =
      over_trivia (length t.text) (trivia_here t at depth Exit) _ (errors_below (raw_here t at depth Exit) (depth - 1) steps are has.1)
  errors_below at depth (Error text ∷ steps) (more token are) has =
      let left = some_left t at depth (Error text ∷ steps) (token refl) has in
      let here : raw_here t at depth (Error text) ≡ at = omega arith in
      let lt : slice_index t.starts at < slice_index t.starts (length t.kinds) = table.ascends at (length t.kinds) (omega (arith, left)) (omega (arith, table.entries)) in
      (omega (arith, lt, table.ends, ap (slice_index t.starts) here), errors_below (raw_here t at depth (Error text)) depth steps are has.1)
