-- Errors as numbers, and the bytes of their texts.
use Rattle.std.specs.Prelude.{ℕ, ◌+◌, Option, Some, None, List, [], ◌∷◌, ◌++◌, encode_utf8_all, length}
use Rattle.std.specs.List.{flat_map}
use Rattle.squawk_tokens.specs.LexicalErrors.{LexicalError, error_at}
use Rattle.squawk_table.specs.declared.shortcuts.str_step.OwnedStep.{OwnedStep}
use Rattle.squawk_table.specs.declared.shortcuts.str_step.OwnedStep.TheVariants.{Token, Enter, Exit, Error}
use Rattle.caliperdock_c.specs.declared.errors.CError.{CError}

-- the error that a step is, if it is one: it stands at its position, and has no hint
abbrev pub error_in : OwnedStep → List LexicalError
error_in (Token kind text) = []
error_in (Enter kind) = []
error_in Exit = []
error_in (Error text pos) = error_at pos pos (encode_utf8_all text) ∷ []

-- the errors of steps, and behind them lexical errors
abbrev pub all_errors : List OwnedStep → List LexicalError → List LexicalError
all_errors steps lexical = flat_map error_in steps ++ lexical

-- the bytes of a hint, if there is one
abbrev pub hint_bytes : Option (List ℕ) → List ℕ
hint_bytes None = []
hint_bytes (Some hint) = hint

-- the message of an error and its hint, joined
abbrev pub error_text : LexicalError → List ℕ
error_text e = e.message ++ hint_bytes e.hint

-- the texts of errors, joined
abbrev pub error_texts : List LexicalError → List ℕ
error_texts errors = flat_map error_text errors

-- an error whose text begins at a place among all texts
abbrev pub numbered_error : ℕ → LexicalError → CError
numbered_error at e = record {
  start = e.start;
  end = e.end;
  message_start = at;
  message_end = at + length e.message;
  hint_end = at + length (error_text e);
}

-- errors whose texts are joined from that place on
abbrev pub numbered_errors : ℕ → List LexicalError → List CError
numbered_errors at [] = []
numbered_errors at (e ∷ errors) = numbered_error at e ∷ numbered_errors (at + length (error_text e)) errors
