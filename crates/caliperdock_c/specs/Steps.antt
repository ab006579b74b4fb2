-- Sent steps as numbers.
use Rattle.std.specs.Prelude.{ℕ, ◌+◌, ◌<◌, ◌^◌, List, [], ◌∷◌, encode_utf8_all, length}
use Rattle.squawk_table.specs.declared.shortcuts.str_step.OwnedStep.{OwnedStep}
use Rattle.squawk_table.specs.declared.shortcuts.str_step.OwnedStep.TheVariants.{Token, Enter, Exit, Error}
use Rattle.caliperdock_c.specs.declared.steps.CStep.{CStep}

-- Steps behind so many bytes and so many errors: a token has the bytes from its start to its end, and an error its number among the
-- errors, and its position. The beginning and the end of a node stand at a byte.
abbrev pub numbered_steps : ℕ → ℕ → List OwnedStep → List CStep
numbered_steps at errors [] = []
numbered_steps at errors (Token kind text ∷ steps) =
    let end = at + length (encode_utf8_all text) in
    record { tag = 0; kind = kind; start = at; end = end } ∷ numbered_steps end errors steps
numbered_steps at errors (Enter kind ∷ steps) = record { tag = 1; kind = kind; start = at; end = at } ∷ numbered_steps at errors steps
numbered_steps at errors (Exit ∷ steps) = record { tag = 2; kind = 0; start = at; end = at } ∷ numbered_steps at errors steps
numbered_steps at errors (Error text pos ∷ steps) = record { tag = 3; kind = 0; start = errors; end = pos } ∷ numbered_steps at (errors + 1) steps

-- the numbers of those steps have 32 bits
abbrev pub HaveNumbers : ℕ → ℕ → List OwnedStep → Type 0
HaveNumbers at errors [] = Unit {0}
HaveNumbers at errors (Token kind text ∷ steps) =
    let end = at + length (encode_utf8_all text) in
    (end < 2 ^ 32) × HaveNumbers end errors steps
HaveNumbers at errors (Enter kind ∷ steps) = HaveNumbers at errors steps
HaveNumbers at errors (Exit ∷ steps) = HaveNumbers at errors steps
HaveNumbers at errors (Error text pos ∷ steps) = (pos < 2 ^ 32) × (errors + 1 < 2 ^ 32) × HaveNumbers at (errors + 1) steps

-- the position of an error has 32 bits
abbrev pub IsLow : OwnedStep → Type 0
IsLow (Token kind text) = Unit {0}
IsLow (Enter kind) = Unit {0}
IsLow Exit = Unit {0}
IsLow (Error text pos) = pos < 2 ^ 32

abbrev pub AreLow : List OwnedStep → Type 0
AreLow [] = Unit {0}
AreLow (step ∷ steps) = IsLow step × AreLow steps
