-- What is wrong if no name is.
use Rattle.std.specs.Prelude.{◌≡◌, ℕ, List}
use Rattle.rule_tables.specs.declared.error.RulesError.{RulesError}
use Rattle.rule_tables.specs.declared.error.RulesError.TheVariants.{Undecided, TooMany, Memory}

-- there are too many rules, or too little memory
abbrev pub IsLimit : RulesError → Type 0
IsLimit TooMany = Unit {0}
IsLimit (Memory reason) = Unit {0}
IsLimit reason = ⊥

-- an error says that a part is undecided only if the kinds that it tells come both ways there, or is one of those
abbrev pub IsUndecidedIf : (List ℕ → Type 0) → ℕ → RulesError → Type 0
IsUndecidedIf Shared part (Undecided j kinds) = (j ≡ part) × Shared kinds
IsUndecidedIf Shared part reason = IsLimit reason
