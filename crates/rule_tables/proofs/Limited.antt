-- Errors that name nothing.
use Rattle.std.proofs.Common.{◌≡◌, ℕ, List, Result, Ok, Err, IfErr, OnOk, subst}
use Rattle.rule_tables.specs.Limits.{IsLimit, IsUndecidedIf}
use Rattle.rule_tables.specs.declared.error.RulesError.{RulesError}
use Rattle.rule_tables.specs.declared.error.RulesError.TheVariants.{TooMany, Memory}

pub limit_if : (Shared : List ℕ → Type 0) (part : ℕ) (reason : RulesError) → IsLimit reason → IsUndecidedIf Shared part reason
limit_if Shared part TooMany limit = limit
limit_if Shared part (Memory e) limit = limit
limit_if Shared part reason limit = absurd limit

-- what is said of one row is said of another
pub err_at : {T X : Type 0} (F : X → List ℕ → Type 0) (S : Type 0) (part : ℕ) (r : Result T RulesError) {x y : X} → x ≡ y → IfErr r (IsUndecidedIf (λ kinds. S × F x kinds) part) → IfErr r (IsUndecidedIf (λ kinds. S × F y kinds) part)
err_at {T} {X} F S part r e = subst (λ (z : X). IfErr r (IsUndecidedIf (λ kinds. S × F z kinds) part)) e

open_at : {T X : Type 0} (F : X → Type 0) (S : Type 0) (r : Result T RulesError) (y : X) → OnOk r (S → F y → ⊥) → OnOk r (S × F y → ⊥)
open_at F S (Ok x) y none = λ both. none both.0 both.1
open_at F S (Err e) y none = tt

pub ok_at : {T X : Type 0} (F : X → Type 0) (S : Type 0) (r : Result T RulesError) {x y : X} → x ≡ y → OnOk r (S → F x → ⊥) → OnOk r (S × F y → ⊥)
ok_at {T} {X} F S r {y = y} e none = open_at F S r y (subst (λ (z : X). OnOk r (S → F z → ⊥)) e none)
