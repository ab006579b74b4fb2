-- Whether an operand is among some parts.
use Rattle.std.proofs.Common.{◌≡◌, ◌+◌, ◌-◌, ◌<◌, ◌||◌, ℕ, List, zero, suc, ap, arith, slice_get}
use Rattle.rule_parts.specs.declared.Part.{Part}
use Rattle.rule_tables.specs.Rows.{has_operand, is_operand}

pub operand_next : (parts : List Part) (i n : ℕ) → 0 < n → has_operand parts i n ≡ (is_operand (slice_get parts i) || has_operand parts (i + 1) (n - 1))
operand_next parts i zero some = absurd (omega arith)
operand_next parts i (suc n) some = ap (λ m. is_operand (slice_get parts i) || has_operand parts (i + 1) m) (omega arith)
