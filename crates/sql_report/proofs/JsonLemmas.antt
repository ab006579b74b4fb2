-- The ends of nodes.
use Rattle.std.proofs.Common.{◌≡◌, ◌≢◌, ℕ, zero, suc, List, refl}
use Rattle.sql_report.specs.JsonLines.{ending_inside}

-- a node inside of a statement
pub ending_deeper : (outer : ℕ) (ends : List ℕ) → outer ≢ 0 → outer ≢ 1 → ending_inside outer ends ≡ ends
ending_deeper zero ends some many = absurd (some refl)
ending_deeper (suc zero) ends some many = absurd (many refl)
ending_deeper (suc (suc outer)) ends some many = refl
