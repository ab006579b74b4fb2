-- A log with a chain taken out.
use Rattle.std.proofs.Common.{◌≡◌, ℕ, zero, suc, Bool, false, Some, None, Option, [], ◌∷◌, length, refl, sym, ap, if◌then◌else◌}
use Rattle.squawk_output.specs.EventLog.{Log, linked_index, leads, reaches}
use Rattle.squawk_output.specs.Chain.{erased}
use Rattle.squawk_output.proofs.Gathered.{steps_at}

-- whether the chain from an index comes to another
abbrev pub comes : Option ℕ → Log → ℕ → Bool
comes from log j = leads from (λ index. reaches log index j)

pub length-erased : (from : Option ℕ) (log : Log) → length (erased from log) ≡ length log
length-erased from [] = refl
length-erased None (x ∷ xs) = refl
length-erased (Some zero) (x ∷ xs) = ap suc (length-erased (linked_index x) xs)
length-erased (Some (suc n)) (x ∷ xs) = ap suc (length-erased (Some n) xs)

pub leads-same : (link : Option ℕ) (p q : ℕ → Bool) → ((n : ℕ) → p n ≡ q n) → leads link p ≡ leads link q
leads-same None p q same = refl
leads-same (Some n) p q same = same n

-- an index where the chain doesn't come is reached as before
pub reaches-erased : (from : Option ℕ) (log : Log) (j : ℕ) → comes from log j ≡ false → (i : ℕ) → reaches (erased from log) i j ≡ reaches log i j
reaches-erased from [] j away i = refl
reaches-erased None (x ∷ xs) j away i = refl
reaches-erased (Some zero) (x ∷ xs) zero away i = absurd (cc)
reaches-erased (Some zero) (x ∷ xs) (suc j) away zero = sym away
reaches-erased (Some zero) (x ∷ xs) (suc j) away (suc i) = reaches-erased (linked_index x) xs j away i
reaches-erased (Some (suc n)) (x ∷ xs) zero away zero = refl
reaches-erased (Some (suc n)) (x ∷ xs) zero away (suc i) = refl
reaches-erased (Some (suc n)) (x ∷ xs) (suc j) away zero = leads-same (linked_index x) (λ i. reaches (erased (Some n) xs) i j) (λ i. reaches xs i j) (reaches-erased (Some n) xs j away)
reaches-erased (Some (suc n)) (x ∷ xs) (suc j) away (suc i) = reaches-erased (Some n) xs j away i

-- where it comes, no steps are left
pub steps-erased : (from : Option ℕ) (log : Log) (j : ℕ) → steps_at (erased from log) j ≡ (if comes from log j then [] else steps_at log j)
steps-erased None [] j = refl
steps-erased (Some n) [] j = refl
steps-erased None (x ∷ xs) j = refl
steps-erased (Some zero) (x ∷ xs) zero = refl
steps-erased (Some zero) (x ∷ xs) (suc j) = steps-erased (linked_index x) xs j
steps-erased (Some (suc n)) (x ∷ xs) zero = refl
steps-erased (Some (suc n)) (x ∷ xs) (suc j) = steps-erased (Some n) xs j
