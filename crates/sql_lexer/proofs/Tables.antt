-- A table has what a function gives.
use Rattle.std.proofs.Common.{◌≡◌, ◌∙◌, ℕ, zero, suc, ◌+◌, ◌<◌, List, [], ◌∷◌, get_or, arith, ap}

-- what a function gives for n numbers from k on
abbrev pub given : {A : Type 0} → (ℕ → A) → ℕ → ℕ → List A
given f k zero = []
given f k (suc n) = f k ∷ given f (k + 1) n

pub given_at : {A : Type 0} (f : ℕ → A) (k n i : ℕ) (d : A) → i < n → get_or (given f k n) i d ≡ f (k + i)
given_at f k zero i d lt = absurd (omega arith)
given_at f k (suc n) zero d lt = (let same : k ≡ k + 0 = omega arith in ap f same)
given_at f k (suc n) (suc i) d lt =
    let same : k + 1 + i ≡ k + suc i = omega arith in
    given_at f (k + 1) n i d (omega arith) ∙ ap f same
