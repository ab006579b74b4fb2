-- Rows that may be empty.
use Rattle.std.proofs.Common.{◌≡◌, ℕ, ◌≤◌, List, length, true, false, Bool, inl, inr, subst, sym}
use Rattle.std.proofs.Math.ListN.{replicate}
use Rattle.std.proofs.lemmas.List.{get_or-replicate, get_or_past}
use Rattle.rule_grammar.specs.declared.part.Part.{Part}
use Rattle.rule_grammar.specs.declared.part.Part.TheVariants.{Nothing}
use Rattle.rule_checks.specs.Rows.{row_at}
use Rattle.rule_checks.specs.Sets.{has}
use Rattle.std.proofs.lemmas.Bool.{cases_lt}
use Rattle.rule_checks.specs.Empty.{Empty, HaveAll, IsClosed, Needs, all, arm, empty, needs, never, nothing, row}

needs-grow : (rows : List Part) (P Q : ℕ → Type 0) → ((m : ℕ) → P m → Q m) → (n : Needs) → HaveAll rows P n → HaveAll rows Q n
needs-grow rows P Q grows (all start end) have = λ m walk. grows m (have m walk)
needs-grow rows P Q grows (arm start end) have = (have.0, have.1, have.2, grows have.0 have.3)
needs-grow rows P Q grows (row m) have = grows m have
needs-grow rows P Q grows nothing have = tt
needs-grow rows P Q grows never have = absurd have

-- After the last row there is nothing, which is empty.
pub row-past : (rows : List Part) (k : ℕ) → length rows ≤ k → row_at rows k ≡ Nothing
row-past rows k past = get_or_past rows k Nothing past

empty-past : (rows : List Part) (k : ℕ) → length rows ≤ k → Empty rows k
empty-past rows k past = empty (λ _. false) (subst (λ p. HaveAll rows (λ _. false ≡ true) (needs k p)) (sym (row-past rows k past)) tt) (λ m impossible. absurd (cc))

pub unmarked-empty : (rows : List Part) (k : ℕ) → has (replicate (length rows) false) k ≡ true → Empty rows k
unmarked-empty rows k marked = elim (cases_lt k (length rows)) [
  | inl within ↦ let unmarked = get_or-replicate (length rows) k false true within in absurd (cc)
  | inr past ↦ empty-past rows k past
]

-- A closed set has all rows that may be empty.
pub empty_in : (rows : List Part) (set : ℕ → Bool) → IsClosed rows set → {k : ℕ} → Empty rows k → set k ≡ true
empty_in rows set closed (empty {k} others eats are_empty) =
    closed k (needs-grow rows (λ m. others m ≡ true) (λ m. set m ≡ true) (λ m has. empty_in rows set closed (are_empty m has)) (needs k (row_at rows k)) eats)
