-- What writing some bytes, which may fail, does to those that a writer holds.
use Rattle.std.specs.Prelude.{◌≡◌, ℕ, true, false, List, ◌∷◌, ◌++◌, Option, ◌⊎◌}
use Rattle.std.specs.Io.KnownBytes.{Appends}
use Rattle.squawk_answer.specs.Watched.{Watched, after_write}

-- Known bytes grow by a prefix of these, and not by all of them.
pub record AppendsPart (old new : Option (List ℕ)) (bytes : List ℕ) : Type 0 where
  pub written : List ℕ
  pub next : ℕ
  pub left : List ℕ
  pub whole : bytes ≡ written ++ next ∷ left
  pub appends : Appends old new written

-- They grow by all of these and no write failed, or by a prefix, since one did.
abbrev pub WritesOrFails : Watched → Watched → Option (List ℕ) → Option (List ℕ) → List ℕ → Type 0
WritesOrFails w v old new bytes = ((v ≡ after_write w true) × Appends old new bytes) ⊎ ((v ≡ after_write w false) × AppendsPart old new bytes)
