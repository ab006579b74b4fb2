-- What one read does to the bytes that are left of a reader.
use Rattle.std.specs.Prelude.{◌≡◌, ℕ, ◌≤◌, ◌<◌, List, length, take, Option}
use Rattle.std.specs.Io.KnownBytes.{Consumes, IsAtEnd, Keeps}
use Rattle.squawk_answer.specs.declared.watch.ReadOutcome.{ReadOutcome}
use Rattle.squawk_answer.specs.declared.watch.ReadOutcome.TheVariants.{Bytes, Interrupted, Failed}

-- The bytes that were read are the first ones that were left, and are at the front of the buffer. If none were read into a buffer
-- with room, none were left. A read that is interrupted or fails takes none.
abbrev pub OutcomeConsumes : Option (List ℕ) → Option (List ℕ) → ReadOutcome → List ℕ → Type 0
OutcomeConsumes old new (Bytes n) buffer = (n ≤ length buffer) × Consumes old new (take n buffer) × (n ≡ 0 → 0 < length buffer → IsAtEnd new)
OutcomeConsumes old new Interrupted buffer = Keeps old new
OutcomeConsumes old new Failed buffer = Keeps old new
