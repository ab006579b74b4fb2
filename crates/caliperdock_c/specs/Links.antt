-- Where the links of a log lead.
use Rattle.std.specs.Prelude.{ℕ, zero, suc, ◌<◌, [], ◌∷◌, length}
use Rattle.squawk_output.specs.EventLog.{Log, Lands}

-- the link of the event at a place, if it has one, leads to a later Start
abbrev pub LandsAt : Log → ℕ → Type 0
LandsAt [] place = Unit {0}
LandsAt (event ∷ log) zero = Lands event log
LandsAt (event ∷ log) (suc place) = LandsAt log place

-- the link at this place is the first that doesn't
pub record IsFirstAstray (log : Log) (place : ℕ) : Type 0 where
  pub within : place < length log
  pub before : (k : ℕ) → k < place → LandsAt log k
  pub astray : ¬ (LandsAt log place)
