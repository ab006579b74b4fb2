-- What is known of the reads and the writes of a run.
use Rattle.std.specs.Prelude.{◌≡◌, ℕ, ◌+◌, ◌==◌, ◌||◌, Bool, true, false, ◌⊎◌}
use Rattle.squawk_answer.specs.declared.watch.ReadOutcome.{ReadOutcome}
use Rattle.squawk_answer.specs.declared.watch.ReadOutcome.TheVariants.{Bytes, Interrupted, Failed}

-- the number of reads, whether one found the end, and whether a read or a write failed
pub record Watched : Type 0 where
  pub reads : ℕ
  pub ended : Bool
  pub read_failed : Bool
  pub write_failed : Bool

-- nothing was read or written yet
abbrev pub new_watch : Watched
new_watch = record { reads = 0; ended = false; read_failed = false; write_failed = false }

-- one more read, with this outcome
abbrev pub after_read : Watched → ReadOutcome → Watched
after_read w (Bytes n) = record w { reads = w.reads + 1; ended = (n == 0) || w.ended }
after_read w Interrupted = record w { reads = w.reads + 1 }
after_read w Failed = record w { reads = w.reads + 1; read_failed = true }

-- bytes were written, all of them or not
abbrev pub after_write : Watched → Bool → Watched
after_write w true = w
after_write w false = record w { write_failed = true }

-- the greatest number of reads of a run, interrupted ones too
abbrev pub most_reads : ℕ
most_reads = 4294967296

-- a read failed, or the reads ran out before the end
abbrev pub IsUnread : Watched → Type 0
IsUnread w = (w.read_failed ≡ true) ⊎ ((w.reads ≡ most_reads) × (w.ended ≡ false))
