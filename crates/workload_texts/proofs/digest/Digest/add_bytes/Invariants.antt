use Rattle.std.proofs.Common.{length}
use Rattle.workload_texts.proofs.digest.Digest.add_bytes.Given as goal

-- the bytes that are left
abbrev pub decreases-loop-word : goal.decreases-loop-word
decreases-loop-word l = length l.rest
