use Rattle.std.proofs.Common.{◌<◌, ◌-◌, length}
use Rattle.std.specs.Prelude.{string_bytes}
use Rattle.sql_document.specs.Recuts.{Grows}
use Rattle.sql_document.proofs.recut.pull.Given as goal

abbrev pub invariant-loop-last : goal.invariant-loop-last
invariant-loop-last g l = record {
  some : l.from < length l.old;
  grows : Grows l.old (string_bytes l.fn.text) (string_bytes l.text) l.from l.last;
}

abbrev pub decreases-loop-last : goal.decreases-loop-last
decreases-loop-last g l = length l.old - l.last
