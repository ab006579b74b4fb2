use Rattle.std.proofs.Common.{◌≡◌, false}
use Rattle.std.specs.Io.KnownBytes.{Consumes}
use Rattle.squawk_answer.proofs.read.read_all.Given as goal

abbrev pub invariant-loop : goal.invariant-loop
invariant-loop g l = record {
  bytes : Consumes (g.R.Read.remaining l.initial.reader) (g.R.Read.remaining l.reader) l.bytes.items;
  reads : l.watch.reads ≡ l.counter;
  ended : l.watch.ended ≡ false;
  read_failed : l.watch.read_failed ≡ false;
  write_failed : l.watch.write_failed ≡ false;
}
