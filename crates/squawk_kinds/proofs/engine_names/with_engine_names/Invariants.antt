use Rattle.std.proofs.Common.{◌≡◌, ◌+◌, length, take, vec_len, vec_capacity}
use Rattle.squawk_kinds.specs.EngineNames.{names_in, names_of}
use Rattle.squawk_kinds.proofs.engine_names.with_engine_names.Given as goal

abbrev pub invariant-loop-named : goal.invariant-loop-named
invariant-loop-named l = record {
  names : names_of l.names.items ≡ names_in (take l.named-index l.kinds);
  room : vec_capacity l.names ≡ length l.kinds + length l.own;
  len : vec_len l.names ≡ l.named-index;
}
