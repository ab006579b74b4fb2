use Rattle.std.proofs.Common.{◌≡◌, ◌+◌, ◌≤◌, ◌++◌, length, take, vec_len, vec_capacity}
use Rattle.squawk_kinds.specs.EngineNames.{names_of}
use Rattle.sql_words.specs.SqlKinds.{keyword_names, names_in}
use Rattle.sql_words.proofs.kind_names.names.Given as goal

abbrev pub invariant-loop-row : goal.invariant-loop-row
invariant-loop-row l = record {
  own : names_of l.own.items ≡ keyword_names ++ names_in (take l.row-index l.nodes);
  room : vec_len l.initial.own + length l.nodes ≤ vec_capacity l.own;
  len : vec_len l.own ≡ vec_len l.initial.own + l.row-index;
}
