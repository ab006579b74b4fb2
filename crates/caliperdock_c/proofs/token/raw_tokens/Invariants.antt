use Rattle.std.specs.Prelude.{vec_len, vec_capacity}
use Rattle.std.proofs.Common.{◌≡◌, ◌≤◌, Some, length, map, take}
use Rattle.caliperdock_c.specs.Tokens.{token_of}
use Rattle.caliperdock_c.proofs.token.raw_tokens.Given as goal

abbrev pub invariant-loop-index : goal.invariant-loop-index
invariant-loop-index l = record {
  len : vec_len l.all ≡ l.index;
  room : length l.tokens ≤ vec_capacity l.all;
  read : map Some l.all.items ≡ map token_of (take l.index l.tokens);
}
