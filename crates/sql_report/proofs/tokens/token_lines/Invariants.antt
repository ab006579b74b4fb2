use Rattle.std.proofs.Common.{◌≡◌, ◌++◌, drop, take, string_bytes}
use Rattle.std.specs.List.{sum_by}
use Rattle.sql_report.specs.TokenLines.{token_lines}
use Rattle.sql_report.proofs.tokens.token_lines.Given as goal

abbrev pub invariant-loop-token : goal.invariant-loop-token
invariant-loop-token l = record {
  start : l.start ≡ sum_by (λ token. token.len) (take l.token-index l.tokens);
  text : string_bytes l.lines ++ token_lines l.start (drop l.token-index l.tokens) ≡ token_lines 0 l.tokens;
}
