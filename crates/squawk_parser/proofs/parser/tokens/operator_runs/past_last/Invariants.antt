use Rattle.std.specs.Prelude.{vec_len, vec_capacity}
use Rattle.std.proofs.Common.{◌≡◌, length}
use Rattle.squawk_parser.specs.Operators.{is_special}
use Rattle.squawk_parser.specs.OperatorRuns.{ArePastLast, IsPastLast, is_no_sign}
use Rattle.squawk_parser.proofs.parser.tokens.operator_runs.past_last.Given as goal

-- the indices past the last ones for each token so far, and for all of these
abbrev pub invariant-loop-i : goal.invariant-loop-i
invariant-loop-i l = record {
  special : IsPastLast is_special l.input l.i l.past_special;
  other : IsPastLast is_no_sign l.input l.i l.past_other;
  specials : ArePastLast is_special l.input l.i l.past_specials.items;
  others : ArePastLast is_no_sign l.input l.i l.past_others.items;
  specials_len : vec_len l.past_specials ≡ l.i;
  others_len : vec_len l.past_others ≡ l.i;
  specials_room : vec_capacity l.past_specials ≡ length l.input;
  others_room : vec_capacity l.past_others ≡ length l.input;
}
