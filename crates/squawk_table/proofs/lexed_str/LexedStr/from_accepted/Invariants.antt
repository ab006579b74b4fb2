use Rattle.std.specs.Prelude.{vec_len, vec_capacity}
use Rattle.std.proofs.Common.{◌≤◌, length, ◌≡◌, ◌++◌, drop, take}
use Rattle.squawk_tokens.specs.AcceptedTokens.{start_of}
use Rattle.squawk_tokens.specs.Conversion.{HasRead}
use Rattle.squawk_table.specs.RawTable.{kinds_from, starts_from}
use Rattle.squawk_table.proofs.lexed_str.LexedStr.from_accepted.Given as goal

abbrev pub invariant-loop-token : goal.invariant-loop-token
invariant-loop-token g l = record {
  sum : l.at ≡ start_of l.tokens l.token-index;
  text : l.converter.text ≡ l.text;
  read : HasRead (take l.token-index l.tokens) l.converter;
  kinds : l.kinds.items ++ kinds_from (g.V.Vocabulary.keyword l.vocabulary) l.text l.at (drop l.token-index l.tokens)
      ≡ kinds_from (g.V.Vocabulary.keyword l.vocabulary) l.text 0 l.tokens;
  kinds_len : vec_len l.kinds ≡ l.token-index;
  kinds_room : vec_capacity l.kinds ≡ length l.tokens;
  starts_len : vec_len l.starts ≡ l.token-index;
  starts_room : length l.tokens ≤ vec_capacity l.starts;
  starts : l.starts.items ++ starts_from l.at (drop l.token-index l.tokens) ≡ starts_from 0 l.tokens;
}
