use Rattle.std.proofs.Common.{◌≡◌, ◌++◌, drop}
use Rattle.squawk_tokens.specs.AcceptedTokens.{start_of}
use Rattle.sql_grammar.specs.StrayStrings.{stray_strings}
use Rattle.sql_grammar.specs.StringStates.{strays_from}
use Rattle.sql_grammar.proofs.strings.stray_strings.Given as goal

abbrev pub invariant-loop-token : goal.invariant-loop-token
invariant-loop-token l = record {
  sum : l.at ≡ start_of l.tokens l.token-index;
  is : l.strays.items ++ strays_from l.before l.text l.at (drop l.token-index l.tokens) ≡ stray_strings l.text l.tokens;
}
