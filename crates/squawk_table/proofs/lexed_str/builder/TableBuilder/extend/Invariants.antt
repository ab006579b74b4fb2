use Rattle.std.proofs.Common.{◌≡◌, ◌+◌, List, ◌++◌, take}
use Rattle.squawk_tokens.specs.AcceptedTokens.{start_of}
use Rattle.squawk_tokens.specs.declared.token.Token.{Token}
use Rattle.squawk_table.specs.TableBuilding.{HasAdded}
use Rattle.squawk_table.proofs.lexed_str.builder.TableBuilder.extend.Given as goal

abbrev pub invariant-loop-token : goal.invariant-loop-token
invariant-loop-token g l = record {
  text : l.self.text ≡ l.initial.self.text;
  at : l.self.at ≡ l.initial.self.at + start_of l.tokens l.token-index;
  added : (earlier : List Token) → HasAdded (g.V.Vocabulary.keyword l.vocabulary) earlier l.initial.self
      → HasAdded (g.V.Vocabulary.keyword l.vocabulary) (earlier ++ take l.token-index l.tokens) l.self;
}
