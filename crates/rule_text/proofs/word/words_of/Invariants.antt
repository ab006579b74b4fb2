use Rattle.std.proofs.Common.{◌≡◌, IsCharBoundary}
use Rattle.squawk_tokens.specs.AcceptedTokens.{start_of}
use Rattle.rule_text.specs.Words.{AreWords}
use Rattle.rule_text.proofs.word.words_of.Given as goal

abbrev pub invariant-loop-token : goal.invariant-loop-token
invariant-loop-token l = record {
  at : l.at ≡ start_of l.tokens l.token-index;
  boundary : IsCharBoundary l.text l.at;
  words : AreWords l.text l.tokens l.token-index l.words.items;
}
