use Rattle.std.proofs.Common.{Ok, arith}
use Rattle.std.proofs.lemmas.Grind.{common_steps}
use Rattle.squawk_document.proofs.WrittenTokens.{tokens-unwritten, tokens-written}
use Rattle.squawk_document.proofs.token.tokens.Goals as goal

pub returns-in_err-token-clause-unwritten : goal.returns-in_err-token-clause-unwritten
returns-in_err-token-clause-unwritten c = tokens-unwritten _ c.from_residual-in_err-token.result (grind (arith, common_steps))

pub returns-clause-written : goal.returns-clause-written
returns-clause-written c = tokens-written _ (Ok c.loop-item.tokens) (grind (arith, common_steps))
