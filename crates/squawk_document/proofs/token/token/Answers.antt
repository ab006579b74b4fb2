use Rattle.std.proofs.Common.{rules}
use Rattle.squawk_document.proofs.WrittenTokens.{token-unwritten, token-written}
use Rattle.squawk_document.proofs.token.token.Goals as goal

pub returns-clause-written : goal.returns-clause-written
returns-clause-written c = token-written _ _ (search rules)

pub returns-clause-unwritten : goal.returns-clause-unwritten
returns-clause-unwritten c = token-unwritten _ _ (search rules)
