use Rattle.std.proofs.Common.{◌<◌, ◌≤◌, ◌+◌, length, arith}
use Rattle.sql_lexer.proofs.TextTokens.{text_stepped}
use Rattle.sql_lexer.proofs.tokenizer.tokenize.Goals as goal

pub overflow_add-at : goal.overflow_add-at
overflow_add-at c =
    let text = c.as_bytes-bytes.result.now in
    let within : c.loop-at.at + c.in_ok-token.token.len ≤ length text =
    (text_stepped text c.loop-at.at c.loop-at.tokens.items c.push_first.new.tokens.items c.in_ok-token.token c.loop-at.invariant c.loop-at-test.true c.in_ok-token.ensures).within in
    omega (arith, within)

pub loop-at-smaller : goal.loop-at-smaller
loop-at-smaller c =
    let some : 0 < c.in_ok-token.token.len =
    (text_stepped c.as_bytes-bytes.result.now c.loop-at.at c.loop-at.tokens.items c.push_first.new.tokens.items c.in_ok-token.token c.loop-at.invariant c.loop-at-test.true c.in_ok-token.ensures).some in
    omega (arith, some)

pub loop-at-preserved : goal.loop-at-preserved
loop-at-preserved c =
    (text_stepped c.as_bytes-bytes.result.now c.loop-at.at c.loop-at.tokens.items c.push_first.new.tokens.items c.in_ok-token.token c.loop-at.invariant c.loop-at-test.true c.in_ok-token.ensures).has
