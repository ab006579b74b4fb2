use Rattle.std.proofs.Common.{◌≡◌, ◌≢◌, ◌<◌, arith}
use Rattle.squawk_kinds.specs.Kinds.{EOF}
use Rattle.squawk_parser.specs.State.{kind_at}
use Rattle.list_grammar.proofs.DeepLists.{closing-all, closing-next}
use Rattle.list_grammar.proofs.up_to_close.Goals as goal

pub loop-unclosed-preserved : goal.loop-unclosed-preserved
loop-unclosed-preserved c =
    let some : 0 < c.loop-unclosed.unclosed = grind arith in
    let going : kind_at c.loop-unclosed.p 0 ≢ EOF = grind arith in
    closing-next c.current-kind.result some going c.current-kind.ensures c.unclosed_behind-unclosed.ensures c.bump_any.ensures.puts c.loop-unclosed.invariant

-- the loop has ended where the parser sees the end
pub returns-else-ne : goal.returns-else-ne
returns-else-ne c =
    let end : kind_at c.loop-unclosed.p 0 ≡ EOF = grind arith in
    closing-all (λ some. end) c.loop-unclosed.invariant
