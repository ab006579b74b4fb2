use Rattle.std.proofs.Common.{◌≡◌, ◌≢◌, arith}
use Rattle.squawk_kinds.specs.Kinds.{EOF}
use Rattle.squawk_parser.specs.State.{kind_at}
use Rattle.tiny_grammar.proofs.Tail.{eating-all, eating-next}
use Rattle.tiny_grammar.proofs.tiny.rest.Goals as goal

pub loop-p-preserved : goal.loop-p-preserved
loop-p-preserved c =
    let some : kind_at c.loop-p.p 0 ≢ EOF = grind arith in
    eating-next some c.err_and_bump.ensures.puts c.loop-p.invariant

pub returns-clause-puts : goal.returns-clause-puts
returns-clause-puts c =
    let end : kind_at c.loop-p.p 0 ≡ EOF = grind arith in
    eating-all c.loop-p.invariant end
