use Rattle.std.proofs.Common.{arith, rules, ◌≡◌, ◌+◌, get_or, length, subst, sym, take}
use Rattle.std.proofs.lemmas.List.{length-take-le, take_more}
use Rattle.sql_trim.proofs.Blanks.{EndLines, lines_all, lines_feed, lines_other, lines_read}
use Rattle.sql_trim.proofs.trim.lines_len.Goals as goal
use Rattle.sql_trim.proofs.trim.lines_len.Goals.{then-byte-eq10, else-byte-eq10}

pub loop-index-preserved : goal.loop-index-preserved
loop-index-preserved c =
    let all = c.args.white_space.now in
    let i = c.loop-index.index in
    let byte = get_or all i 0 in
    let is = take_more all i 0 (omega arith) in
    let long : length (take i all) ≡ i = length-take-le i all (omega arith) in
    elim c.if-byte-eq10.branch [
      | then-byte-eq10 w ↦ subst (λ n. EndLines all n (i + 1)) (sym w.len-is) (lines_feed c.loop-index.invariant byte is long (search rules))
      | else-byte-eq10 w ↦ subst (λ n. EndLines all n (i + 1)) (sym w.len-is) (lines_other c.loop-index.invariant byte is long (search rules))
    ]

pub returns-then-ends_line-clause-trimmed : goal.returns-then-ends_line-clause-trimmed
returns-then-ends_line-clause-trimmed c = rw c.if-ends_line.true (lines_all c.args.white_space.now)

pub returns-clause-trimmed : goal.returns-clause-trimmed
returns-clause-trimmed c =
    rw c.if-ends_line.false (lines_read c.args.white_space.now c.loop-index.len c.loop-index.index c.loop-index.invariant c.loop-index-test.false)
