use Rattle.std.proofs.Common.{◌≡◌, ◌∙◌, ◌+◌, ◌≤◌, true, length, slice_index, arith, ap, sym, refl}
use Rattle.std.proofs.lemmas.Bool.{true≢false}
use Rattle.squawk_kinds.specs.Kinds.{is_trivia}
use Rattle.squawk_table.proofs.FrontTokens.{HasNoTrivia-kinds, kinds-HasNoTrivia}
use Rattle.squawk_table.proofs.lexed_str.LexedStr.one_token.Goals as goal

pub returns-then-is_trivia : goal.returns-then-is_trivia
returns-then-is_trivia c = λ found.
    let t = c.args.self.now in
    let trivia : is_trivia (slice_index t.kinds c.loop-i.i) ≡ true = sym (c.is_trivia.ensures ∙ ap is_trivia c.kind.ensures) ∙ c.if-is_trivia.true in
    true≢false (sym trivia ∙ kinds-HasNoTrivia t c.args.n c.args.raw found.2 found.0 c.loop-i.i (omega arith) (omega arith))

pub returns : goal.returns
returns c =
    let t = c.args.self.now in
    let room : c.args.raw + c.args.n ≤ length t.kinds = omega arith in
    ((HasNoTrivia-kinds t c.args.n c.args.raw room (λ k ge lt. c.loop-i.invariant k ge (omega arith)), omega arith, room), refl)
