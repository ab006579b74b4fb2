use Rattle.std.proofs.Common.{◌≡◌, ◌<◌, ◌≤◌, ◌+◌, ◌∙◌, ◌&&◌, ◌++◌, Bool, not, length, slice_index, set, take, sym, ap, arith, subst, length-set}
use Rattle.squawk_kinds.specs.Kinds.{is_trivia}
use Rattle.squawk_table.specs.InputView.{entries_in}
use Rattle.squawk_table.specs.ParserInput.{HasNoEndToken, entries_of, input_of}
use Rattle.squawk_table.specs.RawTable.{raw_after, raw_tokens}
use Rattle.squawk_table.specs.Shape.{IsOver, no_keywords}
use Rattle.squawk_table.proofs.InputSoFar.{within_next, unset_next, entries_next, entries_end, followed_at}
use Rattle.squawk_table.proofs.NoEnd.{input-no_end}
use Rattle.squawk_table.proofs.OverTable.{IsOver-keywords}
use Rattle.std.proofs.lemmas.List.{length-take}
use Rattle.squawk_table.proofs.lexed_str.LexedStr.to_input.Given.{Over}
use Rattle.squawk_table.proofs.lexed_str.LexedStr.to_input.Goals as goal

pub loop-i-preserved : goal.loop-i-preserved
loop-i-preserved g c =
    let contextual = g.V.Vocabulary.contextual_keyword c.args.vocabulary.now in
    let t = c.args.self.now in
    let loop = c.loop-i in
    let before = loop.invariant in
    let lt : loop.i < length t.kinds = omega arith in
    let trivia : is_trivia (slice_index t.kinds loop.i) ≡ c.is_trivia-is_token.result =
    sym (ap is_trivia c.kind-kind.ensures) ∙ sym c.is_trivia-is_token.ensures in
    let in_joints : loop.last < length loop.joints = omega (arith, before.joints, before.within, before.next) in
    let joints = set loop.joints loop.last (loop.was_token && not c.is_trivia-is_token.result) in
    let many : length joints ≡ length t.kinds = length-set loop.joints loop.last _ ∙ before.joints in
    let settled = subst
    (λ (followed : Bool). entries_in (take loop.count loop.kinds.items) (take loop.count loop.contextual_kinds.items) (take loop.count (set loop.joints loop.last (loop.was_token && followed)))
    ++ entries_of contextual (raw_after t loop.i) ≡ input_of contextual t)
    (followed_at t loop.i c.is_trivia-is_token.result lt trivia) before.done in
    record {
      done = rw (c.set.ensures, c.from-count.ensures, c.kind-kind.ensures, c.contextual_kind-contextual_kind.ensures)
          (entries_next contextual t loop.i loop.kinds.items loop.contextual_kinds.items joints _ lt loop.count (omega (arith, before.kinds, before.within)) (omega (arith, before.contextual_kinds, before.within)) (omega (arith, many, before.within))
          c.is_trivia-is_token.result trivia settled);
      next = ap (λ n. loop.count + n) c.from-count.ensures;
      within = rw c.from-count.ensures (within_next loop.count loop.i c.is_trivia-is_token.result before.within);
      kinds = length-set loop.kinds.items loop.count c.kind-kind.result ∙ before.kinds;
      contextual_kinds = length-set loop.contextual_kinds.items loop.count c.contextual_kind-contextual_kind.result ∙ before.contextual_kinds;
      joints = ap length c.set.ensures ∙ many;
      unset = rw c.set.ensures (λ k le. unset_next loop.joints loop.last loop.was_token _ in_joints before.unset k (subst (λ n. n ≤ k) before.next le));
    }

-- what was written is the input of the table
written : (g : Over) (c : goal.After-truncate-3 g) → let loop = c.loop-i in
    entries_in (take loop.count loop.kinds.items) (take loop.count loop.contextual_kinds.items) (take loop.count loop.joints)
    ≡ input_of (g.V.Vocabulary.contextual_keyword c.args.vocabulary.now) c.args.self.now
written g c =
    let loop = c.loop-i in
    entries_end (g.V.Vocabulary.contextual_keyword c.args.vocabulary.now) c.args.self.now loop.i loop.kinds.items loop.contextual_kinds.items loop.joints _ loop.count loop.last loop.was_token (omega arith)
    (loop.invariant.unset loop.last (omega arith)) loop.invariant.done

pub invariant_of-result : goal.invariant_of-result
invariant_of-result g c =
    let loop = c.loop-i in
    let before = loop.invariant in
    rw (c.truncate.ensures.items, c.truncate-2.ensures.items, c.truncate-3.ensures) (
      record {
        contextual = omega (arith, length-take loop.count loop.contextual_kinds.items, length-take loop.count loop.kinds.items, before.kinds, before.contextual_kinds);
        joint = omega (arith, length-take loop.count loop.joints, length-take loop.count loop.kinds.items, before.kinds, before.joints);
      },
      subst HasNoEndToken (sym (written g c)) (input-no_end (g.V.Vocabulary.contextual_keyword c.args.vocabulary.now) c.args.self.now c.len-len.ensures.table.no_end),
    )

pub returns : goal.returns
returns g c =
    let t = c.args.self.now in
    let all = written g c in
    rw (c.truncate.ensures.items, c.truncate-2.ensures.items, c.truncate-3.ensures)
    (record {
      input = all;
      over = λ steps over. IsOver-keywords (g.V.Vocabulary.contextual_keyword c.args.vocabulary.now) no_keywords steps (raw_tokens t) (subst (IsOver steps) all over);
    })
