use Rattle.std.proofs.Common.{◌≡◌, ◌∙◌, ◌+◌, ◌<◌, ◌≤◌, ◌||◌, ◌⊎◌, inl, inr, false, true, length, arith, rules, subst, sym}
use Rattle.std.proofs.lemmas.Bool.{leb-false, leb-true}
use Rattle.sql_grammar.specs.CutParts.{CutsInScript}
use Rattle.sql_grammar.specs.ReadParts.{can_end_part}
use Rattle.sql_grammar.proofs.parts.CutLoop.{IsCutting, by_left, by_neither, at_front, by_right, ends_front, goes_by, kept_here, part_of}
use Rattle.sql_grammar.proofs.script_parts.cut_part.Goals as goal
use Rattle.sql_grammar.proofs.script_parts.cut_part.Goals.{else-count-eq0-via-else-count-eq0, else-count-eq0-via-then-count-eq0+else-not-is_last, else-loop-cut-test, then-is_last-via-else-is_last+then-can_end_part, then-is_last-via-then-is_last, then-loop-cut-test+else-not-is_at_end}

pub loop-cut-preserved-in-loop-cut : goal.loop-cut-preserved-in-loop-cut
loop-cut-preserved-in-loop-cut c =
    let now = c.loop-cut.cut in
    let new = c.next_statement.new.self in
    let more = c.next_statement.new.tokens.items in
    let left : now.at < length now.text = leb-false (length now.text) now.at (sym c.is_at_end.ensures.is ∙ c.if-not-is_at_end.true) in
    let keeps : (c.args.is_last || can_end_part new) ≡ true =
    elim c.then-is_last.branch [
      | then-is_last-via-then-is_last w ↦ by_left c.args.is_last (can_end_part new) w.if-is_last.true
      | then-is_last-via-else-is_last+then-can_end_part w ↦ by_right c.args.is_last (can_end_part new) (sym w.can_end_part.ensures ∙ w.if-can_end_part.true)
    ] in
    let size : length more ≡ c.len-count.result = search rules in
    let kept = kept_here c.args.is_last c.args.lexer.now now c.loop-cut.end new c.loop-cut.tokens.items more c.loop-cut.count c.loop-cut.invariant.cutting left
    c.next_statement.ensures.text c.in_ok-next_statement.ensures.cuts c.in_ok-next_statement.ensures.longer keeps in
    record {
      cutting = subst (λ n. IsCutting c.args.is_last c.args.lexer.now new c.fork-end-then-is_last.result more n) size
          (subst (λ l. IsCutting c.args.is_last c.args.lexer.now new l more (length more)) (sym c.fork-end-then-is_last.ensures) kept);
    }

pub loop-cut-preserved : goal.loop-cut-preserved
loop-cut-preserved c =
    let now = c.loop-cut.cut in
    let new = c.next_statement.new.self in
    let left : now.at < length now.text = leb-false (length now.text) now.at (sym c.is_at_end.ensures.is ∙ c.if-not-is_at_end.true) in
    record {
      cutting = goes_by c.args.is_last c.args.lexer.now now c.loop-cut.end new c.loop-cut.tokens.items c.next_statement.new.tokens.items c.loop-cut.count
          c.loop-cut.invariant.cutting left c.next_statement.ensures.text c.in_ok-next_statement.ensures.cuts c.in_ok-next_statement.ensures.longer
          (by_neither c.args.is_last (can_end_part new) c.if-is_last.false (sym c.can_end_part.ensures ∙ c.if-can_end_part.false));
    }

pub returns-then-not-is_last : goal.returns-then-not-is_last
returns-then-not-is_last c =
    let now = c.loop-cut.cut in
    let cutting = c.loop-cut.invariant.cutting in
    let last : c.args.is_last ≡ false = c.if-not-is_last.true in
    let none : c.loop-cut.count ≡ 0 = c.if-count-eq0.true in
    let front = at_front c.args.is_last c.args.lexer.now now c.loop-cut.end c.loop-cut.tokens.items c.loop-cut.count cutting none in
    let at_end : length now.text ≤ now.at =
    elim c.loop-cut-test.branch [
      | then-loop-cut-test+else-not-is_at_end w ↦ leb-true (length now.text) now.at (sym w.is_at_end.ensures.is ∙ w.if-not-is_at_end.false)
      | else-loop-cut-test w ↦
          absurd (omega (arith, w.loop-cut-test.false, front, c.position-in-loop-cut.ensures.is, c.position.ensures.is, c.position.ensures.small, c.saturating_add-enough.ensures, c.max.ensures))
    ] in
    record {
      cuts = (last, ends_front c.args.is_last c.args.lexer.now now c.loop-cut.end c.loop-cut.tokens.items c.loop-cut.count cutting at_end last none);
    }

pub returns : goal.returns
returns c =
    let now = c.loop-cut.cut in
    let old = c.args.lexer.now in
    let kept = c.loop-cut.end in
    let enough : ((old.at + c.args.least ≤ kept.at) × (old.at < kept.at)) ⊎ (length now.text ≤ now.at) =
    elim c.loop-cut-test.branch [
      | then-loop-cut-test+else-not-is_at_end w ↦ inr (leb-true (length now.text) now.at (sym w.is_at_end.ensures.is ∙ w.if-not-is_at_end.false))
      | else-loop-cut-test w ↦
          let facts : (old.at + c.args.least ≤ kept.at) × (old.at < kept.at) = (
            omega (arith, w.loop-cut-test.false, c.position-in-loop-cut.ensures.is, c.position-in-loop-cut.ensures.small, c.position.ensures.is, c.saturating_add-enough.ensures, c.max.ensures),
            omega (arith, w.loop-cut-test.false, c.position-in-loop-cut.ensures.is, c.position-in-loop-cut.ensures.small, c.position.ensures.is, c.saturating_add-enough.ensures, c.max.ensures),
          ) in
          inl facts
    ] in
    let some : (0 < c.loop-cut.count) ⊎ (c.args.is_last ≡ true) =
    elim c.else-count-eq0.branch [
      | else-count-eq0-via-then-count-eq0+else-not-is_last w ↦ inr w.if-not-is_last.false
      | else-count-eq0-via-else-count-eq0 w ↦ inl (omega (arith, w.if-count-eq0.false))
    ] in
    record {
      cuts = subst (CutsInScript c.args.least c.args.is_last old kept) (sym c.truncate.ensures.items)
          (part_of c.args.least c.args.is_last old now kept c.loop-cut.tokens.items c.loop-cut.count c.loop-cut.invariant.cutting some enough);
    }
