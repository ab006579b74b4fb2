use Rattle.std.proofs.Common.{◌≡◌, ◌∙◌, ◌-◌, ◌≤◌, length, drop, take, arith, ap, sym, subst, rules, length-drop, take_all}
use Rattle.std.specs.Prelude.{IsCharBoundary}
use Rattle.sql_document.specs.Pieces.{IsRange, text_of}
use Rattle.sql_document.proofs.Boundaries.{from_first, to_first}
use Rattle.sql_document.proofs.Edits.{before_within}
use Rattle.sql_document.proofs.document.Document.find.Goals as goal
use Rattle.sql_document.proofs.document.Document.find.Goals.{then-not-is_boundary-via-then-not-is_boundary, then-not-is_boundary-via-else-not-is_boundary+then-not-is_boundary-2}

pub overflow_sub-low : goal.overflow_sub-low
overflow_sub-low g c =
    let pieces = c.self.inside.pieces.items in
    let at : c.deref.result.now ≡ pieces = c.deref.ensures.value in
    let first = c.first_piece-first.result.0 in
    omega (
      arith,
      c.first_piece-first.ensures.start,
      before_within c.args.range.now.start (take first c.deref.result.now) c.first_piece-first.ensures.before,
    )

pub overflow_sub-high : goal.overflow_sub-high
overflow_sub-high g c =
    let order : c.args.range.now.start ≤ c.args.range.now.end = search rules in
    let first = c.first_piece-first.result.0 in
    omega (
      arith,
      order,
      c.first_piece-first.ensures.start,
      before_within c.args.range.now.start (take first c.deref.result.now) c.first_piece-first.ensures.before,
    )

pub returns-then-not-is_boundary-clause-none : goal.returns-then-not-is_boundary-clause-none
returns-then-not-is_boundary-clause-none g c = λ _ range.
    let pieces = c.self.inside.pieces.items in
    let first = c.first_piece-first.result.0 in
    let start = c.first_piece-first.result.1 in
    let view : c.args.self.now.1 ≡ pieces = search rules in
    let at : c.deref.result.now ≡ pieces = c.deref.ensures.value in
    let again : c.deref-2.result.now ≡ pieces = c.deref-2.ensures.value in
    let begins : start ≡ length (text_of (take first pieces)) = c.first_piece-first.ensures.start ∙ ap (λ ps. length (text_of (take first ps))) at in
    let past : start ≤ c.args.range.now.start =
    omega (arith, c.first_piece-first.ensures.start, before_within c.args.range.now.start (take first c.deref.result.now) c.first_piece-first.ensures.before) in
    let here : IsRange c.args.range.now.start c.args.range.now.end (text_of pieces) = subst (λ ps. IsRange c.args.range.now.start c.args.range.now.end (text_of ps)) view range in
    let part : drop first pieces ≡ take (length c.deref-2.result.now - first) (drop first c.deref-2.result.now) =
    ap (drop first) (sym again) ∙ sym (take_all (length c.deref-2.result.now - first) (drop first c.deref-2.result.now) (omega (arith, length-drop first c.deref-2.result.now))) in
    let low : IsCharBoundary (text_of (take (length c.deref-2.result.now - first) (drop first c.deref-2.result.now))) (c.args.range.now.start - start) =
    subst (λ ps. IsCharBoundary (text_of ps) (c.args.range.now.start - start)) part (to_first pieces first start c.args.range.now.start begins past here.begins) in
    let high : IsCharBoundary (text_of (take (length c.deref-2.result.now - first) (drop first c.deref-2.result.now))) (c.args.range.now.end - start) =
    subst (λ ps. IsCharBoundary (text_of ps) (c.args.range.now.end - start)) part (to_first pieces first start c.args.range.now.end begins (omega (arith, past, here.order)) here.ends) in
    elim c.then-not-is_boundary.branch [
      | then-not-is_boundary-via-then-not-is_boundary w ↦ let is = c.is_boundary.ensures.1 low in let not = w.if-not-is_boundary in search rules
      | then-not-is_boundary-via-else-not-is_boundary+then-not-is_boundary-2 w ↦ let is = w.is_boundary-else-not-is_boundary.ensures.1 high in let not = w.if-not-is_boundary-2 in search rules
    ]

pub returns-clause-range : goal.returns-clause-range
returns-clause-range g c =
    let pieces = c.self.inside.pieces.items in
    let first = c.first_piece-first.result.0 in
    let start = c.first_piece-first.result.1 in
    let view : c.args.self.now.1 ≡ pieces = search rules in
    let at : c.deref.result.now ≡ pieces = c.deref.ensures.value in
    let again : c.deref-2.result.now ≡ pieces = c.deref-2.ensures.value in
    let begins : start ≡ length (text_of (take first pieces)) = c.first_piece-first.ensures.start ∙ ap (λ ps. length (text_of (take first ps))) at in
    let past : start ≤ c.args.range.now.start =
    omega (arith, c.first_piece-first.ensures.start, before_within c.args.range.now.start (take first c.deref.result.now) c.first_piece-first.ensures.before) in
    let order : c.args.range.now.start ≤ c.args.range.now.end = search rules in
    let part : take (length c.deref-2.result.now - first) (drop first c.deref-2.result.now) ≡ drop first pieces =
    take_all (length c.deref-2.result.now - first) (drop first c.deref-2.result.now) (omega (arith, length-drop first c.deref-2.result.now)) ∙ ap (drop first) again in
    let low : IsCharBoundary (text_of (take (length c.deref-2.result.now - first) (drop first c.deref-2.result.now))) (c.args.range.now.start - start) = c.is_boundary.ensures.0 (search rules) in
    let high : IsCharBoundary (text_of (take (length c.deref-2.result.now - first) (drop first c.deref-2.result.now))) (c.args.range.now.end - start) = c.is_boundary-else-not-is_boundary.ensures.0 (search rules) in
    subst (λ ps. IsRange c.args.range.now.start c.args.range.now.end (text_of ps)) (sym view)
    (record {
      order = order;
      begins = from_first pieces first start c.args.range.now.start begins past (subst (λ ps. IsCharBoundary (text_of ps) (c.args.range.now.start - start)) part low);
      ends = from_first pieces first start c.args.range.now.end begins (omega (arith, past, order)) (subst (λ ps. IsCharBoundary (text_of ps) (c.args.range.now.end - start)) part high);
    })
