use Rattle.std.proofs.Common.{◌≡◌, ◌∙◌, suc, ◌+◌, ◌∷◌, [], ◌++◌, length, take, arith, ap, sym, subst, rules, length-append, take-suc}
use Rattle.std.specs.Prelude.{string_bytes}
use Rattle.sql_document.specs.Pieces.{text_of}
use Rattle.sql_document.specs.Recuts.{IsBefore, StandBefore}
use Rattle.sql_document.proofs.Edits.{before_more, text_append}
use Rattle.sql_document.proofs.recut.first_piece.Goals as goal

pub overflow_add-start : goal.overflow_add-start
overflow_add-start g c =
    let piece = c.index-pieces-index.result in
    let told : IsBefore c.loop-index.start piece c.args.place = c.is_before.ensures (search rules) in
    let size : c.len-start.result ≡ length (string_bytes piece.text) = search rules in
    omega (arith, told.2, size, c.ranges.place.fits)

pub loop-index-preserved : goal.loop-index-preserved
loop-index-preserved g c =
    let loop = c.loop-index.invariant in
    let pieces = c.args.pieces.now in
    let i = c.loop-index.index in
    let piece = c.index-pieces-index.result in
    let told : IsBefore c.loop-index.start piece c.args.place = c.is_before.ensures (search rules) in
    let next : i + 1 ≡ suc i = omega arith in
    let more : take (i + 1) pieces ≡ take i pieces ++ piece ∷ [] = ap (λ n. take n pieces) next ∙ (take-suc pieces i piece loop.within ∙ ap (λ p. take i pieces ++ p ∷ []) (sym c.index-pieces-index.is)) in
    let size : c.len-start.result ≡ length (string_bytes piece.text) = search rules in
    let begin : c.loop-index.start ≡ 0 + length (text_of (take i pieces)) = omega (arith, loop.start) in
    record {
      within = search rules;
      start = omega (arith, size, loop.start, ap (λ ps. length (text_of ps)) more, ap length (text_append (take i pieces) (piece ∷ [])), length-append (text_of (take i pieces)) (text_of (piece ∷ [])), length-append (string_bytes piece.text) []);
      before = subst (λ ps. StandBefore 0 ps c.args.place) (sym more) (before_more 0 c.args.place (take i pieces) piece loop.before (subst (λ n. IsBefore n piece c.args.place) begin told));
    }
