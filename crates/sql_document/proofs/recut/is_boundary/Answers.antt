use Rattle.std.proofs.Common.{◌≡◌, ◌∙◌, suc, ◌+◌, ◌<◌, ◌≤◌, ◌∷◌, [], ◌++◌, length, drop, take, arith, ap, sym, subst, rules, length-append, take-suc}
use Rattle.std.specs.Prelude.{IsCharBoundary, string_bytes}
use Rattle.sql_document.specs.Pieces.{text_of}
use Rattle.sql_document.proofs.Boundaries.{of_piece, of_text}
use Rattle.sql_document.proofs.Edits.{text_append}
use Rattle.sql_document.proofs.Grows.{drop-at}
use Rattle.sql_document.proofs.recut.is_boundary.Goals as goal

pub returns-then-left-len : goal.returns-then-left-len
returns-then-left-len g c =
    let pieces = c.args.pieces.now in
    let i = c.loop-piece.piece-index in
    let left = c.loop-piece.left in
    let piece = c.piece-item.result in
    let within : i < length pieces = search rules in
    let there : drop i pieces ≡ piece ∷ drop (suc i) pieces = drop-at i pieces piece within ∙ ap (λ p. p ∷ drop (suc i) pieces) (sym c.piece-item.is) in
    let at : length (text_of (take i pieces)) + left ≡ c.args.place = c.loop-piece.invariant.at in
    let lt : left < length (string_bytes piece.text) = search rules in (
      λ yes. subst (IsCharBoundary (text_of pieces)) at (of_text pieces i piece there left lt (search rules)),
      λ boundary. let is : IsCharBoundary (string_bytes piece.text) left = of_piece pieces i piece there left lt (subst (IsCharBoundary (text_of pieces)) (sym at) boundary) in search rules,
    )

pub loop-piece-preserved : goal.loop-piece-preserved
loop-piece-preserved g c =
    let pieces = c.args.pieces.now in
    let i = c.loop-piece.piece-index in
    let piece = c.piece-item.result in
    let within : i < length pieces = search rules in
    let next : i + 1 ≡ suc i = omega arith in
    let more : take (i + 1) pieces ≡ take i pieces ++ piece ∷ [] = ap (λ n. take n pieces) next ∙ (take-suc pieces i piece within ∙ ap (λ p. take i pieces ++ p ∷ []) (search rules)) in
    let size : c.len-left.result ≡ length (string_bytes piece.text) = search rules in
    let past : length (string_bytes piece.text) ≤ c.loop-piece.left = search rules in
    record {
      at = omega (arith, size, past, c.loop-piece.invariant.at, ap (λ ps. length (text_of ps)) more, ap length (text_append (take i pieces) (piece ∷ [])), length-append (text_of (take i pieces)) (text_of (piece ∷ [])), length-append (string_bytes piece.text) []);
    }
