use Rattle.std.proofs.Common.{◌≡◌, ◌∙◌, suc, ◌+◌, ◌<◌, ◌∷◌, [], ◌++◌, length, take, arith, ap, sym, rules, take-suc}
use Rattle.std.specs.Prelude.{string_bytes}
use Rattle.std.proofs.lemmas.List.{append-nil}
use Rattle.sql_document.specs.Pieces.{text_of}
use Rattle.sql_document.proofs.Edits.{text_append}
use Rattle.sql_document.proofs.document.Document.text.Goals as goal

pub loop-piece-preserved : goal.loop-piece-preserved
loop-piece-preserved g c =
    let pieces = c.args.self.now.1 in
    let i = c.loop-piece.piece-index in
    let piece = c.piece-item.result in
    let within : i < length pieces = search rules in
    let next : i + 1 ≡ suc i = omega arith in
    let more : take (i + 1) pieces ≡ take i pieces ++ piece ∷ [] = ap (λ n. take n pieces) next ∙ (take-suc pieces i piece within ∙ ap (λ p. take i pieces ++ p ∷ []) (search rules)) in
    let pushed : string_bytes c.push_str.new.self ≡ string_bytes c.loop-piece.text ++ string_bytes piece.text = search rules in
    record {
      told = pushed
          ∙ (ap (λ xs. xs ++ string_bytes piece.text) c.loop-piece.invariant.told
          ∙ (ap (λ xs. text_of (take i pieces) ++ xs) (sym (append-nil (string_bytes piece.text))) ∙ (sym (text_append (take i pieces) (piece ∷ [])) ∙ ap text_of (sym more))));
    }
