use Rattle.std.proofs.Common.{◌≡◌, ◌∙◌, ◌+◌, ◌<◌, suc, ◌∷◌, ◌++◌, length, drop, ap, sym, subst, rules}
use Rattle.std.specs.Prelude.{string_bytes}
use Rattle.sql_document.specs.Recuts.{Grows}
use Rattle.sql_document.proofs.Grows.{drop-at, grows_next}
use Rattle.sql_document.proofs.recut.pull.Goals as goal

pub loop-last-preserved : goal.loop-last-preserved
loop-last-preserved g c =
    let before = c.loop-last.invariant in
    let old = c.args.old.now in
    let piece = c.index-old-last.result in
    let lt : c.loop-last.last < length old = search rules in
    let there : drop c.loop-last.last old ≡ piece ∷ drop (suc c.loop-last.last) old =
    drop-at c.loop-last.last old piece lt ∙ ap (λ p. p ∷ drop (suc c.loop-last.last) old) (sym c.index-old-last.is) in
    let text : string_bytes c.push_str.new.self ≡ string_bytes c.loop-last.text ++ string_bytes piece.text = search rules in
    record {
      some = before.some;
      grows = subst (λ now. Grows old (string_bytes c.args.text.now) now c.args.from (c.loop-last.last + 1)) (sym text)
          (grows_next old (string_bytes c.args.text.now) (string_bytes c.loop-last.text) c.args.from c.loop-last.last piece before.grows there lt);
    }
