use Rattle.std.proofs.Common.{◌≡◌, ◌∙◌, ℕ, List, refl, suc, ◌+◌, ◌-◌, ◌<◌, ◌≤◌, ◌⊎◌, Some, None, [], ◌∷◌, ◌++◌, length, drop, map, take, arith, ap, subst, sym, rules, length-append, length-drop, length-take}
use Rattle.std.specs.Prelude.{IsCharBoundary, string_bytes}
use Rattle.std.proofs.lemmas.Iterator.{items_from_drains}
use Rattle.std.proofs.lemmas.Iterator.Adapters.{YieldsList-from_vec}
use Rattle.std.proofs.lemmas.List.{map-id}
use Rattle.sql_lexer.specs.declared.script.script_place.ScriptPlace.TheVariants.{Front}
use Rattle.sql_document.specs.Held.{IsHeld}
use Rattle.sql_document.specs.Pieces.{AreChain, IsDocument, IsRange, edited, text_of}
use Rattle.sql_document.specs.Recuts.{AreTails, Grows, IsTouched}
use Rattle.sql_document.proofs.Boundaries.{joined}
use Rattle.sql_document.proofs.Documents.{document, is_held}
use Rattle.sql_document.proofs.Edits.{before_within, changed, edited_chain, now_is, past, reached, some_changed, tails}
use Rattle.sql_document.proofs.Refusals.{refused_in}
use Rattle.sql_document.specs.EditErrors.{RefusesText}
use Rattle.std.proofs.lemmas.List.{append-nil}
use Rattle.std.proofs.lemmas.Result.{err_from_is_err_and}
use Rattle.sql_document.proofs.Grows.{drop-at}
use Rattle.sql_document.proofs.document.Document.replace.Given.{Over}
use Rattle.sql_document.proofs.document.Document.replace.Goals as goal

pub overflow_sub-low : goal.overflow_sub-low
overflow_sub-low g c =
    omega (arith, c.requires.touched.begins, before_within c.args.range.start (take c.args.first c.args.self.now.1) c.requires.touched.before)

pub overflow_sub-high : goal.overflow_sub-high
overflow_sub-high g c =
    omega (arith, c.requires.range.order, c.requires.touched.begins, before_within c.args.range.start (take c.args.first c.args.self.now.1) c.requires.touched.before)

pub replace_range-requires-clause-in_bounds : goal.replace_range-requires-clause-in_bounds
replace_range-requires-clause-in_bounds g c =
    let me = c.self.inside in
    let pieces = me.pieces.items in
    let rs = c.args.range.start in
    let re = c.args.range.end in
    let first = c.args.first in
    let start = c.args.start in
    let view : c.args.self.now.1 ≡ pieces = search rules in
    let touched : IsTouched pieces rs first start = subst (λ ps. IsTouched ps rs first start) view c.requires.touched in
    let range : IsRange rs re (text_of pieces) = subst (λ ps. IsRange rs re (text_of ps)) view c.requires.range in
    let text = string_bytes c.pull.new.text in
    let last = c.in_ok-last.last in
    let grows : Grows pieces [] text first last =
    subst (λ xs. Grows pieces xs text first last) c.new-text.ensures.bytes (subst (λ ps. Grows ps (string_bytes c.new-text.result) text first last) c.deref.ensures.value c.in_ok-last.ensures.grows) in
    let reaches : (re - start ≤ length text) ⊎ (last ≡ length pieces) = subst (λ ps. (re - start ≤ length text) ⊎ (last ≡ length ps)) c.deref.ensures.value c.in_ok-last.ensures.reaches in
    let high : re - start ≤ length text = reached pieces rs re first start last text touched range grows reaches in
    let low : start ≤ rs = past pieces rs re first start last text touched range grows reaches in
    omega (arith, high, c.pull.new.text.bytes.ok.0)

pub replace_range-requires-clause-start_boundary : goal.replace_range-requires-clause-start_boundary
replace_range-requires-clause-start_boundary g c =
    let me = c.self.inside in
    let pieces = me.pieces.items in
    let rs = c.args.range.start in
    let re = c.args.range.end in
    let first = c.args.first in
    let start = c.args.start in
    let view : c.args.self.now.1 ≡ pieces = search rules in
    let touched : IsTouched pieces rs first start = subst (λ ps. IsTouched ps rs first start) view c.requires.touched in
    let range : IsRange rs re (text_of pieces) = subst (λ ps. IsRange rs re (text_of ps)) view c.requires.range in
    let text = string_bytes c.pull.new.text in
    let last = c.in_ok-last.last in
    let grows : Grows pieces [] text first last =
    subst (λ xs. Grows pieces xs text first last) c.new-text.ensures.bytes (subst (λ ps. Grows ps (string_bytes c.new-text.result) text first last) c.deref.ensures.value c.in_ok-last.ensures.grows) in
    let reaches : (re - start ≤ length text) ⊎ (last ≡ length pieces) = subst (λ ps. (re - start ≤ length text) ⊎ (last ≡ length ps)) c.deref.ensures.value c.in_ok-last.ensures.reaches in
    let high : re - start ≤ length text = reached pieces rs re first start last text touched range grows reaches in
    let low : start ≤ rs = past pieces rs re first start last text touched range grows reaches in
    let boundary : IsCharBoundary text (rs - start) = joined pieces first start rs touched.begins low last text grows (omega (arith, high, range.order)) range.begins in
    (boundary.0, λ some lt. boundary.1 lt)

pub replace_range-requires-clause-end_boundary : goal.replace_range-requires-clause-end_boundary
replace_range-requires-clause-end_boundary g c =
    let me = c.self.inside in
    let pieces = me.pieces.items in
    let rs = c.args.range.start in
    let re = c.args.range.end in
    let first = c.args.first in
    let start = c.args.start in
    let view : c.args.self.now.1 ≡ pieces = search rules in
    let touched : IsTouched pieces rs first start = subst (λ ps. IsTouched ps rs first start) view c.requires.touched in
    let range : IsRange rs re (text_of pieces) = subst (λ ps. IsRange rs re (text_of ps)) view c.requires.range in
    let text = string_bytes c.pull.new.text in
    let last = c.in_ok-last.last in
    let grows : Grows pieces [] text first last =
    subst (λ xs. Grows pieces xs text first last) c.new-text.ensures.bytes (subst (λ ps. Grows ps (string_bytes c.new-text.result) text first last) c.deref.ensures.value c.in_ok-last.ensures.grows) in
    let reaches : (re - start ≤ length text) ⊎ (last ≡ length pieces) = subst (λ ps. (re - start ≤ length text) ⊎ (last ≡ length ps)) c.deref.ensures.value c.in_ok-last.ensures.reaches in
    let high : re - start ≤ length text = reached pieces rs re first start last text touched range grows reaches in
    let low : start ≤ rs = past pieces rs re first start last text touched range grows reaches in
    let boundary : IsCharBoundary text (re - start) = joined pieces first start re touched.begins (omega (arith, low, range.order)) last text grows high range.ends in
    (boundary.0, λ some lt. boundary.1 lt)

pub recut-requires-clause-tails : goal.recut-requires-clause-tails
recut-requires-clause-tails g c =
    let me = c.self.inside in
    let pieces = me.pieces.items in
    subst (λ ps. AreTails (g.K.Keep.keeps me.keep) me.sql.vocabulary me.sql.rules ps c.in_ok-last.last) (sym c.deref-2.ensures.value)
    (tails (g.K.Keep.keeps me.keep) me.sql.vocabulary me.sql.rules (Some Front) pieces (text_of pieces) c.self.invariant.chain c.in_ok-last.last)

pub recut-requires-clause-some : goal.recut-requires-clause-some
recut-requires-clause-some g c = λ inside.
    let me = c.self.inside in
    let pieces = me.pieces.items in
    let rs = c.args.range.start in
    let re = c.args.range.end in
    let first = c.args.first in
    let start = c.args.start in
    let view : c.args.self.now.1 ≡ pieces = search rules in
    let touched : IsTouched pieces rs first start = subst (λ ps. IsTouched ps rs first start) view c.requires.touched in
    let range : IsRange rs re (text_of pieces) = subst (λ ps. IsRange rs re (text_of ps)) view c.requires.range in
    let keeps = g.K.Keep.keeps me.keep in
    let sql = me.sql in
    let repl = c.args.replacement.now in
    let text = string_bytes c.pull.new.text in
    let last = c.in_ok-last.last in
    let grows : Grows pieces [] text first last =
    subst (λ xs. Grows pieces xs text first last) c.new-text.ensures.bytes (subst (λ ps. Grows ps (string_bytes c.new-text.result) text first last) c.deref.ensures.value c.in_ok-last.ensures.grows) in
    let reaches : (re - start ≤ length text) ⊎ (last ≡ length pieces) = subst (λ ps. (re - start ≤ length text) ⊎ (last ≡ length ps)) c.deref.ensures.value c.in_ok-last.ensures.reaches in
    let piece = c.index.result.now in
    let there : drop first pieces ≡ piece ∷ drop (suc first) pieces = drop-at first pieces piece touched.within ∙ ap (λ p. p ∷ drop (suc first) pieces) (search rules) in
    let changed_is : string_bytes c.replace_range.new.self ≡ changed keeps sql.vocabulary sql.rules pieces c.self.invariant.chain rs re first start last text touched range grows reaches repl piece there =
    c.in_ok-replace_range.ensures.bytes ∙ ap (λ n. (take (rs - n) text ++ repl) ++ drop (re - n) text) touched.begins in
    subst (λ xs. 0 < length xs) (sym changed_is) (some_changed keeps sql.vocabulary sql.rules pieces c.self.invariant.chain rs re first start last text touched range grows reaches repl piece there inside)

pub returns-in_err-new-clause-refused : goal.returns-in_err-new-clause-refused
returns-in_err-new-clause-refused g c =
    let me = c.self.inside in
    let pieces = me.pieces.items in
    let rs = c.args.range.start in
    let re = c.args.range.end in
    let first = c.args.first in
    let start = c.args.start in
    let view : c.args.self.now.1 ≡ pieces = search rules in
    let touched : IsTouched pieces rs first start = subst (λ ps. IsTouched ps rs first start) view c.requires.touched in
    let range : IsRange rs re (text_of pieces) = subst (λ ps. IsRange rs re (text_of ps)) view c.requires.range in
    let keeps = g.K.Keep.keeps me.keep in
    let sql = me.sql in
    let repl = c.args.replacement.now in
    let text = string_bytes c.pull.new.text in
    let last = c.in_ok-last.last in
    let grows : Grows pieces [] text first last =
    subst (λ xs. Grows pieces xs text first last) c.new-text.ensures.bytes (subst (λ ps. Grows ps (string_bytes c.new-text.result) text first last) c.deref.ensures.value c.in_ok-last.ensures.grows) in
    let reaches : (re - start ≤ length text) ⊎ (last ≡ length pieces) = subst (λ ps. (re - start ≤ length text) ⊎ (last ≡ length ps)) c.deref.ensures.value c.in_ok-last.ensures.reaches in
    let piece = c.index.result.now in
    let there : drop first pieces ≡ piece ∷ drop (suc first) pieces = drop-at first pieces piece touched.within ∙ ap (λ p. p ∷ drop (suc first) pieces) (search rules) in
    let changed_is : string_bytes c.replace_range.new.self ≡ changed keeps sql.vocabulary sql.rules pieces c.self.invariant.chain rs re first start last text touched range grows reaches repl piece there =
    c.in_ok-replace_range.ensures.bytes ∙ ap (λ n. (take (rs - n) text ++ repl) ++ drop (re - n) text) touched.begins in
    let reason = c.in_err-new.field-0.0 in
    let left = changed keeps sql.vocabulary sql.rules pieces c.self.invariant.chain rs re first start last text touched range grows reaches repl piece there ++ text_of (drop last pieces) in
    let why : RefusesText left reason =
    subst (λ xs. RefusesText (xs ++ text_of (drop last pieces)) reason) changed_is (subst (λ ps. RefusesText (string_bytes c.replace_range.new.self ++ text_of (drop last ps)) reason) c.deref-2.ensures.value c.in_err-new.ensures.refused) in
    let all : RefusesText (edited rs re repl (text_of pieces)) reason =
    subst (λ text. RefusesText text reason)
    (ap (λ xs. text_of (take first pieces) ++ xs) (append-nil left) ∙ sym (now_is keeps sql.vocabulary sql.rules pieces c.self.invariant.chain rs re first start last text touched range grows reaches repl piece there))
    (refused_in (text_of (take first pieces)) left [] reason why) in
    let error = err_from_is_err_and c.from_residual-in_err-new.result c.from_residual-in_err-new.ensures.1 in
    rw error.1 (subst (RefusesText (edited rs re repl (text_of c.args.self.now.1))) (sym error.2) (subst (λ ps. RefusesText (edited rs re repl (text_of ps)) reason) (sym view) all))

-- the new text, how long it is, and the pieces
record Edited (g : Over) (c : goal.After-self-1 g) : Type 0 where
  now : List ℕ
  now_is : now ≡ edited c.args.range.start c.args.range.end c.args.replacement.now (text_of c.self.inside.pieces.items)
  size : length now ≡ c.self.inside.len - ((c.args.range.end - c.args.start) - (c.args.range.start - c.args.start)) + length c.args.replacement.now
  short : length now ≤ 4294967295
  chain : AreChain (g.K.Keep.keeps c.self.inside.keep) c.self.inside.sql.vocabulary c.self.inside.sql.rules (Some Front) c.splice.new.self.items None now []

edited_pieces : (g : Over) (c : goal.After-self-1 g) → Edited g c
edited_pieces g c =
    let me = c.self.inside in
    let pieces = me.pieces.items in
    let rs = c.args.range.start in
    let re = c.args.range.end in
    let first = c.args.first in
    let start = c.args.start in
    let view : c.args.self.now.1 ≡ pieces = search rules in
    let touched : IsTouched pieces rs first start = subst (λ ps. IsTouched ps rs first start) view c.requires.touched in
    let range : IsRange rs re (text_of pieces) = subst (λ ps. IsRange rs re (text_of ps)) view c.requires.range in
    let keeps = g.K.Keep.keeps me.keep in
    let sql = me.sql in
    let repl = c.args.replacement.now in
    let text = string_bytes c.pull.new.text in
    let last = c.in_ok-last.last in
    let grows : Grows pieces [] text first last =
    subst (λ xs. Grows pieces xs text first last) c.new-text.ensures.bytes (subst (λ ps. Grows ps (string_bytes c.new-text.result) text first last) c.deref.ensures.value c.in_ok-last.ensures.grows) in
    let reaches : (re - start ≤ length text) ⊎ (last ≡ length pieces) = subst (λ ps. (re - start ≤ length text) ⊎ (last ≡ length ps)) c.deref.ensures.value c.in_ok-last.ensures.reaches in
    let piece = c.index.result.now in
    let there : drop first pieces ≡ piece ∷ drop (suc first) pieces = drop-at first pieces piece touched.within ∙ ap (λ p. p ∷ drop (suc first) pieces) (search rules) in
    let changed_is : string_bytes c.replace_range.new.self ≡ changed keeps sql.vocabulary sql.rules pieces c.self.invariant.chain rs re first start last text touched range grows reaches repl piece there =
    c.in_ok-replace_range.ensures.bytes ∙ ap (λ n. (take (rs - n) text ++ repl) ++ drop (re - n) text) touched.begins in
    let old_is : c.deref-2.result.now ≡ pieces = c.deref-2.ensures.value in
    let recut : AreChain keeps sql.vocabulary sql.rules (Some piece.place) (c.in_ok-new.new.items ++ drop c.in_ok-new.end pieces) None (changed keeps sql.vocabulary sql.rules pieces c.self.invariant.chain rs re first start last text touched range grows reaches repl piece there ++ text_of (drop last pieces)) [] =
    subst (λ xs. AreChain keeps sql.vocabulary sql.rules (Some piece.place) (c.in_ok-new.new.items ++ drop c.in_ok-new.end pieces) None (xs ++ text_of (drop last pieces)) []) changed_is
    (subst (λ ps. AreChain keeps sql.vocabulary sql.rules (Some piece.place) (c.in_ok-new.new.items ++ drop c.in_ok-new.end ps) None (string_bytes c.replace_range.new.self ++ text_of (drop last ps)) []) old_is c.in_ok-new.ensures.chain) in
    let now = edited rs re repl (text_of pieces) in
    let spliced = c.in_ok-splice.ensures.items in
    let all : map (λ piece. piece) spliced.1 ≡ c.in_ok-new.new.items =
    items_from_drains spliced.1 (spliced.3.1.0, spliced.3.1.1, λ more. (spliced.3.0, spliced.3.1.2)) (YieldsList-from_vec {s = spliced.0} c.in_ok-new.new.items spliced.2.0 (spliced.2.1 ∙ c.in_ok-new.new.ok.0)) in
    let items : take first pieces ++ (c.in_ok-new.new.items ++ drop c.in_ok-new.end pieces) ≡ c.splice.new.self.items =
    ap (λ xs. take first pieces ++ (xs ++ drop c.in_ok-new.end pieces)) (sym all ∙ map-id spliced.1) ∙ sym spliced.4 in
    let chain : AreChain keeps sql.vocabulary sql.rules (Some Front) c.splice.new.self.items None now [] =
    subst (λ ps. AreChain keeps sql.vocabulary sql.rules (Some Front) ps None now []) items
    (edited_chain keeps sql.vocabulary sql.rules pieces c.self.invariant.chain rs re first start last text touched range grows reaches repl piece there c.in_ok-new.end c.in_ok-new.new.items recut) in
    let inside : re ≤ me.len = omega (arith, range.ends.0, c.self.invariant.len_is) in
    let size : length now ≡ me.len - ((re - start) - (rs - start)) + length repl =
    omega (arith, c.self.invariant.len_is, inside, range.order, past pieces rs re first start last text touched range grows reaches, length-append (take rs (text_of pieces)) (repl ++ drop re (text_of pieces)), length-append repl (drop re (text_of pieces)), length-take rs (text_of pieces), length-drop re (text_of pieces)) in
    record {
      now = now;
      now_is = refl;
      size = size;
      short = subst (λ ps. length (edited rs re repl (text_of ps)) ≤ 4294967295) view c.requires.short;
      chain = chain;
    }

pub invariant_of-self-2 : goal.invariant_of-self-2
invariant_of-self-2 g c =
    let me = c.self.inside in
    let to = edited_pieces g c in
    subst (IsHeld (g.K.Keep.keeps me.keep) me.sql.vocabulary me.sql.rules c.splice.new.self.items) to.size
    (is_held (g.K.Keep.keeps me.keep) me.sql.vocabulary me.sql.rules c.self.invariant.knows c.splice.new.self.items to.now to.chain to.short)

pub returns-clause-document : goal.returns-clause-document
returns-clause-document g c =
    let me = c.self.inside in
    let to = edited_pieces g c in
    let view : me.pieces.items ≡ c.args.self.now.1 = search rules in
    subst (λ text. IsDocument (g.K.Keep.keeps me.keep) text c.splice.new.self.items)
    (to.now_is ∙ ap (λ ps. edited c.args.range.start c.args.range.end c.args.replacement.now (text_of ps)) view)
    (document (g.K.Keep.keeps me.keep) me.sql.vocabulary me.sql.rules c.self.invariant.knows c.splice.new.self.items to.now to.chain to.short)
