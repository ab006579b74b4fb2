use Rattle.std.proofs.Common.{◌≡◌, ◌∙◌, suc, ◌+◌, ◌-◌, ◌<◌, ◌≤◌, Some, None, [], ◌∷◌, ◌++◌, is_some, length, drop, arith, ap, sym, subst, rules, length-append, length-drop}
use Rattle.std.specs.Prelude.{IfSome, IsCharBoundary, IsUtf8, string_bytes}
use Rattle.std.proofs.lemmas.Str.{IsCharBoundary-start, IsUtf8-string_bytes}
use Rattle.sql_grammar.specs.ReadParts.{at_front, begun_with}
use Rattle.sql_grammar.specs.declared.script_parts.Progress.TheVariants.{Inside}
use Rattle.sql_document.specs.Pieces.{AreChain, Finds, IsPiece, text_of}
use Rattle.sql_document.specs.Recuts.{Grows, IsMet}
use Rattle.sql_document.proofs.Grows.{grows_none}
use Rattle.sql_document.proofs.Recuts.{amounts, boundary_grown, boundary_next, chain_end, chain_met, chain_next, inside_next, same_left, grows_more}
use Rattle.sql_document.proofs.recut.recut.Goals as goal

pub loop-new-init : goal.loop-new-init
loop-new-init g c = record {
  order = omega arith;
  within = c.requires.within;
  grows = grows_none c.args.old.now (string_bytes c.args.text) c.args.from c.requires.within;
  chain = search rules;
  boundary = IsCharBoundary-start (string_bytes c.args.text) (IsUtf8-string_bytes c.args.text);
  some = c.requires.some;
}

pub loop-new-preserved-in_default : goal.loop-new-preserved-in_default
loop-new-preserved-in_default g c =
    let before = c.loop-new.invariant in
    let old = c.args.old.now in
    let text = string_bytes c.loop-new.text in
    let now = string_bytes c.cut_next.new.text in
    let grows : Grows old text now c.loop-new.last c.in_ok-read.read = c.in_ok-read.ensures.grows in
    record {
      order = omega (arith, before.order, grows.order);
      within = grows.within;
      grows = grows_more old (string_bytes c.args.text) text now c.args.from c.loop-new.last c.in_ok-read.read before.grows grows;
      chain = subst
          (λ left. AreChain (g.K.Keep.keeps c.args.keep.now) c.args.sql.now.vocabulary c.args.sql.now.rules (Some c.args.place) c.loop-new.new.items (Some c.loop-new.place) (string_bytes c.args.text ++ text_of (drop c.args.from old)) left)
          (same_left old text now c.loop-new.last c.in_ok-read.read c.loop-new.at grows before.boundary.0) before.chain;
      boundary = boundary_grown old text now c.loop-new.last c.in_ok-read.read c.loop-new.at grows (IsUtf8-string_bytes c.loop-new.text) (IsUtf8-string_bytes c.cut_next.new.text) before.boundary;
      some = λ inside. omega (arith, before.some inside, ap length grows.text_is, length-append text grows.added);
    }

pub returns-in_default-after-clause-chain : goal.returns-in_default-after-clause-chain
returns-in_default-after-clause-chain g c =
    let before = c.loop-new.invariant in
    let old = c.args.old.now in
    let text = string_bytes c.loop-new.text in
    let now = string_bytes c.cut_next.new.text in
    let keeps = g.K.Keep.keeps c.args.keep.now in
    let sql = c.args.sql.now in
    let grows : Grows old text now c.loop-new.last c.in_ok-read.read = c.in_ok-read.ensures.grows in
    let is : IsPiece keeps sql.vocabulary sql.rules c.in-Some.piece c.in-Some.after (drop c.loop-new.at now ++ text_of (drop c.in_ok-read.read old)) =
    subst (λ found. IfSome found (λ found. IsPiece keeps sql.vocabulary sql.rules found.0 found.1 (drop c.loop-new.at now ++ text_of (drop c.in_ok-read.read old)))) c.in-Some.is c.in_ok-read.ensures.cut in
    let found : Finds c.loop-new.place (drop c.loop-new.at now) c.in-Some.piece c.in-Some.after =
    subst (λ found. IfSome found (λ found. Finds c.loop-new.place (drop c.loop-new.at now) found.0 found.1)) c.in-Some.is c.in_ok-read.ensures.finds in
    subst (λ items. AreChain keeps sql.vocabulary sql.rules (Some c.args.place) (items ++ drop (length old) old) None (string_bytes c.args.text ++ text_of (drop c.args.from old)) []) (sym c.in_ok-push.ensures.items)
    (chain_end keeps sql.vocabulary sql.rules old (string_bytes c.args.text) text now c.args.from c.loop-new.last c.in_ok-read.read c.loop-new.at c.args.place c.loop-new.place c.loop-new.new.items c.in-Some.piece c.in-Some.after
    before.grows grows before.chain before.boundary.0 is found c.in_default-after.is)

pub returns-then-is_met-clause-chain : goal.returns-then-is_met-clause-chain
returns-then-is_met-clause-chain g c =
    let before = c.loop-new.invariant in
    let old = c.args.old.now in
    let text = string_bytes c.loop-new.text in
    let now = string_bytes c.cut_next.new.text in
    let keeps = g.K.Keep.keeps c.args.keep.now in
    let sql = c.args.sql.now in
    let grows : Grows old text now c.loop-new.last c.in_ok-read.read = c.in_ok-read.ensures.grows in
    let is : IsPiece keeps sql.vocabulary sql.rules c.in-Some.piece c.in-Some.after (drop c.loop-new.at now ++ text_of (drop c.in_ok-read.read old)) =
    subst (λ found. IfSome found (λ found. IsPiece keeps sql.vocabulary sql.rules found.0 found.1 (drop c.loop-new.at now ++ text_of (drop c.in_ok-read.read old)))) c.in-Some.is c.in_ok-read.ensures.cut in
    let found : Finds c.loop-new.place (drop c.loop-new.at now) c.in-Some.piece c.in-Some.after =
    subst (λ found. IfSome found (λ found. Finds c.loop-new.place (drop c.loop-new.at now) found.0 found.1)) c.in-Some.is c.in_ok-read.ensures.finds in
    let size : c.len-at.result ≡ length (string_bytes c.in-Some.piece.text) = search rules in
    let end : c.loop-new.at + c.len-at.result ≡ c.loop-new.at + length (string_bytes c.in-Some.piece.text) = omega (arith, size) in
    let read = c.in_ok-read.read in
    let some : c.args.from < read = search rules in
    let k : suc (read - 1) ≡ read = omega (arith, some) in
    let within : c.loop-new.at + length (string_bytes c.in-Some.piece.text) ≤ length now = omega (arith, found.within, length-drop c.loop-new.at now, before.boundary.0, ap length grows.text_is, length-append text grows.added) in
    let met : IsMet c.index-old-last.result (length now - (c.loop-new.at + length (string_bytes c.in-Some.piece.text))) c.in-Some-after.next =
    let told = c.is_met.ensures c.if-is_met.true in
    let size_now : c.len-then-from-last.result ≡ length now = search rules in
    (told.0 ∙ omega (arith, size, size_now), told.1) in
    subst (λ items. AreChain keeps sql.vocabulary sql.rules (Some c.args.place) (items ++ drop (read - 1) old) None (string_bytes c.args.text ++ text_of (drop c.args.from old)) []) (sym c.in_ok-push.ensures.items)
    (chain_met keeps sql.vocabulary sql.rules old (string_bytes c.args.text) text now c.args.from c.loop-new.last c.in_ok-read.read c.loop-new.at c.args.place c.loop-new.place c.loop-new.new.items c.in-Some.piece c.in-Some.after
    before.grows grows before.chain before.boundary.0 is found
    (read - 1) c.in-Some-after.next c.index-old-last.result c.in-Some-after.is k (omega (arith, some)) within c.index-old-last.is met c.requires.tails)

pub loop-new-smaller : goal.loop-new-smaller
loop-new-smaller g c =
    let before = c.loop-new.invariant in
    let old = c.args.old.now in
    let text = string_bytes c.loop-new.text in
    let now = string_bytes c.cut_next.new.text in
    let keeps = g.K.Keep.keeps c.args.keep.now in
    let sql = c.args.sql.now in
    let grows : Grows old text now c.loop-new.last c.in_ok-read.read = c.in_ok-read.ensures.grows in
    let is : IsPiece keeps sql.vocabulary sql.rules c.in-Some.piece c.in-Some.after (drop c.loop-new.at now ++ text_of (drop c.in_ok-read.read old)) =
    subst (λ found. IfSome found (λ found. IsPiece keeps sql.vocabulary sql.rules found.0 found.1 (drop c.loop-new.at now ++ text_of (drop c.in_ok-read.read old)))) c.in-Some.is c.in_ok-read.ensures.cut in
    let found : Finds c.loop-new.place (drop c.loop-new.at now) c.in-Some.piece c.in-Some.after =
    subst (λ found. IfSome found (λ found. Finds c.loop-new.place (drop c.loop-new.at now) found.0 found.1)) c.in-Some.is c.in_ok-read.ensures.finds in
    let size : c.len-at.result ≡ length (string_bytes c.in-Some.piece.text) = search rules in
    let end : c.loop-new.at + c.len-at.result ≡ c.loop-new.at + length (string_bytes c.in-Some.piece.text) = omega (arith, size) in
    let inside : begun_with c.in-Some-after.next ≡ Inside =
    inside_next keeps sql.vocabulary sql.rules c.in-Some.piece c.in-Some-after.next (drop c.loop-new.at now ++ text_of (drop c.in_ok-read.read old))
    (subst (λ next. IsPiece keeps sql.vocabulary sql.rules c.in-Some.piece next (drop c.loop-new.at now ++ text_of (drop c.in_ok-read.read old))) c.in-Some-after.is is) in
    omega (
      arith,
      size,
      found.goes_on,
      found.within,
      length-drop c.loop-new.at now,
      ap at_front inside,
      grows.order,
      grows.within,
      amounts keeps sql.vocabulary sql.rules old (string_bytes c.args.text) text now c.args.from c.loop-new.last c.in_ok-read.read c.loop-new.at c.args.place c.loop-new.place c.loop-new.new.items c.in-Some.piece c.in-Some.after
          before.grows grows before.chain before.boundary.0 is found,
    )

pub loop-new-preserved : goal.loop-new-preserved
loop-new-preserved g c =
    let before = c.loop-new.invariant in
    let old = c.args.old.now in
    let text = string_bytes c.loop-new.text in
    let now = string_bytes c.cut_next.new.text in
    let keeps = g.K.Keep.keeps c.args.keep.now in
    let sql = c.args.sql.now in
    let grows : Grows old text now c.loop-new.last c.in_ok-read.read = c.in_ok-read.ensures.grows in
    let is : IsPiece keeps sql.vocabulary sql.rules c.in-Some.piece c.in-Some.after (drop c.loop-new.at now ++ text_of (drop c.in_ok-read.read old)) =
    subst (λ found. IfSome found (λ found. IsPiece keeps sql.vocabulary sql.rules found.0 found.1 (drop c.loop-new.at now ++ text_of (drop c.in_ok-read.read old)))) c.in-Some.is c.in_ok-read.ensures.cut in
    let found : Finds c.loop-new.place (drop c.loop-new.at now) c.in-Some.piece c.in-Some.after =
    subst (λ found. IfSome found (λ found. Finds c.loop-new.place (drop c.loop-new.at now) found.0 found.1)) c.in-Some.is c.in_ok-read.ensures.finds in
    let size : c.len-at.result ≡ length (string_bytes c.in-Some.piece.text) = search rules in
    let end : c.loop-new.at + c.len-at.result ≡ c.loop-new.at + length (string_bytes c.in-Some.piece.text) = omega (arith, size) in
    let next_chain : AreChain keeps sql.vocabulary sql.rules (Some c.args.place) (c.loop-new.new.items ++ c.in-Some.piece ∷ []) c.in-Some.after (string_bytes c.args.text ++ text_of (drop c.args.from old))
    (drop (c.loop-new.at + length (string_bytes c.in-Some.piece.text)) now ++ text_of (drop c.in_ok-read.read old)) =
    chain_next keeps sql.vocabulary sql.rules old (string_bytes c.args.text) text now c.args.from c.loop-new.last c.in_ok-read.read c.loop-new.at c.args.place c.loop-new.place c.loop-new.new.items c.in-Some.piece c.in-Some.after
    before.grows grows before.chain before.boundary.0 is found in
    let utf8 : IsUtf8 now = IsUtf8-string_bytes c.cut_next.new.text in
    let there : IsCharBoundary now c.loop-new.at =
    boundary_grown old text now c.loop-new.last c.in_ok-read.read c.loop-new.at grows (IsUtf8-string_bytes c.loop-new.text) utf8 before.boundary in
    record {
      order = omega (arith, before.order, grows.order);
      within = grows.within;
      grows = grows_more old (string_bytes c.args.text) text now c.args.from c.loop-new.last c.in_ok-read.read before.grows grows;
      chain = subst (λ items. AreChain keeps sql.vocabulary sql.rules (Some c.args.place) items (Some c.in-Some-after.next) (string_bytes c.args.text ++ text_of (drop c.args.from old))
          (drop (c.loop-new.at + c.len-at.result) now ++ text_of (drop c.in_ok-read.read old))) (sym c.in_ok-push.ensures.items)
          (subst (λ n. AreChain keeps sql.vocabulary sql.rules (Some c.args.place) (c.loop-new.new.items ++ c.in-Some.piece ∷ []) (Some c.in-Some-after.next) (string_bytes c.args.text ++ text_of (drop c.args.from old))
          (drop n now ++ text_of (drop c.in_ok-read.read old))) (sym end)
          (subst (λ next. AreChain keeps sql.vocabulary sql.rules (Some c.args.place) (c.loop-new.new.items ++ c.in-Some.piece ∷ []) next (string_bytes c.args.text ++ text_of (drop c.args.from old))
          (drop (c.loop-new.at + length (string_bytes c.in-Some.piece.text)) now ++ text_of (drop c.in_ok-read.read old))) c.in-Some-after.is next_chain));
      boundary = subst (IsCharBoundary now) (sym end)
          (boundary_next keeps sql.vocabulary sql.rules now (text_of (drop c.in_ok-read.read old)) c.loop-new.at c.in-Some.piece c.in-Some.after is found.within utf8 there found.utf8);
      some = λ inside. omega (arith, size, found.left (ap is_some c.in-Some-after.is), length-drop c.loop-new.at now);
    }
