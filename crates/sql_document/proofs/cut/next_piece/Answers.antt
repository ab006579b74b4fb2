use Rattle.std.proofs.Common.{◌≡◌, ◌∙◌, ◌-◌, ◌≤◌, ◌⊎◌, Some, length, take, if◌then◌else◌, ⊎_elim, arith, ap, sym, subst, refl}
use Rattle.std.specs.Prelude.{IfSome, IsCharBoundary, slice_index}
use Rattle.sql_grammar.specs.ReadParts.{BeginsText, NoneLeft, Reading, ReadsPart}
use Rattle.sql_grammar.specs.declared.script_parts.ScriptPart.{ScriptPart}
use Rattle.sql_document.proofs.Cuts.{boundary, finds, front, is_piece, unread, within_lines}
use Rattle.sql_document.proofs.Refusals.{refused_by_parse}
use Rattle.std.proofs.lemmas.Result.{err_from_is_err_and}
use Rattle.sql_document.specs.EditErrors.{RefusesText}
use Rattle.sql_document.proofs.cut.next_piece.Goals as goal

pub range-requires-clause-end_boundary : goal.range-requires-clause-end_boundary
range-requires-clause-end_boundary g c =
    let sql = c.args.sql.now in
    let part : ScriptPart = c.in-Some.part in
    let reads : ReadsPart sql.vocabulary sql.rules c.in_ok-parts.parts c.next_part.new.self part =
    subst (λ found. IfSome found (λ part. ReadsPart sql.vocabulary sql.rules c.in_ok-parts.parts c.next_part.new.self part)) c.in-Some.is c.in_ok-part.ensures.reads in
    let end : c.text_start-end.result ≡ length part.table.text =
    c.text_start-end.ensures ∙ (ap (slice_index part.table.starts) c.len.ensures.len ∙ c.len.ensures.table.ends) in
    subst (IsCharBoundary c.args.text.now) (sym end)
    (boundary sql.vocabulary sql.rules c.args.text.now c.args.place c.args.is_last c.in_ok-parts.parts c.next_part.new.self part c.in_ok-parts.ensures.begins reads c.utf8.text c.len.ensures.table.utf8)

pub seen-requires : goal.seen-requires
seen-requires g c = λ others lines are.
    let sql = c.args.sql.now in
    let part : ScriptPart = c.in-Some.part in
    let reads : ReadsPart sql.vocabulary sql.rules c.in_ok-parts.parts c.next_part.new.self part =
    subst (λ found. IfSome found (λ part. ReadsPart sql.vocabulary sql.rules c.in_ok-parts.parts c.next_part.new.self part)) c.in-Some.is c.in_ok-part.ensures.reads in
    let end : c.text_start-end.result ≡ length part.table.text =
    c.text_start-end.ensures ∙ (ap (slice_index part.table.starts) c.len.ensures.len ∙ c.len.ensures.table.ends) in
    omega (
      arith,
      end,
      within_lines sql.vocabulary sql.rules c.args.text.now c.args.place c.args.is_last c.in_ok-parts.parts c.next_part.new.self part c.in_ok-parts.ensures.begins reads others lines are,
    )

pub returns-clause-cut : goal.returns-clause-cut
returns-clause-cut g c =
    let sql = c.args.sql.now in
    let text = c.args.text.now in
    let place = c.args.place in
    let is_last = c.args.is_last in
    let old : Reading = c.in_ok-parts.parts in
    let new : Reading = c.next_part.new.self in
    let part : ScriptPart = c.in-Some.part in
    let begins : BeginsText text place is_last old = c.in_ok-parts.ensures.begins in
    let reads : ReadsPart sql.vocabulary sql.rules old new part =
    subst (λ found. IfSome found (λ part. ReadsPart sql.vocabulary sql.rules old new part)) c.in-Some.is c.in_ok-part.ensures.reads in
    let end : c.text_start-end.result ≡ length part.table.text =
    c.text_start-end.ensures ∙ (ap (slice_index part.table.starts) c.len.ensures.len ∙ c.len.ensures.table.ends) in
    let full : (c.wanted.result ≤ length part.table.text) ⊎ NoneLeft new.is_last new.lexer =
    subst (λ found. IfSome found (λ part. (c.wanted.result ≤ length part.table.text) ⊎ NoneLeft new.is_last new.lexer)) c.in-Some.is c.in_ok-part.ensures.full in
    is_piece sql.vocabulary sql.rules text place is_last old new part begins reads
    c.seen.result c.seen.ensures.last (λ others lines are. c.seen.ensures.others others lines are ∙ ap (λ n. Some (length lines - n)) end)
    c.place_after.result c.place_after.ensures.is c.place_after.ensures.goes_on
    (λ last.
    ⊎_elim
    (λ (many : c.wanted.result ≤ length part.table.text). absurd (omega (arith, many, reads.short, c.wanted.ensures ∙ ap (λ b. if b then 18446744073709551615 else c.args.least) last)))
    (λ (none : NoneLeft new.is_last new.lexer). subst (λ b. NoneLeft b new.lexer) (reads.same.1.1 ∙ begins.is_last ∙ last) none)
    full)
    (λ last. c.in_ok-part.ensures.ends (reads.same.1.1 ∙ begins.is_last ∙ last))
    (g.K.Keep.keeps c.args.keep.now) _ refl
    (c.in_ok-from_str.ensures.ok ∙ (c.range.ensures.value ∙ (ap (λ n. take n text) (omega (arith, end)) ∙ front sql.vocabulary sql.rules text place is_last old new part begins reads)))
    refl c.in_ok-keep.ensures

pub returns-clause-finds : goal.returns-clause-finds
returns-clause-finds g c =
    let sql = c.args.sql.now in
    let text = c.args.text.now in
    let place = c.args.place in
    let is_last = c.args.is_last in
    let old : Reading = c.in_ok-parts.parts in
    let new : Reading = c.next_part.new.self in
    let part : ScriptPart = c.in-Some.part in
    let begins : BeginsText text place is_last old = c.in_ok-parts.ensures.begins in
    let reads : ReadsPart sql.vocabulary sql.rules old new part =
    subst (λ found. IfSome found (λ part. ReadsPart sql.vocabulary sql.rules old new part)) c.in-Some.is c.in_ok-part.ensures.reads in
    let end : c.text_start-end.result ≡ length part.table.text =
    c.text_start-end.ensures ∙ (ap (slice_index part.table.starts) c.len.ensures.len ∙ c.len.ensures.table.ends) in
    finds sql.vocabulary sql.rules text place is_last old new part begins reads _ c.place_after.result c.place_after.ensures.is refl
    (c.in_ok-from_str.ensures.ok ∙ (c.range.ensures.value ∙ (ap (λ n. take n text) (omega (arith, end)) ∙ front sql.vocabulary sql.rules text place is_last old new part begins reads)))
    c.len.ensures.table.utf8

pub returns-in_err-part-clause-refused : goal.returns-in_err-part-clause-refused
returns-in_err-part-clause-refused g c =
    let old : Reading = c.in_ok-parts.parts in
    let begins : BeginsText c.args.text.now c.args.place c.args.is_last old = c.in_ok-parts.ensures.begins in
    let left = unread c.args.text.now c.args.place c.args.is_last old begins in
    let error = err_from_is_err_and c.from_residual-in_err-part.result c.from_residual-in_err-part.ensures.1 in
    rw error.1 (subst (RefusesText c.args.text.now) (sym error.2)
    (refused_by_parse c.args.sql.now.vocabulary c.args.text.now old.lexer.text left.0 old.begun c.in_err-part.field-0.0 c.args.sql.now.keywords left.1 c.in_err-part.ensures.refused))
