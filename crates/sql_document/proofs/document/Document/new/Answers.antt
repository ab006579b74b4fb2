use Rattle.std.proofs.Common.{◌≡◌, ◌∙◌, ◌≤◌, [], ◌++◌, ap, drop, length, rules, subst, sym}
use Rattle.std.proofs.lemmas.List.{append-nil}
use Rattle.std.proofs.lemmas.Result.{err_from_is_err_and}
use Rattle.sql_document.specs.EditErrors.{RefusesText}
use Rattle.sql_document.specs.Pieces.{text_of}
use Rattle.std.specs.Prelude.{string_bytes}
use Rattle.sql_document.proofs.Documents.{all_new, document, is_held}
use Rattle.sql_document.proofs.document.Document.new.Goals as goal

pub invariant_of-result : goal.invariant_of-result
invariant_of-result g c =
    let keeps = g.K.Keep.keeps c.args.keep in
    let sql = c.in_ok-sql.sql in
    let pieces = c.in_ok-pieces.pieces.items in
    let none : c.deref.result.now ≡ [] = c.deref.ensures.value ∙ c.new-none.ensures.items in
    let short : length c.args.text.now ≤ 4294967295 = search rules in
    is_held keeps sql.vocabulary sql.rules sql.keywords pieces c.args.text.now
    (all_new keeps sql.vocabulary sql.rules sql.keywords pieces c.deref.result.now c.in_ok-pieces.field-0-1 c.args.text.now (string_bytes c.in_ok-string.string) none c.in_ok-string.ensures.ok c.in_ok-pieces.ensures.chain) short

pub returns-clause-document : goal.returns-clause-document
returns-clause-document g c =
    let keeps = g.K.Keep.keeps c.args.keep in
    let sql = c.in_ok-sql.sql in
    let pieces = c.in_ok-pieces.pieces.items in
    let none : c.deref.result.now ≡ [] = c.deref.ensures.value ∙ c.new-none.ensures.items in
    let short : length c.args.text.now ≤ 4294967295 = search rules in
    document keeps sql.vocabulary sql.rules sql.keywords pieces c.args.text.now
    (all_new keeps sql.vocabulary sql.rules sql.keywords pieces c.deref.result.now c.in_ok-pieces.field-0-1 c.args.text.now (string_bytes c.in_ok-string.string) none c.in_ok-string.ensures.ok c.in_ok-pieces.ensures.chain) short

pub returns-in_err-pieces-clause-refused : goal.returns-in_err-pieces-clause-refused
returns-in_err-pieces-clause-refused g c =
    let text = c.args.text.now in
    let error = err_from_is_err_and c.from_residual-in_err-pieces.result c.from_residual-in_err-pieces.ensures.1 in
    let none : c.deref.result.now ≡ [] = c.deref.ensures.value ∙ c.new-none.ensures.items in
    let same : string_bytes c.in_ok-string.string ++ text_of (drop 0 c.deref.result.now) ≡ text =
    ap (λ ps. string_bytes c.in_ok-string.string ++ text_of (drop 0 ps)) none ∙ (append-nil (string_bytes c.in_ok-string.string) ∙ c.in_ok-string.ensures.ok) in
    rw error.1 (subst (RefusesText text) (sym error.2) (subst (λ text. RefusesText text c.in_err-pieces.field-0.0) same c.in_err-pieces.ensures.refused))
