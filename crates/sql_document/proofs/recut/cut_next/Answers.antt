use Rattle.std.proofs.Common.{◌≡◌, ◌∙◌, ◌++◌, ap, drop, subst, sym}
use Rattle.std.proofs.lemmas.Result.{err_from_is_err_and}
use Rattle.sql_document.specs.EditErrors.{RefusesText}
use Rattle.sql_document.specs.Pieces.{text_of}
use Rattle.sql_document.proofs.Refusals.{refused_after, refused_grown}
use Rattle.std.specs.Prelude.{IsCharBoundary, IsUtf8, string_bytes}
use Rattle.sql_document.specs.Recuts.{Grows}
use Rattle.sql_document.proofs.Grows.{grows_none}
use Rattle.sql_document.proofs.Recuts.{boundary_grows}
use Rattle.sql_document.proofs.recut.cut_next.Goals as goal

pub returns-in_err-found-clause-refused : goal.returns-in_err-found-clause-refused
returns-in_err-found-clause-refused g c =
    let text = string_bytes c.args.text.now in
    let error = err_from_is_err_and c.from_residual.result c.from_residual.ensures.1 in
    let left : c.range_from.result.now ≡ drop c.args.at text = c.range_from.ensures.value ∙ ap (drop c.args.at) c.deref.ensures in
    let why : RefusesText (drop c.args.at text) c.in_err-found.field-0.0 = subst (λ text. RefusesText text c.in_err-found.field-0.0) left c.in_err-found.ensures.refused in
    rw error.1 (subst (RefusesText (text ++ text_of (drop c.args.from c.args.old.now))) (sym error.2) (refused_after text (text_of (drop c.args.from c.args.old.now)) c.args.at c.in_err-found.field-0.0 why))

pub returns-in-Some-clause-grows : goal.returns-in-Some-clause-grows
returns-in-Some-clause-grows g c = grows_none c.args.old.now (string_bytes c.args.text.now) c.args.from c.requires.within

pub returns-in_err-found-2-clause-refused : goal.returns-in_err-found-2-clause-refused
returns-in_err-found-2-clause-refused g c =
    let text = string_bytes c.args.text.now in
    let error = err_from_is_err_and c.from_residual-in_err-found-2.result c.from_residual-in_err-found-2.ensures.1 in
    let left : c.range_from-then-from-old.result.now ≡ drop c.args.at text = c.range_from-then-from-old.ensures.value ∙ ap (drop c.args.at) c.deref-then-from-old.ensures in
    let why : RefusesText (drop c.args.at text) c.in_err-found-2.field-0.0 = subst (λ text. RefusesText text c.in_err-found-2.field-0.0) left c.in_err-found-2.ensures.refused in
    rw error.1 (subst (RefusesText (text ++ text_of (drop c.args.from c.args.old.now))) (sym error.2) (refused_after text (text_of (drop c.args.from c.args.old.now)) c.args.at c.in_err-found-2.field-0.0 why))

pub returns-in_err-found-3-clause-refused : goal.returns-in_err-found-3-clause-refused
returns-in_err-found-3-clause-refused g c =
    let old = c.args.old.now in
    let text = string_bytes c.args.text.now in
    let now = string_bytes c.pull.new.text in
    let last = c.in_ok-last.last in
    let reason = c.in_err-found-3.field-0.0 in
    let error = err_from_is_err_and c.from_residual-in_err-found-3.result c.from_residual-in_err-found-3.ensures.1 in
    let left : c.range_from-2.result.now ≡ drop c.args.at now = c.range_from-2.ensures.value ∙ ap (drop c.args.at) c.deref-2.ensures in
    let why : RefusesText (drop c.args.at now) reason = subst (λ text. RefusesText text reason) left c.in_err-found-3.ensures.refused in
    rw error.1 (subst (RefusesText (text ++ text_of (drop c.args.from old))) (sym error.2)
    (refused_grown old text now c.args.from last reason c.in_ok-last.ensures.grows (refused_after now (text_of (drop last old)) c.args.at reason why)))

pub returns-then-from-old-clause-grows : goal.returns-then-from-old-clause-grows
returns-then-from-old-clause-grows g c = grows_none c.args.old.now (string_bytes c.args.text.now) c.args.from c.requires.within

pub range_from-requires-2 : goal.range_from-requires-2
range_from-requires-2 g c = λ some.
    let text = string_bytes c.args.text.now in
    let now = string_bytes c.pull.new.text in
    let grows : Grows c.args.old.now text now c.args.from c.in_ok-last.last = c.in_ok-last.ensures.grows in
    let utf8 : IsUtf8 text = subst IsUtf8 c.deref.ensures c.deref.utf8 in
    let all : IsUtf8 (text ++ grows.added) = subst IsUtf8 (c.deref-2.ensures ∙ grows.text_is) c.deref-2.utf8 in
    subst (λ text. IsCharBoundary text c.args.at) (sym grows.text_is ∙ sym c.deref-2.ensures) (boundary_grows text grows.added c.args.at utf8 all c.requires.boundary)
