use Rattle.std.proofs.Common.{◌≡◌, ◌∙◌, ◌≤◌, ◌-◌, ◌++◌, ℕ, List, [], true, length, drop, take, false, append_assoc, arith, ap, sym, subst, length-append, take-append-drop}
use Rattle.std.specs.Prelude.{IfSome}
use Rattle.std.proofs.lemmas.Bool.{false≢true}
use Rattle.sql_document.specs.Pieces.{Finds, IsPiece}
use Rattle.std.proofs.lemmas.Result.{err_from_is_err_and}
use Rattle.sql_document.specs.EditErrors.{RefusesText}
use Rattle.sql_document.proofs.Cuts.{finds_more}
use Rattle.sql_document.proofs.Refusals.{refused_in}
use Rattle.sql_document.proofs.recut.piece_inside.Goals as goal

pub returns-in-Some : goal.returns-in-Some
returns-in-Some g c =
    let text = c.args.text.now in
    let front = c.range-front.result.now in
    let end = c.char_end.result in
    let back = drop end text in
    let size : end - 0 ≡ end = omega arith in
    let whole : text ≡ front ++ back = sym (take-append-drop end text) ∙ ap (λ xs. xs ++ back) (sym (c.range-front.ensures.value ∙ ap (λ n. take n text) size)) in
    let within : length front ≤ length text = omega (arith, ap length whole, length-append front back) in
    let found : Finds c.args.place front c.in-Some.found.0 c.in-Some.found.1 =
    subst (λ found. IfSome found (λ both. Finds c.args.place front both.0 both.1)) c.in-Some.is c.in_ok-found.ensures.finds in record {
      cut = (
        finds_more c.args.place front text c.in-Some.found.0 c.in-Some.found.1 within found,
        λ rest.
            subst (λ left. IsPiece (g.K.Keep.keeps c.args.keep.now) c.args.sql.now.vocabulary c.args.sql.now.rules c.in-Some.found.0 c.in-Some.found.1 left)
            (sym (append_assoc front back rest) ∙ ap (λ xs. xs ++ rest) (sym whole))
            (subst (λ found. IfSome found (λ both. (rest : List ℕ) → (false ≡ true → rest ≡ []) → IsPiece (g.K.Keep.keeps c.args.keep.now) c.args.sql.now.vocabulary c.args.sql.now.rules both.0 both.1 (front ++ rest))) c.in-Some.is
            c.in_ok-found.ensures.cut (back ++ rest) (λ e. absurd (false≢true e))),
      );
      refused = tt;
    }

pub returns-in_err-found-clause-refused : goal.returns-in_err-found-clause-refused
returns-in_err-found-clause-refused g c =
    let text = c.args.text.now in
    let end = c.char_end.result in
    let size : end - 0 ≡ end = omega arith in
    let whole : text ≡ c.range-front.result.now ++ drop end text = sym (take-append-drop end text) ∙ ap (λ xs. xs ++ drop end text) (sym (c.range-front.ensures.value ∙ ap (λ n. take n text) size)) in
    let error = err_from_is_err_and c.from_residual.result c.from_residual.ensures.1 in
    rw error.1 (subst (RefusesText text) (sym error.2)
    (subst (λ text. RefusesText text c.in_err-found.field-0.0) (sym whole) (refused_in [] c.range-front.result.now (drop end text) c.in_err-found.field-0.0 c.in_err-found.ensures.refused)))
