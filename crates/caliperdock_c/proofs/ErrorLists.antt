-- Lists of errors that are joined.
use Rattle.std.proofs.Common.{◌≡◌, ◌∙◌, ℕ, ◌+◌, List, [], ◌∷◌, ◌++◌, append_assoc, append-nil, ap, arith, length, length-append, refl, sym}
use Rattle.squawk_tokens.specs.LexicalErrors.{LexicalError}
use Rattle.caliperdock_c.specs.Errors.{error_text, error_texts, numbered_error, numbered_errors}
use Rattle.caliperdock_c.specs.declared.errors.CError.{CError}

pub numbered_errors-append : (at : ℕ) (xs ys : List LexicalError)
    → numbered_errors at (xs ++ ys) ≡ numbered_errors at xs ++ numbered_errors (at + length (error_texts xs)) ys
numbered_errors-append at [] ys = ap (λ n. numbered_errors n ys) (omega arith)
numbered_errors-append at (e ∷ xs) ys =
    ap (λ es. numbered_error at e ∷ es) (numbered_errors-append (at + length (error_text e)) xs ys
    ∙ ap (λ n. numbered_errors (at + length (error_text e)) xs ++ numbered_errors n ys)
    (omega (arith, length-append (error_text e) (error_texts xs))))

pub length-numbered_errors : (at : ℕ) (errors : List LexicalError) → length (numbered_errors at errors) ≡ length errors
length-numbered_errors at [] = refl
length-numbered_errors at (e ∷ errors) = omega (arith, length-numbered_errors (at + length (error_text e)) errors)

-- ---- no errors that are put at the end

pub no_numbers : (numbers : List CError) (at : ℕ) (errors : List LexicalError) → errors ≡ [] → numbers ≡ numbers ++ numbered_errors at errors
no_numbers numbers at errors none = sym (ap (λ es. numbers ++ numbered_errors at es) none ∙ append-nil numbers)

pub no_texts : (texts : List ℕ) (errors : List LexicalError) → errors ≡ [] → texts ≡ texts ++ error_texts errors
no_texts texts errors none = sym (ap (λ es. texts ++ error_texts es) none ∙ append-nil texts)

-- ---- an error that was put at the end, and others behind it

module _ (numbers new : List CError) (texts new_texts : List ℕ) (e : LexicalError) (errors : List LexicalError)
    (numbers_are : new ≡ numbers ++ numbered_error (length texts) e ∷ []) (texts_are : new_texts ≡ texts ++ error_text e) where
  pub pushed_numbers : new ++ numbered_errors (length new_texts) errors ≡ numbers ++ numbered_errors (length texts) (e ∷ errors)
  pushed_numbers =
      let number = numbered_error (length texts) e in
      ap (λ xs. xs ++ numbered_errors (length new_texts) errors) numbers_are
      ∙ (append_assoc numbers (number ∷ []) (numbered_errors (length new_texts) errors)
      ∙ ap (λ n. numbers ++ number ∷ numbered_errors n errors) (ap length texts_are ∙ length-append texts (error_text e)))

  pub pushed_texts : new_texts ++ error_texts errors ≡ texts ++ error_texts (e ∷ errors)
  pushed_texts = ap (λ xs. xs ++ error_texts errors) texts_are ∙ append_assoc texts (error_text e) (error_texts errors)

-- ---- two lists of errors that were put into an empty one

module _ (begun mid new : List CError) (begun_texts mid_texts : List ℕ) (xs ys : List LexicalError)
    (none : begun ≡ []) (no_texts : begun_texts ≡ []) (first : mid ≡ begun ++ numbered_errors (length begun_texts) xs)
    (first_texts : mid_texts ≡ begun_texts ++ error_texts xs) where
  first_numbers : mid ≡ numbered_errors 0 xs
  first_numbers = first ∙ (ap (λ ns. ns ++ numbered_errors (length begun_texts) xs) none ∙ ap (λ ts. numbered_errors (length ts) xs) no_texts)

  pub first_count : length mid ≡ length xs
  first_count = ap length first_numbers ∙ length-numbered_errors 0 xs

  pub both_numbers : new ≡ mid ++ numbered_errors (length mid_texts) ys → new ≡ numbered_errors 0 (xs ++ ys)
  both_numbers then =
      let texts : mid_texts ≡ error_texts xs = first_texts ∙ ap (λ ts. ts ++ error_texts xs) no_texts in
      then
      ∙ (ap (λ ns. ns ++ numbered_errors (length mid_texts) ys) first_numbers
      ∙ (ap (λ n. numbered_errors 0 xs ++ numbered_errors n ys) (omega (arith, ap length texts)) ∙ sym (numbered_errors-append 0 xs ys)))
