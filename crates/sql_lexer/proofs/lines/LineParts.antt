-- What is found before the newline of a text that ends a line: what follows the text doesn't change it.
use Rattle.std.proofs.Common.{◌≡◌, ◌∙◌, ℕ, ◌+◌, ◌<◌, ◌==◌, ◌&&◌, Bool, true, false, List, [], ◌∷◌, ◌++◌, length, drop, length-drop, arith, ap, ap₂, refl, sym, subst}
use Rattle.std.specs.Prelude.{slice_index, if◌then◌else◌, cond}
use Rattle.std.specs.List.{prefix_len, list_any}
use Rattle.std.proofs.lemmas.Bool.{and_parts, or_parts, cond_both, false≢true}
use Rattle.std.proofs.lemmas.List.{length-append, get_or_append_left, drop-append-le}
use Rattle.sql_lexer.specs.Lines.{EndsLine}
use Rattle.sql_lexer.specs.Rules.{begins, first}
use Rattle.sql_lexer.proofs.lines.Agrees.{ends_drop}

-- a length that is the same in a text that goes on, and that leaves the text's last byte
pub record IsInside (len : List ℕ → ℕ) (text rest : List ℕ) : Type 0 where
  pub same : len (text ++ rest) ≡ len text
  pub within : len text < length text

pub line_of : (front : List ℕ) → EndsLine (front ++ 10 ∷ [])
line_of front = record { front = front; line = refl }

-- what holds of each line holds of a text that ends one
pub by_front : (P : List ℕ → Type 0) (text : List ℕ) → EndsLine text → ((front : List ℕ) → P (front ++ 10 ∷ [])) → P text
by_front P text ends each = subst P (sym ends.line) (each ends.front)

-- two values that depend on tests of one answer are the same where they are so at each answer
pub same_if : {Y : Type 0} (b c : Bool) (f g : Bool → Y) → b ≡ c → (c ≡ true → f true ≡ g true) → f false ≡ g false → f b ≡ g c
same_if b c f g e holds fails = ap f e ∙ both c holds
  where
    both : (c : Bool) → (c ≡ true → f true ≡ g true) → f c ≡ g c
    both true holds = holds refl
    both false holds = fails

-- ---- the bytes in front

pub some_bytes : (text : List ℕ) → EndsLine text → 0 < length text
some_bytes text ends = by_front (λ t. 0 < length t) text ends (λ front. omega (arith, length-append front (10 ∷ [])))

pub same_first : (text rest : List ℕ) → EndsLine text → first (text ++ rest) ≡ first text
same_first text rest ends = get_or_append_left text rest 0 0 (some_bytes text ends)

-- a test of the first byte that a newline doesn't pass
module _ (p : ℕ → Bool) (none : p 10 ≡ false) where
  pub more_than_one : (text : List ℕ) → EndsLine text → p (first text) ≡ true → 1 < length text
  more_than_one text ends = by_front (λ t. p (first t) ≡ true → 1 < length t) text ends lines
    where
      lines : (front : List ℕ) → p (first (front ++ 10 ∷ [])) ≡ true → 1 < length (front ++ 10 ∷ [])
      lines [] e = absurd (false≢true (sym none ∙ e))
      lines (b ∷ front) e = omega (arith, length-append front (10 ∷ []))

  -- and one of the second byte
  module _ (q : ℕ → Bool) where
    pub same_two : (text rest : List ℕ) → EndsLine text → (p (first (text ++ rest)) && q (slice_index (text ++ rest) 1)) ≡ (p (first text) && q (slice_index text 1))
    same_two text rest ends =
        by_front (λ t. (p (first (t ++ rest)) && q (slice_index (t ++ rest) 1)) ≡ (p (first t) && q (slice_index t 1))) text ends lines
      where
        lines : (front : List ℕ)
            → (p (first ((front ++ 10 ∷ []) ++ rest)) && q (slice_index ((front ++ 10 ∷ []) ++ rest) 1)) ≡ (p (first (front ++ 10 ∷ [])) && q (slice_index (front ++ 10 ∷ []) 1))
        lines [] = ap (λ b. b && q (slice_index (10 ∷ rest) 1)) none ∙ sym (ap (λ b. b && q (slice_index (10 ∷ []) 1)) none)
        lines (b ∷ []) = refl
        lines (b ∷ c ∷ front) = refl

    pub more_than_two : q 10 ≡ false → (text : List ℕ) → EndsLine text → (p (first text) && q (slice_index text 1)) ≡ true → 2 < length text
    more_than_two neither text ends = by_front (λ t. (p (first t) && q (slice_index t 1)) ≡ true → 2 < length t) text ends lines
      where
        lines : (front : List ℕ) → (p (first (front ++ 10 ∷ [])) && q (slice_index (front ++ 10 ∷ []) 1)) ≡ true → 2 < length (front ++ 10 ∷ [])
        lines [] e = absurd (false≢true (sym none ∙ (and_parts (p 10) (q (slice_index (10 ∷ []) 1)) e).0))
        lines (b ∷ []) e = absurd (false≢true (sym neither ∙ (and_parts (p b) (q 10) e).1))
        lines (b ∷ c ∷ front) e = omega (arith, length-append front (10 ∷ []))

-- a beginning that has no newline
pub same_begins : (needle text rest : List ℕ) → list_any (λ b. b == 10) needle ≡ false → EndsLine text → begins (text ++ rest) needle ≡ begins text needle
same_begins needle text rest others ends = by_front (λ t. begins (t ++ rest) needle ≡ begins t needle) text ends (λ front. lines needle front others)
  where
    lines : (needle front : List ℕ) → list_any (λ b. b == 10) needle ≡ false → begins ((front ++ 10 ∷ []) ++ rest) needle ≡ begins (front ++ 10 ∷ []) needle
    lines [] front others = refl
    lines (c ∷ needle) [] others =
        let other = (or_parts (c == 10) (list_any (λ b. b == 10) needle) others).0 in
        ap (λ b. b && begins rest needle) other ∙ sym (ap (λ b. b && begins [] needle) other)
    lines (c ∷ needle) (b ∷ front) others =
        ap (λ same. (c == b) && same) (lines needle front (or_parts (c == 10) (list_any (λ b. b == 10) needle) others).1)

-- ---- lengths

pub at_place : (n : ℕ) (text rest : List ℕ) → n < length text → IsInside (λ t. n) text rest
at_place n text rest lt = record { same = refl; within = lt }

pub if_inside : (c : List ℕ → Bool) (len : List ℕ → ℕ) (text rest : List ℕ) → EndsLine text → c (text ++ rest) ≡ c text → (c text ≡ true → IsInside len text rest)
    → IsInside (λ t. if c t then len t else 0) text rest
if_inside c len text rest ends same inside = record {
  same = same_if (c (text ++ rest)) (c text) (λ b. if b then len (text ++ rest) else 0) (λ b. if b then len text else 0) same (λ holds. (inside holds).same) refl;
  within = cond_both (c text) (len text) 0 (λ n. n < length text) (λ holds. (inside holds).within) (λ fails. some_bytes text ends);
}

-- what is made of what is left behind such a length
pub same_behind : {Y : Type 0} (of : List ℕ → Y) (len : List ℕ → ℕ) (text rest : List ℕ) → EndsLine text → IsInside len text rest
    → ((left : List ℕ) → EndsLine left → of (left ++ rest) ≡ of left) → of (drop (len (text ++ rest)) (text ++ rest)) ≡ of (drop (len text) text)
same_behind of len text rest ends inside same =
    ap (λ n. of (drop n (text ++ rest))) inside.same
    ∙ ap of (drop-append-le (len text) text rest (omega (arith, inside.within)))
    ∙ same (drop (len text) text) (ends_drop (len text) text ends inside.within)

-- a length and one behind it
pub then_inside : (len more : List ℕ → ℕ) (text rest : List ℕ) → EndsLine text → IsInside len text rest → ((left : List ℕ) → EndsLine left → IsInside more left rest)
    → IsInside (λ t. len t + more (drop (len t) t)) text rest
then_inside len more text rest ends inside next =
    let left = next (drop (len text) text) (ends_drop (len text) text ends inside.within) in
    record {
      same = ap₂ (λ m n. m + n) inside.same (same_behind more len text rest ends inside (λ left e. (next left e).same));
      within = omega (arith, inside.within, left.within, length-drop (len text) text);
    }

-- a run that a newline ends
pub run_inside : (passes : ℕ → Bool) (text rest : List ℕ) → passes 10 ≡ false → EndsLine text → IsInside (prefix_len passes) text rest
run_inside passes text rest none ends = by_front (λ t. IsInside (prefix_len passes) t rest) text ends lines
  where
    lines : (front : List ℕ) → IsInside (prefix_len passes) (front ++ 10 ∷ []) rest
    lines [] = record {
      same = ap (λ b. cond b (1 + prefix_len passes rest) 0) none ∙ sym (ap (λ b. cond b 1 0) none);
      within = subst (λ b. cond b 1 0 < 1) (sym none) (omega arith);
    }
    lines (b ∷ front) =
        let more = lines front in
        record {
          same = ap (λ n. cond (passes b) (1 + n) 0) more.same;
          within = cond_both (passes b) (1 + prefix_len passes (front ++ 10 ∷ [])) 0 (λ n. n < length (b ∷ (front ++ 10 ∷ [])))
              (λ holds. omega (arith, more.within))
              (λ fails. omega arith);
        }
