-- Blanks before the end of a line.
use Rattle.std.proofs.Common.{arith, ◌≡◌, ◌∙◌, ℕ, ◌+◌, ◌≤◌, ◌==◌, ◌&&◌, ◌||◌, not, cond, Bool, true, false, inl, inr, List, [], ◌∷◌, ◌++◌, length, take, drop, filter, refl, ap, sym, append_assoc}
use Rattle.std.proofs.lemmas.Bool.{cases_Bool, cond-true, cond-false}
use Rattle.std.proofs.lemmas.Bool.Decides.{nat_tests}
use Rattle.std.proofs.Math.ListN.{drop_of_length-le}
use Rattle.std.proofs.Math.Seq.{drop-length, take-length}
use Rattle.std.proofs.lemmas.List.{append-nil, drop-append-le, length-append, take_all}
use Rattle.std.proofs.lemmas.List.Elements.{filter-append}
use Rattle.std.proofs.lemmas.List.Folds.{list_any-append}
use Rattle.sql_trim.specs.Trimmed.{has_line_feed, is_blank, trimmed, without_blanks}

or_turned : (a b c : Bool) → (a || (b || c)) ≡ ((a || c) || b)
or_turned true true true = refl
or_turned true true false = refl
or_turned true false true = refl
or_turned true false false = refl
or_turned false true true = refl
or_turned false true false = refl
or_turned false false true = refl
or_turned false false false = refl

-- white space behind which a line ends keeps no blank
pub trimmed-ended : (bytes : List ℕ) → trimmed true bytes ≡ without_blanks bytes
trimmed-ended [] = refl
trimmed-ended (byte ∷ behind) = elim (cases_Bool (is_blank byte)) [
  | inl blank ↦
      let same = trimmed-ended behind in
      rw blank same
  | inr other ↦
      let same = trimmed-ended behind in
      rw other (ap (λ l. byte ∷ l) same)
]

kept_or_gone : (blank x y : Bool) (byte : ℕ) (whole front back : List ℕ) → x ≡ y → whole ≡ front ++ back
    → cond (blank && x) whole (byte ∷ whole) ≡ cond (blank && y) front (byte ∷ front) ++ back
kept_or_gone true true y byte whole front back same is = rw (← same) is
kept_or_gone true false y byte whole front back same is = rw (← same) (ap (λ l. byte ∷ l) is)
kept_or_gone false x y byte whole front back same is = ap (λ l. byte ∷ l) is

-- white space in two parts
pub trimmed-append : (ends : Bool) (front back : List ℕ)
    → trimmed ends (front ++ back) ≡ trimmed (ends || has_line_feed back) front ++ trimmed ends back
trimmed-append ends [] back = refl
trimmed-append ends (byte ∷ front) back =
    kept_or_gone (is_blank byte) (ends || has_line_feed (front ++ back)) ((ends || has_line_feed back) || has_line_feed front) byte
    (trimmed ends (front ++ back)) (trimmed (ends || has_line_feed back) front) (trimmed ends back)
    (ap (λ b. ends || b) (list_any-append (λ b. b == 10) front back) ∙ or_turned ends (has_line_feed front) (has_line_feed back))
    (trimmed-append ends front back)

-- ---- the last line feed

-- a line feed is no blank
feed_stays : (byte : ℕ) → (byte == 10) ≡ true → is_blank byte ≡ false
feed_stays byte feed = grind (arith, nat_tests)

-- one more byte
module _ (front : List ℕ) (byte : ℕ) where
  more : trimmed false (front ++ byte ∷ []) ≡ trimmed ((byte == 10) || false) front ++ byte ∷ []
  more = trimmed-append false front (byte ∷ []) ∙ ap (λ l. trimmed ((byte == 10) || false) front ++ l) (last (is_blank byte))
    where
      last : (blank : Bool) → cond (blank && (false || false)) [] (byte ∷ []) ≡ byte ∷ []
      last true = refl
      last false = refl

  pub trimmed-feed : (byte == 10) ≡ true → trimmed false (front ++ byte ∷ []) ≡ without_blanks (front ++ byte ∷ [])
  trimmed-feed feed =
      more
      ∙ (ap (λ b. trimmed (b || false) front ++ byte ∷ []) feed
      ∙ (ap (λ l. l ++ byte ∷ []) (trimmed-ended front)
      ∙ sym (filter-append (λ b. not (is_blank b)) front (byte ∷ [])
      ∙ ap (λ b. without_blanks front ++ cond (not b) (byte ∷ []) []) (feed_stays byte feed))))

  pub trimmed-other : (byte == 10) ≡ false → trimmed false (front ++ byte ∷ []) ≡ trimmed false front ++ byte ∷ []
  trimmed-other other = more ∙ ap (λ b. trimmed (b || false) front ++ byte ∷ []) other

-- so many bytes stand before an end of a line
pub record EndLines (bytes : List ℕ) (len count : ℕ) : Type 0 where
  pub within : len ≤ count
  pub same : trimmed false (take count bytes) ≡ without_blanks (take len bytes) ++ drop len (take count bytes)

-- one more byte
module _ {bytes : List ℕ} {len count : ℕ} (s : EndLines bytes len count) (byte : ℕ) (is : take (count + 1) bytes ≡ take count bytes ++ byte ∷ []) (long : length (take count bytes) ≡ count) where
  pub lines_feed : (byte == 10) ≡ true → EndLines bytes (count + 1) (count + 1)
  lines_feed feed =
      let none : drop (count + 1) (take (count + 1) bytes) ≡ [] = drop_of_length-le (take (count + 1) bytes) (omega (arith, ap length is, length-append (take count bytes) (byte ∷ []), long)) in
      record {
        within = omega arith;
        same = ap (trimmed false) is
            ∙ (trimmed-feed (take count bytes) byte feed
            ∙ (ap without_blanks (sym is) ∙ (sym (append-nil (without_blanks (take (count + 1) bytes))) ∙ ap (λ l. without_blanks (take (count + 1) bytes) ++ l) (sym none))));
      }

  pub lines_other : (byte == 10) ≡ false → EndLines bytes len (count + 1)
  lines_other other =
      let rest : drop len (take count bytes ++ byte ∷ []) ≡ drop len (take count bytes) ++ byte ∷ [] = drop-append-le len (take count bytes) (byte ∷ []) (omega (arith, s.within, long)) in
      record {
        within = omega (arith, s.within);
        same = ap (trimmed false) is
            ∙ (trimmed-other (take count bytes) byte other
            ∙ (ap (λ l. l ++ byte ∷ []) s.same
            ∙ (append_assoc (without_blanks (take len bytes)) (drop len (take count bytes)) (byte ∷ [])
            ∙ (ap (λ l. without_blanks (take len bytes) ++ l) (sym rest) ∙ ap (λ l. without_blanks (take len bytes) ++ drop len l) (sym is)))));
      }

-- all bytes
module _ (bytes : List ℕ) where
  pub lines_all : trimmed true bytes ≡ without_blanks (take (length bytes) bytes) ++ drop (length bytes) bytes
  lines_all =
      trimmed-ended bytes
      ∙ (ap without_blanks (sym (take-length bytes))
      ∙ (sym (append-nil (without_blanks (take (length bytes) bytes))) ∙ ap (λ l. without_blanks (take (length bytes) bytes) ++ l) (sym (drop-length bytes))))

  pub lines_read : (len count : ℕ) → EndLines bytes len count → length bytes ≤ count → trimmed false bytes ≡ without_blanks (take len bytes) ++ drop len bytes
  lines_read len count s all =
      let is : take count bytes ≡ bytes = take_all count bytes all in
      ap (trimmed false) (sym is) ∙ (s.same ∙ ap (λ l. without_blanks (take len bytes) ++ drop len l) is)
