-- Lines of data: their content, and that each text has them.
use Rattle.std.proofs.Common.{◌≡◌, ◌≢◌, ◌∙◌, ℕ, zero, suc, ◌+◌, ◌-◌, ◌<◌, ◌≤◌, ◌==◌, not, true, false, Bool, List, [], ◌∷◌, ◌++◌, length, take, drop, get_or, get_or-take, append_assoc, length-drop, arith, ap, refl, sym, subst}
use Rattle.std.proofs.Common.{add-one, drop-cons, ◌⊎◌, ⊎_elim, inl, inr}
use Rattle.std.specs.Prelude.{slice_index, nat_lt, codes, ◌&&◌, if◌then◌else◌}
use Rattle.std.specs.List.{All}
use Rattle.std.specs.Str.{bytes_eq}
use Rattle.std.specs.Io.BufRead.{ends_with_byte}
use Rattle.std.proofs.Math.Seq.{take-append_seam}
use Rattle.std.proofs.lemmas.Bool.{and_parts, cond_both, cond-true, cases_lt, eqb-false, eqb-true, false≢true}
use Rattle.std.proofs.lemmas.Bool.Decides.{nat_tests}
use Rattle.std.proofs.lemmas.List.{length-take-le, take-append-drop, take_all, take-take, drop_all, drop-append-le}
use Rattle.std.proofs.lemmas.List.Elements.{All-cons, All-drop, All-head, All-nil, All-tail}
use Rattle.std.proofs.lemmas.List.Sums.{fails_before_first, passes_at_first, prefix_len-le-length}
use Rattle.sql_lexer.specs.CopyData.{HasEnd, HasNoEnd, IsDataLine, content_of, text_of}
use Rattle.sql_lexer.specs.Scripts.{ends_data, line_len, newline_at}
use Rattle.sql_lexer.proofs.LinesFit.{line_ends_well}
use lib.Pointwise.{bytes_decides}

-- ---- lines

is_other : (b : ℕ) → b ≢ 10 → not (b == 10) ≡ true
is_other b other = grind (arith, nat_tests)

-- the newline of a line stands after its bytes
newline_after : (line more : List ℕ) → All (λ b. b ≢ 10) line → newline_at more ≡ 0 → newline_at (line ++ more) ≡ length line
newline_after [] more one e = e
newline_after (b ∷ line) more one e =
    let here = is_other b (All-head (λ b. b ≢ 10) b line one) in
    let others = newline_after line more (All-tail (λ b. b ≢ 10) b line one) e in
    cond-true (not (b == 10)) (1 + newline_at (line ++ more)) 0 here ∙ omega (arith, others)

and_true : {a b : Bool} → a ≡ true → b ≡ true → (a && b) ≡ true
and_true p q = cc

not_true : (b : Bool) → (b ≡ true → ⊥) → b ≡ false
not_true true never = absurd (never refl)
not_true false never = refl

-- the last of the first n bytes is that of the text
ends_alike : (text : List ℕ) (n : ℕ) → n ≤ length text → 0 < n → slice_index (take n text) (length (take n text) - 1) ≡ slice_index text (n - 1)
ends_alike text n le some =
    ap (λ m. slice_index (take n text) (m - 1)) (length-take-le n text le) ∙ get_or-take n text (n - 1) 0 (omega arith)

-- where the text has a carriage return at n - 1 but its first n bytes don't end with one, n is 0
no_return : (text : List ℕ) (n : ℕ) → n ≤ length text → ends_with_byte 13 (take n text) ≡ false → (slice_index text (n - 1) == 13) ≡ true → n - 1 ≡ n
no_return text zero le e f = omega arith
no_return text (suc n) le e f =
    let line = take (suc n) text in
    let whole = length-take-le (suc n) text le in
    let some : nat_lt 0 (length line) ≡ true = grind (arith, nat_tests, whole) in
    let same : (slice_index line (length line - 1) == 13) ≡ true = ap (λ b. b == 13) (ends_alike text (suc n) le (omega arith)) ∙ f in
    absurd (false≢true (sym e ∙ and_true some same))

-- the content of the first n bytes
content_in : (text : List ℕ) (n : ℕ) → n ≤ length text → take (if slice_index text (n - 1) == 13 then n - 1 else n) text ≡ content_of (take n text)
content_in text n le =
    let line = take n text in
    let whole = length-take-le n text le in
    let last = slice_index text (n - 1) in
    cond_both (ends_with_byte 13 line) (take (length line - 1) line) line (λ content. take (if last == 13 then n - 1 else n) text ≡ content)
    (λ e.
    let parts = and_parts (nat_lt 0 (length line)) (slice_index line (length line - 1) == 13) e in
    let some : 0 < n = grind (arith, nat_tests, whole, parts.0) in
    let same : (last == 13) ≡ true = ap (λ b. b == 13) (sym (ends_alike text n le some)) ∙ parts.1 in
    ap (λ m. take m text) (cond-true (last == 13) (n - 1) n same)
    ∙ sym (take-take (n - 1) n text (omega arith)) ∙ ap (λ m. take (m - 1) line) (sym whole))
    (λ e. cond_both (last == 13) (n - 1) n (λ m. take m text ≡ line)
    (λ f. ap (λ m. take m text) (no_return text n le e f))
    (λ f. refl))

pub content_at : (text : List ℕ) → take (line_len text) text ≡ content_of (take (newline_at text) text)
content_at text = content_in text (newline_at text) (prefix_len-le-length (λ b. not (b == 10)) text)

pub content_len : (text : List ℕ) → line_len text ≡ length (content_of (take (newline_at text) text))
content_len text = sym (length-take-le (line_len text) text (line_ends_well text).0) ∙ ap length (content_at text)

-- what is left of a line after its content
abbrev pub left_of : List ℕ → List ℕ
left_of line = drop (length (content_of line)) line

pub left_is : (line : List ℕ) → (left_of line ≡ []) ⊎ (left_of line ≡ 13 ∷ [])
left_is line =
    let k = length line in
    cond_both (ends_with_byte 13 line) (take (k - 1) line) line (λ content. (drop (length content) line ≡ []) ⊎ (drop (length content) line ≡ 13 ∷ []))
    (λ e.
    let parts = and_parts (nat_lt 0 k) (slice_index line (k - 1) == 13) e in
    let some : 0 < k = grind (arith, nat_tests, parts.0) in
    let same : slice_index line (k - 1) ≡ 13 = eqb-true (slice_index line (k - 1)) 13 parts.1 in
    let none : drop (suc (k - 1)) line ≡ [] = drop_all (suc (k - 1)) line (omega arith) in
    inr (ap (λ m. drop m line) (length-take-le (k - 1) line (omega arith))
    ∙ drop-cons line (k - 1) 0 (omega arith) ∙ ap (λ b. b ∷ drop (suc (k - 1)) line) same ∙ ap (λ others. 13 ∷ others) none))
    (λ e. inl (drop_all k line (omega arith)))

pub content_within : (line : List ℕ) → length (content_of line) ≤ length line
content_within line =
    cond_both (ends_with_byte 13 line) (take (length line - 1) line) line (λ content. length content ≤ length line)
    (λ e. omega (arith, length-take-le (length line - 1) line (omega arith)))
    (λ e. omega arith)

-- ---- a line in front

module _ (line more : List ℕ) (one : All (λ b. b ≢ 10) line) (ends : newline_at more ≡ 0) where
  pub in_front : take (newline_at (line ++ more)) (line ++ more) ≡ line
  in_front = ap (λ n. take n (line ++ more)) (newline_after line more one ends) ∙ take-append_seam line more

  pub len_in_front : line_len (line ++ more) ≡ length (content_of line)
  len_in_front = content_len (line ++ more) ∙ ap (λ first. length (content_of first)) in_front

  pub content_in_front : take (line_len (line ++ more)) (line ++ more) ≡ content_of line
  content_in_front = content_at (line ++ more) ∙ ap content_of in_front

  pub no_end_in_front : content_of line ≢ codes "\\." → ends_data (line ++ more) ≡ false
  no_end_in_front other =
      not_true (ends_data (line ++ more)) (λ e. other (sym content_in_front ∙ (bytes_decides (take (line_len (line ++ more)) (line ++ more)) (codes "\\.")).0 e))

-- a carriage return has no content
content_of_left : (left : List ℕ) → (left ≡ []) ⊎ (left ≡ 13 ∷ []) → content_of left ≡ []
content_of_left left (inl none) = ap content_of none
content_of_left left (inr return) = ap content_of return

-- the first of some lines
pub lines_apart : (line : List ℕ) (lines : List (List ℕ)) (rest : List ℕ) → text_of (line ∷ lines) ++ rest ≡ line ++ 10 ∷ (text_of lines ++ rest)
lines_apart line lines rest = append_assoc (line ++ 10 ∷ []) (text_of lines) rest ∙ append_assoc line (10 ∷ []) (text_of lines ++ rest)

pub by_case : (b : Bool) (P : Type 0) → (b ≡ true → P) → (b ≡ false → P) → P
by_case true P yes_then no_then = yes_then refl
by_case false P yes_then no_then = no_then refl

-- ---- a text by its lines

module _ (text : List ℕ) where
  abbrev line : List ℕ
  line = take (newline_at text) text

  abbrev behind : List ℕ
  behind = drop (newline_at text) text

  newline_within : newline_at text ≤ length text
  newline_within = prefix_len-le-length (λ b. not (b == 10)) text

  is_one : All (λ b. b ≢ 10) line
  is_one = λ k d lt same.
      let whole = length-take-le (newline_at text) text newline_within in
      let front : get_or line k d ≡ get_or text k d = get_or-take (newline_at text) text k d (omega (arith, whole)) in
      let fails = fails_before_first (λ b. b == 10) text k d (omega (arith, whole)) in
      absurd (eqb-false (get_or text k d) 10 fails (sym front ∙ same))

  -- at the end of a line a newline stands, or the text ends
  newline_next : newline_at text < length text → behind ≡ 10 ∷ drop (newline_at text + 1) text
  newline_next lt =
      let here = eqb-true (get_or text (newline_at text) 0) 10 (passes_at_first (λ b. b == 10) text 0 lt) in
      drop-cons text (newline_at text) 0 lt
      ∙ (ap (λ b. b ∷ drop (suc (newline_at text)) text) here ∙ ap (λ n. 10 ∷ drop n text) (sym (add-one (newline_at text))))

  newline_follows : newline_at behind ≡ 0
  newline_follows =
      ⊎_elim
      (λ lt. ap newline_at (newline_next lt))
      (λ le. ap newline_at (drop_all (newline_at text) text le))
      (cases_lt (newline_at text) (length text))

  has_end : content_of line ≡ codes "\\." → HasEnd text
  has_end is =
      let len : length (content_of line) ≡ 2 = ap length is in
      let two : line_len text ≡ 2 = content_len text ∙ len in
      let front : take 2 text ≡ codes "\\." = ap (λ n. take n text) (sym two) ∙ (content_at text ∙ is) in
      let left = left_of line in
      let rest : drop 2 text ≡ left ++ behind =
      ap (drop 2) (sym (take-append-drop (newline_at text) text))
      ∙ (ap (λ n. drop n (line ++ behind)) (sym len) ∙ drop-append-le (length (content_of line)) line behind (content_within line)) in
      let one = All-drop (λ b. b ≢ 10) (length (content_of line)) line is_one in
      record {
        lines = [];
        rest = left ++ behind;
        are = All-nil IsDataLine;
        ends = ap content_of (in_front left behind one newline_follows) ∙ content_of_left left (left_is line);
        whole = sym (take-append-drop 2 text) ∙ (ap (λ content. content ++ drop 2 text) front ∙ ap (λ others. codes "\\." ++ others) rest);
      }

-- a line more in front of a text
abbrev Ends : List ℕ → Type 0
Ends text = HasEnd text ⊎ HasNoEnd text

line_before : (line text : List ℕ) → IsDataLine line → Ends text → Ends (line ++ 10 ∷ text)
line_before line text is (inl has) = inl (record {
  lines = line ∷ has.lines;
  rest = has.rest;
  are = All-cons IsDataLine line has.lines is has.are;
  ends = has.ends;
  whole = ap (λ more. line ++ 10 ∷ more) has.whole ∙ sym (lines_apart line has.lines (codes "\\." ++ has.rest));
})
line_before line text is (inr has) = inr (record {
  lines = line ∷ has.lines;
  last = has.last;
  are = All-cons IsDataLine line has.lines is has.are;
  is = has.is;
  whole = ap (λ more. line ++ 10 ∷ more) has.whole ∙ sym (lines_apart line has.lines has.last);
})

last_alone : (text : List ℕ) → IsDataLine text → Ends text
last_alone text is = inr (record { lines = []; last = text; are = All-nil IsDataLine; is = is; whole = refl })

every_by : (most : ℕ) (text : List ℕ) → length text ≤ most → Ends text
every_by zero [] le = last_alone [] (record { one = All-nil (λ b. b ≢ 10); other = λ e. absurd (omega (arith, ap length e)) })
every_by zero (b ∷ text) le = absurd (omega arith)
every_by (suc most) text le =
    let n = newline_at text in
    by_case (bytes_eq (content_of (line text)) (codes "\\.")) (Ends text)
    (λ e. inl (has_end text ((bytes_decides (content_of (line text)) (codes "\\.")).0 e)))
    (λ e.
    let is : IsDataLine (line text) = record {
      one = is_one text;
      other = λ same. absurd (false≢true (sym e ∙ (bytes_decides (content_of (line text)) (codes "\\.")).1 same));
    } in
    ⊎_elim
    (λ lt.
    let others = every_by most (drop (n + 1) text) (omega (arith, length-drop (n + 1) text)) in
    let same : line text ++ 10 ∷ drop (n + 1) text ≡ text =
    ap (λ more. line text ++ more) (sym (newline_next text lt)) ∙ take-append-drop n text in
    subst Ends same (line_before (line text) (drop (n + 1) text) is others))
    (λ long. last_alone text (subst IsDataLine (take_all n text long) is))
    (cases_lt n (length text)))

pub every : (text : List ℕ) → Ends text
every text = every_by (length text) text (omega arith)
