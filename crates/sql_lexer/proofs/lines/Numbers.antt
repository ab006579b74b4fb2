-- Numbers and parameters don't reach over a newline.
use Rattle.std.proofs.Common.{◌≡◌, ◌∙◌, ℕ, ◌+◌, ◌<◌, ◌==◌, ◌&&◌, ◌||◌, not, Bool, true, false, Some, None, List, [], ◌∷◌, ◌++◌, length, drop, arith, ap, ap₂, refl, sym, subst}
use Rattle.std.specs.Prelude.{slice_index, nat_lt, if◌then◌else◌}
use Rattle.std.specs.Char.{is_ascii_digit, to_ascii_lowercase}
use Rattle.std.specs.List.{prefix_len}
use Rattle.std.proofs.lemmas.Bool.{and_parts, and_right, cond_both}
use Rattle.squawk_tokens.specs.declared.token.TokenKind.TheVariants.{Literal, PositionalParam}
use Rattle.squawk_tokens.specs.declared.token.LiteralKind.{LiteralKind}
use Rattle.squawk_tokens.specs.declared.token.LiteralKind.TheVariants.{Int, Numeric}
use Rattle.squawk_tokens.specs.declared.token.Base.{Base}
use Rattle.squawk_tokens.specs.declared.token.Base.TheVariants.{Binary, Octal, Decimal, Hexadecimal}
use Rattle.sql_lexer.specs.Bytes.{is_name_start, is_name_part}
use Rattle.sql_lexer.specs.Lines.{EndsLine}
use Rattle.sql_lexer.specs.Rules.{token, first, when}
use Rattle.sql_lexer.specs.Identifiers.{junk_len}
use Rattle.sql_lexer.specs.Numbers.{is_digit, digits_len, has_base, based, whole_len, fraction_len, sign_len, is_exponent, exponent_start_len, exponent_len, is_empty_exponent, is_whole_before, with_junk, with_exponent, binary, octal, hexadecimal, decimal, point_number, parameter}
use Rattle.sql_lexer.proofs.lines.LineParts.{IsInside, by_front, same_if, same_first, more_than_one, same_two, more_than_two, at_place, if_inside, same_behind, then_inside, run_inside}

-- ---- digits

no_digit : (base : Base) → is_digit base 10 ≡ false
no_digit Binary = refl
no_digit Octal = refl
no_digit Decimal = refl
no_digit Hexadecimal = refl

none_at_newline : (base : Base) (rest : List ℕ) → digits_len base (10 ∷ rest) ≡ 0
none_at_newline base [] = ap (λ b. if b then 1 else 0) (no_digit base)
none_at_newline base (c ∷ rest) = ap (λ b. if b then 1 + digits_len base (c ∷ rest) else 0) (no_digit base)

one_at_newline : (base : Base) (b : ℕ) (rest : List ℕ) → digits_len base (b ∷ 10 ∷ rest) ≡ (if is_digit base b then 1 else 0)
one_at_newline base b rest =
    ap₂ (λ n skips. if is_digit base b then 1 + n else if skips then 2 + digits_len base rest else 0)
    (none_at_newline base rest)
    (and_right (b == 95) (is_digit base 10) (no_digit base))

digits_inside : (base : Base) (text rest : List ℕ) → EndsLine text → IsInside (digits_len base) text rest
digits_inside base text rest ends = by_front (λ t. IsInside (digits_len base) t rest) text ends lines
  where
    lines : (front : List ℕ) → IsInside (digits_len base) (front ++ 10 ∷ []) rest
    lines [] = record { same = none_at_newline base rest ∙ sym (none_at_newline base []); within = omega (arith, none_at_newline base []) }
    lines (b ∷ []) = record {
      same = one_at_newline base b rest ∙ sym (one_at_newline base b []);
      within = subst (λ n. n < 2) (sym (one_at_newline base b [])) (cond_both (is_digit base b) 1 0 (λ n. n < 2) (λ holds. omega arith) (λ fails. omega arith));
    }
    lines (b ∷ c ∷ front) =
        let left = front ++ 10 ∷ [] in
        let one : IsInside (digits_len base) (c ∷ left) rest = lines (c ∷ front) in
        let two : IsInside (digits_len base) left rest = lines front in
        let skips = (b == 95) && is_digit base c in
        record {
          same = ap₂ (λ m n. if is_digit base b then 1 + m else if skips then 2 + n else 0) one.same two.same;
          within = cond_both (is_digit base b) (1 + digits_len base (c ∷ left)) (if skips then 2 + digits_len base left else 0) (λ n. n < length (b ∷ c ∷ left))
              (λ holds. omega (arith, one.within))
              (λ fails. cond_both skips (2 + digits_len base left) 0 (λ n. n < length (b ∷ c ∷ left)) (λ holds. omega (arith, two.within)) (λ fails. omega arith));
        }

whole_inside : (text rest : List ℕ) → EndsLine text → IsInside whole_len text rest
whole_inside text rest ends =
    if_inside (λ t. is_ascii_digit (first t)) (digits_len Decimal) text rest ends (ap is_ascii_digit (same_first text rest ends)) (λ holds. digits_inside Decimal text rest ends)

-- ---- fractions and exponents

fraction_inside : (text rest : List ℕ) → EndsLine text → IsInside fraction_len text rest
fraction_inside text rest ends =
    if_inside (λ t. (first t == 46) && not (slice_index t 1 == 46)) (λ t. 1 + whole_len (drop 1 t)) text rest ends
    (same_two (λ b. b == 46) refl (λ b. not (b == 46)) text rest ends)
    (λ holds.
    let lt = more_than_one (λ b. b == 46) refl text ends (and_parts (first text == 46) (not (slice_index text 1 == 46)) holds).0 in
    then_inside (λ t. 1) whole_len text rest ends (at_place 1 text rest lt) (λ left e. whole_inside left rest e))

abbrev is_sign : ℕ → Bool
is_sign b = (b == 43) || (b == 45)

sign_inside : (text rest : List ℕ) → EndsLine text → IsInside sign_len text rest
sign_inside text rest ends =
    if_inside (λ t. is_sign (first t)) (λ t. 1) text rest ends (ap is_sign (same_first text rest ends))
    (λ holds. at_place 1 text rest (more_than_one is_sign refl text ends holds))

same_e : (text rest : List ℕ) → EndsLine text → is_exponent (text ++ rest) ≡ is_exponent text
same_e text rest ends = ap (λ b. to_ascii_lowercase b == 101) (same_first text rest ends)

start_inside : (text rest : List ℕ) → EndsLine text → is_exponent text ≡ true → IsInside exponent_start_len text rest
start_inside text rest ends e =
    let lt = more_than_one (λ b. to_ascii_lowercase b == 101) refl text ends e in
    then_inside (λ t. 1) sign_len text rest ends (at_place 1 text rest lt) (λ left ends. sign_inside left rest ends)

exponent_inside : (text rest : List ℕ) → EndsLine text → IsInside exponent_len text rest
exponent_inside text rest ends =
    if_inside is_exponent (λ t. exponent_start_len t + whole_len (drop (exponent_start_len t) t)) text rest ends (same_e text rest ends)
    (λ holds. then_inside exponent_start_len whole_len text rest ends (start_inside text rest ends holds) (λ left e. whole_inside left rest e))

same_empty : (text rest : List ℕ) → EndsLine text → is_empty_exponent (text ++ rest) ≡ is_empty_exponent text
same_empty text rest ends =
    let none = λ (t : List ℕ). whole_len (drop (exponent_start_len t) t) == 0 in
    same_if (is_exponent (text ++ rest)) (is_exponent text) (λ b. b && none (text ++ rest)) (λ b. b && none text) (same_e text rest ends)
    (λ holds. same_behind (λ t. whole_len t == 0) exponent_start_len text rest ends (start_inside text rest ends holds)
    (λ left e. ap (λ n. n == 0) (whole_inside left rest e).same))
    refl

-- ---- junk

junk_inside : (text rest : List ℕ) → EndsLine text → IsInside junk_len text rest
junk_inside text rest ends =
    if_inside (λ t. is_name_start (first t)) (prefix_len is_name_part) text rest ends (ap is_name_start (same_first text rest ends))
    (λ holds. run_inside is_name_part text rest refl ends)

behind_junk : (n : ℕ) (text rest : List ℕ) → EndsLine text → n < length text → n + junk_len (drop n (text ++ rest)) ≡ n + junk_len (drop n text)
behind_junk n text rest ends lt = (then_inside (λ t. n) junk_len text rest ends (at_place n text rest lt) (λ left e. junk_inside left rest e)).same

same_junk : (kind : LiteralKind) (n : ℕ) (text rest : List ℕ) → EndsLine text → n < length text → with_junk kind n (text ++ rest) ≡ with_junk kind n text
same_junk kind n text rest ends lt = ap (λ len. token (Literal kind) len) (behind_junk n text rest ends lt)

same_exponent : (n : ℕ) (text rest : List ℕ) → EndsLine text → n < length text → with_exponent n (text ++ rest) ≡ with_exponent n text
same_exponent n text rest ends lt =
    let place = at_place n text rest lt in
    let exponent = drop n text in
    let end = then_inside (λ t. n) exponent_len text rest ends place (λ left e. exponent_inside left rest e) in
    ap₂ (λ empty end. with_junk (Numeric (if empty then Some n else None) end) end (text ++ rest))
    (same_behind is_empty_exponent (λ t. n) text rest ends place (λ left e. same_empty left rest e))
    end.same
    ∙ same_junk (Numeric (if is_empty_exponent exponent then Some n else None) (n + exponent_len exponent)) (n + exponent_len exponent) text rest ends end.within

-- ---- numbers of another base

same_based : (base : Base) (text rest : List ℕ) → EndsLine text → 2 < length text → based base (text ++ rest) ≡ based base text
same_based base text rest ends lt =
    let place = at_place 2 text rest lt in
    let digits = digits_len base (drop 2 text) in
    let len = then_inside (λ t. 2) (digits_len base) text rest ends place (λ left e. digits_inside base left rest e) in
    ap (λ n. with_junk (Int (n == 0) base (2 + n)) (2 + n) (text ++ rest)) (same_behind (digits_len base) (λ t. 2) text rest ends place (λ left e. (digits_inside base left rest e).same))
    ∙ same_junk (Int (digits == 0) base (2 + digits)) (2 + digits) text rest ends len.within

same_of_base : (base : Base) (letter : ℕ) (text rest : List ℕ) → (to_ascii_lowercase 10 == letter) ≡ false → EndsLine text
    → when (has_base letter (text ++ rest)) (based base (text ++ rest)) ≡ when (has_base letter text) (based base text)
same_of_base base letter text rest other ends =
    let is_zero = λ (b : ℕ). b == 48 in
    let is_letter = λ (b : ℕ). to_ascii_lowercase b == letter in
    same_if (has_base letter (text ++ rest)) (has_base letter text) (λ b. when b (based base (text ++ rest))) (λ b. when b (based base text))
    (same_two is_zero refl is_letter text rest ends)
    (λ holds. ap Some (same_based base text rest ends (more_than_two is_zero refl is_letter other text ends holds)))
    refl

pub same-binary : (text rest : List ℕ) → EndsLine text → binary (text ++ rest) ≡ binary text
same-binary text rest ends = same_of_base Binary 98 text rest refl ends

pub same-octal : (text rest : List ℕ) → EndsLine text → octal (text ++ rest) ≡ octal text
same-octal text rest ends = same_of_base Octal 111 text rest refl ends

pub same-hexadecimal : (text rest : List ℕ) → EndsLine text → hexadecimal (text ++ rest) ≡ hexadecimal text
same-hexadecimal text rest ends = same_of_base Hexadecimal 120 text rest refl ends

-- ---- decimal numbers

same_whole : (text rest : List ℕ) → EndsLine text → is_whole_before (text ++ rest) ≡ is_whole_before text
same_whole text rest ends = ap₂ (λ n e. (n == 0) && not e) (fraction_inside text rest ends).same (same_e text rest ends)

pub same-decimal : (text rest : List ℕ) → EndsLine text → decimal (text ++ rest) ≡ decimal text
same-decimal text rest ends =
    let longer = text ++ rest in
    let front = whole_inside text rest ends in
    let whole = whole_len text in
    let left = drop whole text in
    let place = at_place whole text rest front.within in
    let fraction = then_inside (λ t. whole) fraction_len text rest ends place (λ left e. fraction_inside left rest e) in
    ap₂ (λ digit n. when digit (if is_whole_before (drop n longer) then with_junk (Int false Decimal n) n longer else with_exponent (n + fraction_len (drop n longer)) longer))
    (ap is_ascii_digit (same_first text rest ends))
    front.same
    ∙ ap₂ (λ is_whole n. when (is_ascii_digit (first text)) (if is_whole then with_junk (Int false Decimal whole) whole longer else with_exponent n longer))
    (same_behind is_whole_before (λ t. whole) text rest ends place (λ left e. same_whole left rest e))
    fraction.same
    ∙ ap₂ (λ integer number. when (is_ascii_digit (first text)) (if is_whole_before left then integer else number))
    (same_junk (Int false Decimal whole) whole text rest ends front.within)
    (same_exponent (whole + fraction_len left) text rest ends fraction.within)

pub same-point_number : (text rest : List ℕ) → EndsLine text → point_number (text ++ rest) ≡ point_number text
same-point_number text rest ends =
    let fraction = fraction_inside text rest ends in
    let n = fraction_len text in
    ap (λ n. when (nat_lt 1 n) (with_exponent n (text ++ rest))) fraction.same
    ∙ ap (λ number. when (nat_lt 1 n) number) (same_exponent n text rest ends fraction.within)

-- ---- parameters

pub same-parameter : (text rest : List ℕ) → EndsLine text → parameter (text ++ rest) ≡ parameter text
same-parameter text rest ends =
    let longer = text ++ rest in
    let len = λ (t : List ℕ). 1 + prefix_len is_ascii_digit (drop 1 t) in
    let found = λ (b : Bool) (n : ℕ) (t : List ℕ). when (b && nat_lt 1 n) (token (PositionalParam n) (n + junk_len (drop n t))) in
    same_if (first longer == 36) (first text == 36) (λ b. found b (len longer) longer) (λ b. found b (len text) text) (ap (λ b. b == 36) (same_first text rest ends))
    (λ holds.
    let lt = more_than_one (λ b. b == 36) refl text ends holds in
    let digits = then_inside (λ t. 1) (prefix_len is_ascii_digit) text rest ends (at_place 1 text rest lt) (λ left e. run_inside is_ascii_digit left rest refl e) in
    ap (λ n. found true n longer) digits.same
    ∙ ap (λ n. when (nat_lt 1 (len text)) (token (PositionalParam (len text)) n)) (behind_junk (len text) text rest ends digits.within))
    refl
