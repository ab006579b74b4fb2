-- Numbers and positional parameters fit: what stands before their junk is ASCII.
use Rattle.std.proofs.Common.{◌≡◌, ◌∙◌, ℕ, ◌+◌, ◌-◌, ◌<◌, ◌≤◌, ◌==◌, ◌&&◌, ◌||◌, not, true, false, Bool, Some, None, List, [], ◌∷◌, length, take, drop, get_or, get_or-take, length-take, get_or-drop, arith, sym, subst, refl}
use Rattle.std.specs.Prelude.{IsUtf8, IsCharBoundary, nat_lt, slice_range, slice_index, if◌then◌else◌}
use Rattle.std.specs.Char.{IsAsciiDigit, is_ascii_digit, to_ascii_lowercase}
use Rattle.std.specs.List.{prefix_len}
use Rattle.std.proofs.lemmas.Bool.{cond_both, eqb-true, ltb-true, and_parts, false≢true}
use Rattle.std.proofs.lemmas.Bool.Decides.{nat_tests}
use Rattle.std.proofs.lemmas.List.{length-take-le}
use Rattle.std.proofs.lemmas.List.Elements.{All-from_get_or}
use Rattle.std.proofs.lemmas.List.Sums.{prefix_len_passes}
use Rattle.std.proofs.lemmas.Str.{IsCharBoundary-from_rest, IsCharBoundary-start}
use Rattle.squawk_tokens.specs.declared.token.TokenKind.TheVariants.{PositionalParam}
use Rattle.squawk_tokens.specs.declared.token.LiteralKind.{LiteralKind}
use Rattle.squawk_tokens.specs.declared.token.LiteralKind.TheVariants.{Int, Numeric}
use Rattle.squawk_tokens.specs.declared.token.Base.{Base}
use Rattle.squawk_tokens.specs.declared.token.Base.TheVariants.{Binary, Octal, Decimal, Hexadecimal}
use Rattle.squawk_tokens.specs.TokenRules.{IsLiteral, IsParam}
use Rattle.sql_lexer.specs.Bytes.{is_name_start, is_name_part}
use Rattle.sql_lexer.specs.Rules.{token, first, first_of}
use Rattle.sql_lexer.specs.Identifiers.{junk_len}
use Rattle.sql_lexer.specs.Numbers.{is_digit, digits_len, has_base, based, whole_len, fraction_len, sign_len, is_exponent, exponent_start_len, exponent_len, is_empty_exponent, is_whole_before, with_junk, with_exponent, numbers, point_number, parameter}
use Rattle.sql_lexer.proofs.Boundaries.{IsAsciiFront, no_bytes, one_byte, more_bytes, run_bytes, after_front, in_front, rest_is_utf8}
use Rattle.sql_lexer.proofs.RunsFit.{name_fits}
use Rattle.sql_lexer.proofs.Fits.{Fits, RuleFits, when_fits, first_fits}

-- ---- the parts are ASCII

digits_are_ascii : (base : Base) (b : ℕ) → is_digit base b ≡ true → b < 128
digits_are_ascii Binary b e = grind (arith, nat_tests)
digits_are_ascii Octal b e = grind (arith, nat_tests)
digits_are_ascii Decimal b e = grind (arith, nat_tests)
digits_are_ascii Hexadecimal b e = grind (arith, nat_tests)

no_digit : (base : Base) → is_digit base 0 ≡ false
no_digit Binary = refl
no_digit Octal = refl
no_digit Decimal = refl
no_digit Hexadecimal = refl

digit_byte : (base : Base) (text : List ℕ) → is_digit base (first text) ≡ true → IsAsciiFront text 1
digit_byte base [] e = absurd (false≢true (sym (no_digit base) ∙ e))
digit_byte base (b ∷ rest) e = one_of (b ∷ rest) (omega arith) (digits_are_ascii base b e)
  where
    one_of : (text : List ℕ) → 0 < length text → first text < 128 → IsAsciiFront text 1
    one_of text some ascii = record { within = omega arith; ascii = λ i lt. (let here : i ≡ 0 = omega arith in subst (λ k. get_or text k 0 < 128) (sym here) ascii) }

-- this letter, small or capital
letter_byte : (text : List ℕ) (letter : ℕ) → 0 < letter → letter < 128 → (to_ascii_lowercase (first text) == letter) ≡ true → IsAsciiFront text 1
letter_byte text letter some ascii e = one_byte text (above (first text) letter some e) (below (first text) letter ascii e)
  where
    above : (b letter : ℕ) → 0 < letter → (to_ascii_lowercase b == letter) ≡ true → 0 < b
    above b letter some e = grind (arith, nat_tests)

    below : (b letter : ℕ) → letter < 128 → (to_ascii_lowercase b == letter) ≡ true → b < 128
    below b letter ascii e = grind (arith, nat_tests)

digits_front : (base : Base) (text : List ℕ) → IsAsciiFront text (digits_len base text)
digits_front base [] = no_bytes []
digits_front base (b ∷ []) = cond_both (is_digit base b) 1 0 (IsAsciiFront (b ∷ [])) (λ e. digit_byte base (b ∷ []) e) (λ e. no_bytes (b ∷ []))
digits_front base (b ∷ c ∷ rest) =
    let text = b ∷ c ∷ rest in
    let skips = (b == 95) && is_digit base c in
    cond_both (is_digit base b) (1 + digits_len base (c ∷ rest)) (if skips then 2 + digits_len base rest else 0) (IsAsciiFront text)
    (λ e. more_bytes text 1 (digits_len base (c ∷ rest)) (digit_byte base text e) (digits_front base (c ∷ rest)))
    (λ e. cond_both skips (2 + digits_len base rest) 0 (IsAsciiFront text)
    (λ f.
    let parts = and_parts (b == 95) (is_digit base c) f in
    let underscore = eqb-true b 95 parts.0 in
    more_bytes text 2 (digits_len base rest) (more_bytes text 1 1 (one_byte text (omega (arith, underscore)) (omega (arith, underscore))) (digit_byte base (c ∷ rest) parts.1)) (digits_front base rest))
    (λ f. no_bytes text))

whole_front : (text : List ℕ) → IsAsciiFront text (whole_len text)
whole_front text = cond_both (is_ascii_digit (first text)) (digits_len Decimal text) 0 (IsAsciiFront text) (λ e. digits_front Decimal text) (λ e. no_bytes text)

fraction_front : (text : List ℕ) → IsAsciiFront text (fraction_len text)
fraction_front text =
    cond_both ((first text == 46) && not (slice_index text 1 == 46)) (1 + whole_len (drop 1 text)) 0 (IsAsciiFront text)
    (λ e.
    let point = eqb-true (first text) 46 (and_parts (first text == 46) (not (slice_index text 1 == 46)) e).0 in
    more_bytes text 1 (whole_len (drop 1 text)) (one_byte text (omega (arith, point)) (omega (arith, point))) (whole_front (drop 1 text)))
    (λ e. no_bytes text)

sign_front : (text : List ℕ) → IsAsciiFront text (sign_len text)
sign_front text =
    cond_both ((first text == 43) || (first text == 45)) 1 0 (IsAsciiFront text)
    (λ e. one_byte text (above (first text) e) (below (first text) e))
    (λ e. no_bytes text)
  where
    above : (b : ℕ) → ((b == 43) || (b == 45)) ≡ true → 0 < b
    above b e = grind (arith, nat_tests)

    below : (b : ℕ) → ((b == 43) || (b == 45)) ≡ true → b < 128
    below b e = grind (arith, nat_tests)

exponent_front : (text : List ℕ) → IsAsciiFront text (exponent_len text)
exponent_front text =
    let n = exponent_start_len text in
    cond_both (is_exponent text) (n + whole_len (drop n text)) 0 (IsAsciiFront text)
    (λ e.
    let start = more_bytes text 1 (sign_len (drop 1 text)) (letter_byte text 101 (omega arith) (omega arith) e) (sign_front (drop 1 text)) in
    more_bytes text n (whole_len (drop n text)) start (whole_front (drop n text)))
    (λ e. no_bytes text)

-- ---- junk

junk_ends : (text : List ℕ) → IsUtf8 text → IsCharBoundary text (junk_len text)
junk_ends text utf8 =
    cond_both (is_name_start (first text)) (prefix_len is_name_part text) 0 (IsCharBoundary text) (λ e. (name_fits text e).boundary) (λ e. IsCharBoundary-start text utf8)

behind_junk : (text : List ℕ) (n : ℕ) → IsUtf8 text → IsAsciiFront text n → IsCharBoundary text (n + junk_len (drop n text))
behind_junk text n utf8 front = IsCharBoundary-from_rest text n (junk_len (drop n text)) front.within (junk_ends (drop n text) (rest_is_utf8 text n utf8 front))

-- a literal fits whose kind asks for boundaries in its number alone
junk_fits : (kind : LiteralKind) (n : ℕ) (text : List ℕ) → IsUtf8 text → 0 < n → IsAsciiFront text n
    → ((front : List ℕ) → ((k : ℕ) → k ≤ n → IsCharBoundary front k) → IsLiteral front kind)
    → Fits text (with_junk kind n text)
junk_fits kind n text utf8 some front literal =
    let len = n + junk_len (drop n text) in
    let boundary = behind_junk text n utf8 front in
    record {
      nonempty = omega (arith, some);
      boundary = boundary;
      kind = literal (take len text) (λ k le. in_front text len k boundary.0 (omega arith) (after_front text n k utf8 front le));
    }

-- ---- numbers

-- an integer of another base
has_prefix : (empty : Bool) (base : Base) (n : ℕ) (front : List ℕ) → 2 ≤ n → ((k : ℕ) → k ≤ n → IsCharBoundary front k) → IsLiteral front (Int empty base n)
has_prefix true base n front le inside = tt
has_prefix false Binary n front le inside = (inside n (omega arith), (le, inside 2 le))
has_prefix false Octal n front le inside = (inside n (omega arith), (le, inside 2 le))
has_prefix false Decimal n front le inside = (inside n (omega arith), tt)
has_prefix false Hexadecimal n front le inside = (inside n (omega arith), tt)

based_fits : (base : Base) (letter : ℕ) (text : List ℕ) → 0 < letter → letter < 128 → IsUtf8 text → has_base letter text ≡ true → Fits text (based base text)
based_fits base letter text some ascii utf8 e =
    let digits = digits_len base (drop 2 text) in
    let parts = and_parts (first text == 48) (to_ascii_lowercase (slice_index text 1) == letter) e in
    let zero_byte = eqb-true (first text) 48 parts.0 in
    let second : (to_ascii_lowercase (first (drop 1 text)) == letter) ≡ true = subst (λ b. (to_ascii_lowercase b == letter) ≡ true) (sym (get_or-drop 1 text 0 0)) parts.1 in
    let prefix = more_bytes text 1 1 (one_byte text (omega (arith, zero_byte)) (omega (arith, zero_byte))) (letter_byte (drop 1 text) letter some ascii second) in
    junk_fits (Int (digits == 0) base (2 + digits)) (2 + digits) text utf8 (omega arith) (more_bytes text 2 digits prefix (digits_front base (drop 2 text)))
    (λ front inside. has_prefix (digits == 0) base (2 + digits) front (omega arith) inside)

-- a number with an exponent, which begins with an E where its digits are missing
is_numeric : (empty : Bool) (n end : ℕ) (front : List ℕ) → n ≤ end → (empty ≡ true → n + 1 ≤ end) → ((k : ℕ) → k ≤ end → IsCharBoundary front k)
    → IsLiteral front (Numeric (if empty then Some n else None) end)
is_numeric true n end front le some inside = (inside n le, inside (n + 1) (some refl))
is_numeric false n end front le some inside = inside end (omega arith)

empty_has_e : (text : List ℕ) → is_empty_exponent text ≡ true → 1 ≤ exponent_len text
empty_has_e text e =
    let n = exponent_start_len text in
    let is_one = (and_parts (is_exponent text) (whole_len (drop n text) == 0) e).0 in
    subst (λ b. 1 ≤ (if b then n + whole_len (drop n text) else 0)) (sym is_one) (omega arith)

exponent_fits : (n : ℕ) (text : List ℕ) → IsUtf8 text → 0 < n → IsAsciiFront text n → Fits text (with_exponent n text)
exponent_fits n text utf8 some front =
    let exponent = drop n text in
    let end = n + exponent_len exponent in
    let empty = is_empty_exponent exponent in
    junk_fits (Numeric (if empty then Some n else None) end) end text utf8 (omega (arith, some)) (more_bytes text n (exponent_len exponent) front (exponent_front exponent))
    (λ front inside. is_numeric empty n end front (omega arith) (λ e. omega (arith, empty_has_e exponent e)) inside)

decimal_fits : (text : List ℕ) → IsUtf8 text → is_ascii_digit (first text) ≡ true
    → Fits text (if is_whole_before (drop (whole_len text) text) then with_junk (Int false Decimal (whole_len text)) (whole_len text) text
    else with_exponent (whole_len text + fraction_len (drop (whole_len text) text)) text)
decimal_fits text utf8 e =
    let whole = whole_len text in
    let rest = drop whole text in
    let front = whole_front text in
    let some : 0 < whole = digits_some text e in
    cond_both (is_whole_before rest) (with_junk (Int false Decimal whole) whole text) (with_exponent (whole + fraction_len rest) text) (Fits text)
    (λ f. junk_fits (Int false Decimal whole) whole text utf8 some front (λ front inside. (inside whole (omega arith), tt)))
    (λ f. exponent_fits (whole + fraction_len rest) text utf8 (omega (arith, some)) (more_bytes text whole (fraction_len rest) front (fraction_front rest)))
  where
    digits_some : (text : List ℕ) → is_ascii_digit (first text) ≡ true → 0 < whole_len text
    digits_some [] e = absurd (false≢true e)
    digits_some (b ∷ []) e = rw e (omega arith)
    digits_some (b ∷ c ∷ rest) e = rw e (omega arith)

pub numbers_fit : (text : List ℕ) → IsUtf8 text → RuleFits text (first_of numbers text)
numbers_fit text utf8 =
    let whole = whole_len text in
    let rest = drop whole text in
    first_fits numbers text (
      when_fits text (has_base 98 text) (based Binary text) (based_fits Binary 98 text (omega arith) (omega arith) utf8),
      (
        when_fits text (has_base 111 text) (based Octal text) (based_fits Octal 111 text (omega arith) (omega arith) utf8),
        (
          when_fits text (has_base 120 text) (based Hexadecimal text) (based_fits Hexadecimal 120 text (omega arith) (omega arith) utf8),
          (
            when_fits text (is_ascii_digit (first text))
                (if is_whole_before rest then with_junk (Int false Decimal whole) whole text else with_exponent (whole + fraction_len rest) text) (decimal_fits text utf8),
            tt,
          ),
        ),
      ),
    )

pub point_number_fits : (text : List ℕ) → IsUtf8 text → RuleFits text (point_number text)
point_number_fits text utf8 =
    let n = fraction_len text in
    when_fits text (nat_lt 1 n) (with_exponent n text) (λ e. exponent_fits n text utf8 (omega (arith, ltb-true 1 n e)) (fraction_front text))

-- ---- parameters

is_digit_byte : (b : ℕ) → is_ascii_digit b ≡ true → IsAsciiDigit b
is_digit_byte b e = grind (arith, nat_tests)

-- in a front that has the digits
is_param : (len : ℕ) (text : List ℕ) → first text ≡ 36 → len ≤ length text → 1 + prefix_len is_ascii_digit (drop 1 text) ≤ len
    → IsParam (take len text) (1 + prefix_len is_ascii_digit (drop 1 text))
is_param len text dollar within le =
    let front = take len text in
    let digits = prefix_len is_ascii_digit (drop 1 text) in
    let whole = length-take-le len text within in
    let part = slice_range front 1 (1 + digits) in
    let short : length part ≤ digits = omega (arith, length-take (1 + digits - 1) (drop 1 front)) in
    record {
      dollar = get_or-take len text 0 0 (omega arith) ∙ dollar;
      after_dollar = omega arith;
      within = omega (arith, whole);
      digits = All-from_get_or IsAsciiDigit part 0 (λ i lt.
          let below : i < 1 + digits - 1 = omega (arith, short) in
          let at = get_or-take (1 + digits - 1) (drop 1 front) i 0 below ∙ get_or-drop 1 front i 0 ∙ get_or-take len text (1 + i) 0 (omega arith) ∙ sym (get_or-drop 1 text i 0) in
          subst IsAsciiDigit (sym at) (is_digit_byte (get_or (drop 1 text) i 0) (prefix_len_passes is_ascii_digit (drop 1 text) i 0 (omega arith))));
    }

pub parameter_fits : (text : List ℕ) → IsUtf8 text → RuleFits text (parameter text)
parameter_fits text utf8 =
    let n = 1 + prefix_len is_ascii_digit (drop 1 text) in
    let len = n + junk_len (drop n text) in
    when_fits text ((first text == 36) && nat_lt 1 n) (token (PositionalParam n) len) (λ e.
    let dollar = eqb-true (first text) 36 (and_parts (first text == 36) (nat_lt 1 n) e).0 in
    let front = more_bytes text 1 (prefix_len is_ascii_digit (drop 1 text)) (one_byte text (omega (arith, dollar)) (omega (arith, dollar)))
    (run_bytes is_ascii_digit (drop 1 text) (digits_are_ascii Decimal)) in
    let boundary = behind_junk text n utf8 front in
    record { nonempty = omega arith; boundary = boundary; kind = is_param len text dollar boundary.0 (omega arith) })
