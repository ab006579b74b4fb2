-- Lines and line ends of data fit, and so do byte order marks and tokens that are cut from a front.
use Rattle.std.proofs.Common.{◌≡◌, ◌∙◌, ℕ, ◌+◌, ◌-◌, ◌<◌, ◌≤◌, ◌==◌, not, true, false, List, [], ◌∷◌, length, take, drop, get_or, get_or-take, get_or-drop, length-drop, length-take, ⊎_elim, arith, ap, refl, sym, subst}
use Rattle.std.specs.Prelude.{IsUtf8, IsCharBoundary, slice_index}
use Rattle.std.proofs.lemmas.Bool.{cases_lt, cond_both, eqb-true}
use Rattle.std.proofs.lemmas.Bool.Decides.{nat_tests}
use Rattle.std.proofs.lemmas.List.{length-take-le, take-take}
use Rattle.std.proofs.lemmas.List.Sums.{prefix_len-le-length, prefix_len_stops}
use Rattle.std.proofs.lemmas.Str.{IsUtf8-take, IsCharBoundary-from_take}
use Rattle.squawk_tokens.specs.declared.token.Token.{Token}
use Rattle.squawk_tokens.specs.declared.token.TokenKind.TheVariants.{PsqlCommand, Whitespace}
use Rattle.squawk_tokens.specs.TokenRules.{MeetsKind}
use Rattle.sql_lexer.specs.Rules.{begins, first, token}
use Rattle.sql_lexer.specs.Scripts.{data_token, ends_data, has_mark, line_end_len, line_len, newline_at}
use Rattle.sql_lexer.specs.Tokens.{first_token}
use Rattle.sql_lexer.proofs.Boundaries.{IsLead, after_ascii, before_lead}
use Rattle.sql_lexer.proofs.FirstFits.{first_token_fits}
use Rattle.sql_lexer.proofs.Fits.{Fits}
use Rattle.sql_lexer.proofs.FoundEnds.{front_ends}
use lib.Pointwise.{bytes_decides}
use lib.Utf8.{encode}

-- ---- a token of a front

-- a character ends where one of the front ends
past_front : (text : List ℕ) (n k : ℕ) → IsCharBoundary text n → IsCharBoundary (take n text) k → IsCharBoundary text k
past_front text n k end boundary =
    let whole = length-take-le n text end.0 in (
      omega (arith, whole, boundary.0, end.0),
      λ lt high. ⊎_elim
          (λ before. omega (arith, get_or-take n text k 0 before, boundary.1 (omega (arith, whole)) (omega (arith, get_or-take n text k 0 before, high))))
          (λ le.
          let same : k ≡ n = omega (arith, whole, boundary.0) in
          subst (λ i. 192 ≤ get_or text i 0) (sym same) (end.1 (omega arith) (subst (λ i. 128 ≤ get_or text i 0) same high)))
          (cases_lt k n),
    )

pub first_within : (text : List ℕ) → IsUtf8 text → 0 < length text → (first_token text).len ≤ length text
first_within text utf8 some = (first_token_fits text utf8 some).boundary.0

pub front_within : (text : List ℕ) (n : ℕ) → IsUtf8 text → IsCharBoundary text n → 0 < n → (first_token (take n text)).len ≤ n
front_within text n utf8 end some =
    let whole = length-take-le n text end.0 in
    omega (arith, whole, first_within (take n text) (IsUtf8-take text n utf8 end) (omega (arith, whole)))

pub front_fits : (text : List ℕ) (n : ℕ) → IsUtf8 text → IsCharBoundary text n → 0 < n → Fits text (first_token (take n text))
front_fits text n utf8 end some =
    let whole = length-take-le n text end.0 in
    let found = first_token (take n text) in
    let fits = first_token_fits (take n text) (IsUtf8-take text n utf8 end) (omega (arith, whole)) in
    let le = front_within text n utf8 end some in
    record {
      nonempty = fits.nonempty;
      boundary = past_front text n found.len end fits.boundary;
      kind = subst (λ front. MeetsKind front found.kind) (take-take found.len n text le) fits.kind;
    }

-- the token in front of a text, or of a front of it, is text
pub first_is_utf8 : (text : List ℕ) (found : Token) → found ≡ first_token text → IsUtf8 text → 0 < length text → IsUtf8 (take found.len text)
first_is_utf8 text found same utf8 some =
    subst (λ (t : Token). IsUtf8 (take t.len text)) (sym same) (IsUtf8-take text (first_token text).len utf8 (first_token_fits text utf8 some).boundary)

pub front_is_utf8 : (text : List ℕ) (n : ℕ) (found : Token) → found ≡ first_token (take n text) → IsUtf8 text → IsCharBoundary text n → 0 < n → IsUtf8 (take found.len text)
front_is_utf8 text n found same utf8 end some =
    subst (λ (t : Token). IsUtf8 (take t.len text)) (sym same) (IsUtf8-take text (first_token (take n text)).len utf8 (front_fits text n utf8 end some).boundary)

-- behind k bytes the others of n are left
pub boundary_behind : (text : List ℕ) (n k : ℕ) → IsCharBoundary text n → k ≤ n → IsCharBoundary (drop k text) (n - k)
boundary_behind text n k end le =
    let place : k + (n - k) ≡ n = omega arith in (
      omega (arith, length-drop k text, end.0),
      λ lt high.
          let same : get_or (drop k text) (n - k) 0 ≡ get_or text n 0 = get_or-drop k text (n - k) 0 ∙ ap (λ i. get_or text i 0) place in
          omega (arith, same, end.1 (omega (arith, length-drop k text)) (omega (arith, same, high))),
    )

-- ---- data

-- a line ends at a newline, with which no character goes on
newline_leads : (b : ℕ) → not (b == 10) ≡ false → IsLead b
newline_leads b e = λ high. grind (arith, nat_tests)

-- a character ends before a carriage return
before_return : (text : List ℕ) (n : ℕ) → n ≤ length text → slice_index text n ≡ 13 → IsCharBoundary text n
before_return text n within same = (within, λ lt high. absurd (omega (arith, same, high)))

pub line_ends_well : (text : List ℕ) → IsCharBoundary text (line_len text)
line_ends_well text =
    let n = newline_at text in
    let within = prefix_len-le-length (λ b. not (b == 10)) text in
    cond_both (slice_index text (n - 1) == 13) (n - 1) n (IsCharBoundary text)
    (λ e. before_return text (n - 1) (omega (arith, within)) (eqb-true (slice_index text (n - 1)) 13 e))
    (λ e. before_lead (λ b. not (b == 10)) text newline_leads)

newline_is_ascii : (b : ℕ) → not (b == 10) ≡ false → b < 128
newline_is_ascii b e = grind (arith, nat_tests)

-- behind a line a newline or a carriage return stands
line_end_is_ascii : (text : List ℕ) → 0 < length text → line_len text ≡ 0 → first text < 128
line_end_is_ascii text some ends =
    let n = newline_at text in
    cond_both (slice_index text (n - 1) == 13) (n - 1) n (λ m. m ≡ 0 → first text < 128)
    (λ e none.
    let same : slice_index text 0 ≡ 13 = subst (λ i. slice_index text i ≡ 13) none (eqb-true (slice_index text (n - 1)) 13 e) in
    omega (arith, same))
    (λ e none.
    let stops = prefix_len_stops (λ b. not (b == 10)) text 0 (omega (arith, none, some)) in
    subst (λ i. slice_index text i < 128) none (newline_is_ascii (get_or text n 0) stops))
    ends

line_end_fits : (text : List ℕ) → IsUtf8 text → 0 < length text → line_len text ≡ 0 → Fits text (token Whitespace (line_end_len text))
line_end_fits text utf8 some ends =
    let both : List ℕ = 13 ∷ 10 ∷ [] in
    cond_both (begins text both) 2 1 (λ n. Fits text (token Whitespace n))
    (λ e.
    let front = front_ends 10 text both e (record { some = omega arith; within = omega arith; last = refl }) in
    record { nonempty = omega arith; boundary = after_ascii text 2 utf8 (omega arith) front.within (omega (arith, front.last)); kind = tt })
    (λ e. record { nonempty = omega arith; boundary = after_ascii text 1 utf8 (omega arith) (omega arith) (line_end_is_ascii text some ends); kind = tt })

pub data_fits : (text : List ℕ) → IsUtf8 text → 0 < length text → Fits text (data_token text)
data_fits text utf8 some =
    let n = line_len text in
    cond_both (n == 0) (token Whitespace (line_end_len text)) (token (PsqlCommand (ends_data text)) n) (Fits text)
    (λ e. line_end_fits text utf8 some (eqb-true n 0 e))
    (λ e. record { nonempty = grind (arith, nat_tests); boundary = line_ends_well text; kind = tt })

-- ---- a byte order mark

-- it is the character U+FEFF
mark_is_utf8 : IsUtf8 (239 ∷ 187 ∷ 191 ∷ [])
unfolding encode
mark_is_utf8 = (65279 ∷ [], (refl, refl))

pub mark_fits : (text : List ℕ) → IsUtf8 text → has_mark text ≡ true → Fits text (token Whitespace 3)
mark_fits text utf8 e =
    let mark : List ℕ = 239 ∷ 187 ∷ 191 ∷ [] in
    let same : mark ≡ take 3 text = (bytes_decides mark (take 3 text)).0 e in
    let within : 3 ≤ length text = omega (arith, ap length same, length-take 3 text) in
    record {
      nonempty = omega arith;
      boundary = IsCharBoundary-from_take text 3 utf8 within (subst IsUtf8 same mark_is_utf8);
      kind = tt;
    }
