-- A line of data, its token and a byte order mark don't reach over a newline.
use Rattle.std.proofs.Common.{◌≡◌, ◌∙◌, ℕ, ◌-◌, ◌<◌, ◌==◌, not, List, [], ◌∷◌, ◌++◌, length, take, arith, ap, ap₂, refl}
use Rattle.std.specs.Prelude.{slice_index, codes, if◌then◌else◌}
use Rattle.std.specs.Str.{bytes_eq}
use Rattle.std.proofs.lemmas.Bool.{cond_both}
use Rattle.std.proofs.lemmas.List.{get_or_append_left, take-append-le}
use Rattle.squawk_tokens.specs.declared.token.TokenKind.TheVariants.{PsqlCommand, Whitespace}
use Rattle.sql_lexer.specs.Lines.{EndsLine}
use Rattle.sql_lexer.specs.Rules.{token}
use Rattle.sql_lexer.specs.Scripts.{newline_at, line_len, line_end_len, ends_data, has_mark, data_token}
use Rattle.sql_lexer.proofs.lines.LineParts.{IsInside, by_front, same_begins, run_inside}

-- a line ends before its newline
pub line_inside : (text rest : List ℕ) → EndsLine text → IsInside line_len text rest
line_inside text rest ends =
    let newline = run_inside (λ b. not (b == 10)) text rest refl ends in
    let n = newline_at text in
    record {
      same = ap (λ n. if slice_index (text ++ rest) (n - 1) == 13 then n - 1 else n) newline.same
          ∙ ap (λ b. if b == 13 then n - 1 else n) (get_or_append_left text rest 0 (n - 1) (omega (arith, newline.within)));
      within = cond_both (slice_index text (n - 1) == 13) (n - 1) n (λ m. m < length text) (λ holds. omega (arith, newline.within)) (λ fails. newline.within);
    }

pub same-line_len : (text rest : List ℕ) → EndsLine text → line_len (text ++ rest) ≡ line_len text
same-line_len text rest ends = (line_inside text rest ends).same

pub same-ends_data : (text rest : List ℕ) → EndsLine text → ends_data (text ++ rest) ≡ ends_data text
same-ends_data text rest ends =
    let line = line_inside text rest ends in
    ap (λ n. bytes_eq (take n (text ++ rest)) (codes "\\.")) line.same
    ∙ ap (λ front. bytes_eq front (codes "\\.")) (take-append-le (line_len text) text rest (omega (arith, line.within)))

-- a carriage return isn't the last byte of a text that ends a line
same_line_end : (text rest : List ℕ) → EndsLine text → line_end_len (text ++ rest) ≡ line_end_len text
same_line_end text rest ends = by_front (λ t. line_end_len (t ++ rest) ≡ line_end_len t) text ends lines
  where
    lines : (front : List ℕ) → line_end_len ((front ++ 10 ∷ []) ++ rest) ≡ line_end_len (front ++ 10 ∷ [])
    lines [] = refl
    lines (b ∷ []) = refl
    lines (b ∷ c ∷ front) = refl

pub same-data_token : (text rest : List ℕ) → EndsLine text → data_token (text ++ rest) ≡ data_token text
same-data_token text rest ends =
    ap₂ (λ len others. if len == 0 then token Whitespace others else token (PsqlCommand (ends_data (text ++ rest))) len)
    (same-line_len text rest ends)
    (same_line_end text rest ends)
    ∙ ap (λ is_end. if line_len text == 0 then token Whitespace (line_end_len text) else token (PsqlCommand is_end) (line_len text)) (same-ends_data text rest ends)

pub same-mark : (text rest : List ℕ) → EndsLine text → has_mark (text ++ rest) ≡ has_mark text
same-mark text rest ends = same_begins (239 ∷ 187 ∷ 191 ∷ []) text rest refl ends
