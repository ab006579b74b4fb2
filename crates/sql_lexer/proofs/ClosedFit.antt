-- Tokens whose end is looked for fit.
use Rattle.std.proofs.Common.{◌≡◌, ◌∙◌, ℕ, ◌+◌, ◌-◌, ◌<◌, ◌≤◌, ◌==◌, ◌&&◌, true, false, Bool, Option, Some, None, List, length, take, drop, get_or, length-drop, get_or-drop, get_or-take, ⊎_elim, arith, sym, refl, subst}
use Rattle.std.specs.Prelude.{IsUtf8, codes, slice_index, option_map}
use Rattle.std.specs.Char.{to_ascii_lowercase}
use Rattle.std.proofs.lemmas.Bool.{cond_both, eqb-true, and_parts, cases_lt}
use Rattle.std.proofs.lemmas.List.{get_or_past, length-take-le}
use Rattle.squawk_tokens.specs.declared.token.TokenKind.{TokenKind}
use Rattle.squawk_tokens.specs.TokenRules.{MeetsKind, IsQuoted}
use Rattle.sql_lexer.specs.Rules.{first, first_of, begins, closed_at}
use Rattle.sql_lexer.specs.Comments.{block_comment, comment_kind, comment_end}
use Rattle.sql_lexer.specs.Strings.{string, string_kind, quoted_identifier, identifier_kind, quote_end, escape_end, has_letter, escape_kind, bit_kind, byte_kind, national_kind, has_unicode, unicode_kind, unicode_identifier_kind, prefixed}
use Rattle.sql_lexer.specs.DollarQuotes.{dollar_quote, dollar_kind, tag_len, name_len, first_end}
use Rattle.sql_lexer.proofs.FoundEnds.{IsBehind, EndsWith, front_ends, quote_ends, escape_ends, comment_ends, tag_ends, closed_fits}
use Rattle.sql_lexer.proofs.Fits.{Fits, RuleFits, when_fits, first_fits}

pub block_comment_fits : (text : List ℕ) → IsUtf8 text → RuleFits text (block_comment text)
block_comment_fits text utf8 =
    let found = comment_end 0 (drop 2 text) in
    when_fits text (begins text (codes "/*")) (closed_at comment_kind 2 text found) (λ e.
    let front = front_ends 42 text (codes "/*") e (record { some = omega arith; within = omega arith; last = refl }) in
    closed_fits comment_kind 47 2 text found (omega arith) utf8 (omega (arith, front.within)) front.within (comment_ends 0 (drop 2 text)) (λ m behind. tt) (λ front. tt))

-- ---- quotes

-- a byte that isn't 0 is one of the text
pub byte_within : (text : List ℕ) (i b : ℕ) → get_or text i 0 ≡ b → 0 < b → i < length text
byte_within text i b e some =
    ⊎_elim (λ lt. lt) (λ le. absurd (omega (arith, sym (get_or_past text i 0 le) ∙ e))) (cases_lt i (length text))

-- a string whose end is found has both its quotes
both_quotes : (prefix m : ℕ) (text : List ℕ) → get_or text prefix 0 ≡ 39 → IsBehind 39 (drop (prefix + 1) text) m → IsQuoted (take (prefix + 1 + m) text) prefix
both_quotes prefix m text e behind =
    let n = prefix + 1 + m in
    let inside : prefix < length text = byte_within text prefix 39 e (omega arith) in
    let within : n ≤ length text = omega (arith, behind.within, length-drop (prefix + 1) text) in
    let whole : length (take n text) ≡ n = length-take-le n text within in
    let place : prefix + 1 + (m - 1) ≡ prefix + m = omega (arith, behind.some) in
    let last : get_or text (prefix + m) 0 ≡ 39 = subst (λ k. get_or text k 0 ≡ 39) place (sym (get_or-drop (prefix + 1) text (m - 1) 0) ∙ behind.last) in
    let end : length (take n text) - 1 ≡ prefix + m = omega (arith, whole) in
    record {
      long = omega (arith, whole, behind.some);
      opens = get_or-take n text prefix 0 (omega arith) ∙ e;
      closes = rw end (get_or-take n text (prefix + m) 0 (omega arith) ∙ last);
    }

pub string_fits : (text : List ℕ) → IsUtf8 text → RuleFits text (string text)
string_fits text utf8 =
    when_fits text (first text == 39) (closed_at string_kind 1 text (quote_end 39 (drop 1 text))) (λ e.
    let quote = eqb-true (first text) 39 e in
    let some : 0 < length text = byte_within text 0 39 quote (omega arith) in
    closed_fits string_kind 39 1 text (quote_end 39 (drop 1 text)) (omega arith) utf8 some (omega arith) (quote_ends 39 (drop 1 text)) (λ m. both_quotes 0 m text quote) (λ front. tt))

pub quoted_identifier_fits : (text : List ℕ) → IsUtf8 text → RuleFits text (quoted_identifier text)
quoted_identifier_fits text utf8 =
    when_fits text (first text == 34) (closed_at identifier_kind 1 text (quote_end 34 (drop 1 text))) (λ e.
    let some : 0 < length text = byte_within text 0 34 (eqb-true (first text) 34 e) (omega arith) in
    closed_fits identifier_kind 34 1 text (quote_end 34 (drop 1 text)) (omega arith) utf8 some (omega arith) (quote_ends 34 (drop 1 text)) (λ m behind. tt) (λ front. tt))

-- a string behind a letter
letter_fits : (kind : Bool → TokenKind) (letter : ℕ) (found : Option ℕ) (text : List ℕ) → IsUtf8 text → EndsWith 39 (drop 2 text) found
    → ((front : List ℕ) → IsQuoted front 1 → MeetsKind front (kind true)) → ((front : List ℕ) → MeetsKind front (kind false))
    → has_letter letter text ≡ true → Fits text (closed_at kind 2 text found)
letter_fits kind letter found text utf8 ends closed unclosed e =
    let quote : slice_index text 1 ≡ 39 = eqb-true (slice_index text 1) 39 (and_parts (to_ascii_lowercase (first text) == letter) (slice_index text 1 == 39) e).1 in
    let long : 1 < length text = byte_within text 1 39 quote (omega arith) in
    closed_fits kind 39 2 text found (omega arith) utf8 (omega arith) (omega arith) ends (λ m behind. closed (take (2 + m) text) (both_quotes 1 m text quote behind)) unclosed

-- a quoted text behind U&
unicode_fits : (kind : Bool → TokenKind) (quote : ℕ) (text : List ℕ) → 0 < quote → quote < 128 → IsUtf8 text
    → ((front : List ℕ) → MeetsKind front (kind true)) → ((front : List ℕ) → MeetsKind front (kind false))
    → has_unicode quote text ≡ true → Fits text (closed_at kind 3 text (quote_end quote (drop 3 text)))
unicode_fits kind quote text some ascii utf8 closed unclosed e =
    let third = eqb-true (slice_index text 2) quote (and_parts ((to_ascii_lowercase (first text) == 117) && (slice_index text 1 == 38)) (slice_index text 2 == quote) e).1 in
    let long : 2 < length text = byte_within text 2 quote third some in
    closed_fits kind quote 3 text (quote_end quote (drop 3 text)) ascii utf8 (omega arith) (omega arith) (quote_ends quote (drop 3 text)) (λ m behind. closed (take (3 + m) text)) unclosed

pub prefixed_fits : (text : List ℕ) → IsUtf8 text → RuleFits text (first_of prefixed text)
prefixed_fits text utf8 =
    let quotes = quote_end 39 (drop 2 text) in
    let quotes_end = quote_ends 39 (drop 2 text) in
    first_fits prefixed text (
      when_fits text (has_letter 101 text) (closed_at escape_kind 2 text (escape_end (drop 2 text)))
          (letter_fits escape_kind 101 (escape_end (drop 2 text)) text utf8 (escape_ends (drop 2 text)) (λ front both. both) (λ front. tt)),
      (
        when_fits text (has_letter 98 text) (closed_at bit_kind 2 text quotes) (letter_fits bit_kind 98 quotes text utf8 quotes_end (λ front both. both) (λ front. tt)),
        (
          when_fits text (has_letter 120 text) (closed_at byte_kind 2 text quotes) (letter_fits byte_kind 120 quotes text utf8 quotes_end (λ front both. both) (λ front. tt)),
          (
            when_fits text (has_letter 110 text) (closed_at national_kind 2 text quotes) (letter_fits national_kind 110 quotes text utf8 quotes_end (λ front both. tt) (λ front. tt)),
            (
              when_fits text (has_unicode 39 text) (closed_at unicode_kind 3 text (quote_end 39 (drop 3 text)))
                  (unicode_fits unicode_kind 39 text (omega arith) (omega arith) utf8 (λ front. tt) (λ front. tt)),
              (
                when_fits text (has_unicode 34 text) (closed_at unicode_identifier_kind 3 text (quote_end 34 (drop 3 text)))
                    (unicode_fits unicode_identifier_kind 34 text (omega arith) (omega arith) utf8 (λ front. tt) (λ front. tt)),
                tt,
              ),
            ),
          ),
        ),
      ),
    )

-- ---- dollar quotes

-- a tag ends with a dollar sign
tag_behind : (text : List ℕ) → EndsWith 36 text (tag_len text)
tag_behind text =
    let n = name_len (drop 1 text) in
    cond_both ((first text == 36) && (slice_index text (1 + n) == 36)) (Some (n + 2)) None (EndsWith 36 text)
    (λ e.
    let dollar : get_or text (1 + n) 0 ≡ 36 = eqb-true (slice_index text (1 + n)) 36 (and_parts (first text == 36) (slice_index text (1 + n) == 36) e).1 in
    let inside : 1 + n < length text = byte_within text (1 + n) 36 dollar (omega arith) in
    let place : n + 2 - 1 ≡ 1 + n = omega arith in
    record { some = omega arith; within = omega arith; last = rw place dollar })
    (λ e. tt)

tag_fits : (text : List ℕ) (found : Option ℕ) → IsUtf8 text → EndsWith 36 text found
    → RuleFits text (option_map (λ n. closed_at dollar_kind n text (first_end (take n text) (drop n text))) found)
tag_fits text None utf8 behind = tt
tag_fits text (Some n) utf8 behind =
    let tag = take n text in
    let whole : length tag ≡ n = length-take-le n text behind.within in
    let before : n - 1 < n = omega (arith, behind.some) in
    let last : get_or tag (n - 1) 0 ≡ 36 = get_or-take n text (n - 1) 0 before ∙ behind.last in
    let ends : IsBehind 36 tag (length tag) = record { some = omega (arith, whole, behind.some); within = omega arith; last = rw whole last } in
    closed_fits dollar_kind 36 n text (first_end tag (drop n text)) (omega arith) utf8 (omega (arith, behind.some, behind.within)) behind.within
    (tag_ends 36 tag (drop n text) ends) (λ m behind. tt) (λ front. tt)

pub dollar_quote_fits : (text : List ℕ) → IsUtf8 text → RuleFits text (dollar_quote text)
dollar_quote_fits text utf8 = tag_fits text (tag_len text) utf8 (tag_behind text)
