-- Tokens whose end is looked for agree: an end is found at the same place, and where none is, the token has all of the text.
use Rattle.std.proofs.Common.{◌≡◌, ◌∙◌, ℕ, ◌+◌, ◌<◌, ◌≤◌, ◌==◌, ◌&&◌, Bool, true, false, Option, Some, None, List, [], ◌∷◌, ◌++◌, ◌⊎◌, inl, inr, length, take, drop, arith, ap, refl, sym, subst}
use Rattle.std.specs.Prelude.{IfSome, codes, slice_index, option_map, if◌then◌else◌}
use Rattle.std.specs.Char.{to_ascii_lowercase}
use Rattle.std.specs.List.{prefix_len}
use Rattle.std.proofs.lemmas.Bool.{and_left, and_right, and_parts, cond_both, false≢true}
use Rattle.std.proofs.lemmas.List.{get_or_append_left, take-append-le, drop-append-le}
use Rattle.squawk_tokens.specs.declared.token.Token.{Token}
use Rattle.squawk_tokens.specs.declared.token.TokenKind.{TokenKind}
use Rattle.sql_lexer.specs.Lines.{EndsLine}
use Rattle.sql_lexer.specs.Bytes.{is_name_start, is_tag_part}
use Rattle.sql_lexer.specs.Rules.{when, first, first_of, begins, closed_at}
use Rattle.sql_lexer.specs.Comments.{block_comment, comment_kind, comment_end}
use Rattle.sql_lexer.specs.Strings.{string, string_kind, quoted_identifier, identifier_kind, quote_end, escape_end, has_letter, escape_kind, bit_kind, byte_kind, national_kind, has_unicode, unicode_kind, unicode_identifier_kind, prefixed}
use Rattle.sql_lexer.specs.DollarQuotes.{dollar_quote, dollar_kind, tag_len, name_len, first_end}
use Rattle.sql_lexer.proofs.lines.Agrees.{Agrees, Reaches}
use Rattle.sql_lexer.proofs.lines.Choice.{AllAgree, when_agrees, agrees-first_of}
use Rattle.sql_lexer.proofs.lines.LineParts.{by_front, line_of, run_inside, same_begins, same_first}
use Rattle.sql_lexer.proofs.lines.KeptEnds.{Kept, quote_keeps, escape_keeps, comment_keeps, first_keeps}

-- a rule with a test, and an end that is looked for behind n bytes
abbrev closed_rule : (List ℕ → Bool) → (Bool → TokenKind) → ℕ → (List ℕ → Option ℕ) → List ℕ → Option Token
closed_rule fits kind n end text = when (fits text) (closed_at kind n text (end (drop n text)))

token_keeps : (kind : Bool → TokenKind) (n : ℕ) (text longer : List ℕ) (found other : Option ℕ) → Kept found other
    → (closed_at kind n longer other ≡ closed_at kind n text found) ⊎ ((closed_at kind n text found).len ≡ length text)
token_keeps kind n text longer None other keeps = inr refl
token_keeps kind n text longer (Some m) other keeps = inl (ap (closed_at kind n longer) keeps)

closed_agrees : (fits : List ℕ → Bool) (kind : Bool → TokenKind) (n : ℕ) (end : List ℕ → Option ℕ) (text rest : List ℕ) → fits (text ++ rest) ≡ fits text
    → (fits text ≡ true → Kept (end (drop n text)) (end (drop n (text ++ rest)))) → Agrees (closed_rule fits kind n end) text rest
closed_agrees fits kind n end text rest same keeps =
    let longer = text ++ rest in
    when_agrees text (fits longer) (fits text) (closed_at kind n longer (end (drop n longer))) (closed_at kind n text (end (drop n text))) same
    (λ e. token_keeps kind n text longer (end (drop n text)) (end (drop n longer)) (keeps e))

-- ---- block comments

behind_two : (text rest : List ℕ) → Kept (comment_end 0 (drop 2 text)) (comment_end 0 (drop 2 (text ++ rest)))
behind_two [] rest = tt
behind_two (b ∷ []) rest = tt
behind_two (b ∷ c ∷ text) rest = comment_keeps 0 text rest

blocks : (front rest : List ℕ) → Agrees block_comment (front ++ 10 ∷ []) rest
blocks front rest =
    closed_agrees (λ t. begins t (codes "/*")) comment_kind 2 (comment_end 0) (front ++ 10 ∷ []) rest (same_begins (47 ∷ 42 ∷ []) (front ++ 10 ∷ []) rest refl (line_of front)) (λ e. behind_two (front ++ 10 ∷ []) rest)

pub agrees-block_comment : (text rest : List ℕ) → EndsLine text → Agrees block_comment text rest
agrees-block_comment text rest ends = by_front (λ t. Agrees block_comment t rest) text ends (λ front. blocks front rest)

-- ---- quotes, none of which is a newline

quoted : (kind : Bool → TokenKind) (quote : ℕ) (front rest : List ℕ) → (10 == quote) ≡ false
    → Agrees (closed_rule (λ t. first t == quote) kind 1 (quote_end quote)) (front ++ 10 ∷ []) rest
quoted kind quote [] rest none =
    closed_agrees (λ t. first t == quote) kind 1 (quote_end quote) (10 ∷ []) rest refl (λ e. absurd (false≢true (sym none ∙ e)))
quoted kind quote (b ∷ front) rest none =
    closed_agrees (λ t. first t == quote) kind 1 (quote_end quote) (b ∷ (front ++ 10 ∷ [])) rest refl (λ e. quote_keeps quote front rest none)

pub agrees-string : (text rest : List ℕ) → EndsLine text → Agrees string text rest
agrees-string text rest ends = by_front (λ t. Agrees string t rest) text ends (λ front. quoted string_kind 39 front rest refl)

pub agrees-quoted_identifier : (text rest : List ℕ) → EndsLine text → Agrees quoted_identifier text rest
agrees-quoted_identifier text rest ends = by_front (λ t. Agrees quoted_identifier t rest) text ends (λ front. quoted identifier_kind 34 front rest refl)

-- behind a letter
letters : (kind : Bool → TokenKind) (letter : ℕ) (end : List ℕ → Option ℕ) (front rest : List ℕ) → (to_ascii_lowercase 10 == letter) ≡ false
    → ((others : List ℕ) → Kept (end (others ++ 10 ∷ [])) (end ((others ++ 10 ∷ []) ++ rest))) → Agrees (closed_rule (has_letter letter) kind 2 end) (front ++ 10 ∷ []) rest
letters kind letter end [] rest none keeps =
    let here = to_ascii_lowercase 10 == letter in
    closed_agrees (has_letter letter) kind 2 end (10 ∷ []) rest
    (and_left here (slice_index (10 ∷ rest) 1 == 39) none ∙ sym (and_left here (slice_index (10 ∷ []) 1 == 39) none))
    (λ e. absurd (false≢true (sym none ∙ (and_parts here (slice_index (10 ∷ []) 1 == 39) e).0)))
letters kind letter end (b ∷ []) rest none keeps =
    closed_agrees (has_letter letter) kind 2 end (b ∷ 10 ∷ []) rest refl (λ e. absurd (false≢true (and_parts (to_ascii_lowercase b == letter) (10 == 39) e).1))
letters kind letter end (b ∷ c ∷ front) rest none keeps = closed_agrees (has_letter letter) kind 2 end (b ∷ c ∷ (front ++ 10 ∷ [])) rest refl (λ e. keeps front)

-- behind U&
unicodes : (kind : Bool → TokenKind) (quote : ℕ) (front rest : List ℕ) → (10 == quote) ≡ false
    → Agrees (closed_rule (has_unicode quote) kind 3 (quote_end quote)) (front ++ 10 ∷ []) rest
unicodes kind quote [] rest none = closed_agrees (has_unicode quote) kind 3 (quote_end quote) (10 ∷ []) rest refl (λ e. absurd (false≢true e))
unicodes kind quote (b ∷ []) rest none =
    let two = (to_ascii_lowercase b == 117) && (10 == 38) in
    let third = slice_index (b ∷ 10 ∷ []) 2 == quote in
    let differs : two ≡ false = and_right (to_ascii_lowercase b == 117) (10 == 38) refl in
    closed_agrees (has_unicode quote) kind 3 (quote_end quote) (b ∷ 10 ∷ []) rest
    (and_left two (slice_index (b ∷ 10 ∷ rest) 2 == quote) differs ∙ sym (and_left two third differs))
    (λ e. absurd (false≢true (sym differs ∙ (and_parts two third e).0)))
unicodes kind quote (b ∷ c ∷ []) rest none =
    closed_agrees (has_unicode quote) kind 3 (quote_end quote) (b ∷ c ∷ 10 ∷ []) rest refl
    (λ e. absurd (false≢true (sym none ∙ (and_parts ((to_ascii_lowercase b == 117) && (c == 38)) (10 == quote) e).1)))
unicodes kind quote (b ∷ c ∷ d ∷ front) rest none =
    closed_agrees (has_unicode quote) kind 3 (quote_end quote) (b ∷ c ∷ d ∷ (front ++ 10 ∷ [])) rest refl (λ e. quote_keeps quote front rest none)

-- all of these
pub agree-prefixed : (text rest : List ℕ) → EndsLine text → AllAgree prefixed text rest
agree-prefixed text rest ends =
    let quotes = λ (others : List ℕ). quote_keeps 39 others rest refl in
    let front = ends.front in
    subst (λ t. AllAgree prefixed t rest) (sym ends.line) (
      letters escape_kind 101 escape_end front rest refl (λ others. escape_keeps others rest),
      (
        letters bit_kind 98 (quote_end 39) front rest refl quotes,
        (
          letters byte_kind 120 (quote_end 39) front rest refl quotes,
          (
            letters national_kind 110 (quote_end 39) front rest refl quotes,
            (unicodes unicode_kind 39 front rest refl, (unicodes unicode_identifier_kind 34 front rest refl, tt)),
          ),
        ),
      ),
    )

pub agrees-prefixed : (text rest : List ℕ) → EndsLine text → Agrees (first_of prefixed) text rest
agrees-prefixed text rest ends = agrees-first_of prefixed text rest (agree-prefixed text rest ends)

-- ---- dollar quotes

name_same : (front rest : List ℕ) → name_len ((front ++ 10 ∷ []) ++ rest) ≡ name_len (front ++ 10 ∷ [])
name_same front rest =
    let text = front ++ 10 ∷ [] in
    ap (λ b. if is_name_start b then prefix_len is_tag_part (text ++ rest) else 0) (same_first (front ++ 10 ∷ []) rest (line_of front))
    ∙ ap (λ n. if is_name_start (first text) then n else 0) (run_inside is_tag_part (front ++ 10 ∷ []) rest refl (line_of front)).same

name_within : (front : List ℕ) → name_len (front ++ 10 ∷ []) < length (front ++ 10 ∷ [])
name_within front =
    let text = front ++ 10 ∷ [] in
    let within = (run_inside is_tag_part (front ++ 10 ∷ []) [] refl (line_of front)).within in
    cond_both (is_name_start (first text)) (prefix_len is_tag_part text) 0 (λ n. n < length text) (λ e. within) (λ e. omega (arith, within))

tag_same : (front rest : List ℕ) → tag_len ((front ++ 10 ∷ []) ++ rest) ≡ tag_len (front ++ 10 ∷ [])
tag_same [] rest = refl
tag_same (b ∷ front) rest =
    let text = front ++ 10 ∷ [] in
    let n = name_len text in
    let inside : 1 + n < length (b ∷ text) = omega (arith, name_within front) in
    ap (λ m. if (b == 36) && (slice_index (b ∷ (text ++ rest)) (1 + m) == 36) then Some (m + 2) else None) (name_same front rest)
    ∙ ap (λ c. if (b == 36) && (c == 36) then Some (n + 2) else None) (get_or_append_left (b ∷ text) rest 0 (1 + n) inside)

tag_within : (front : List ℕ) → IfSome (tag_len (front ++ 10 ∷ [])) (λ n. n ≤ length (front ++ 10 ∷ []))
tag_within [] = tt
tag_within (b ∷ front) =
    let text = front ++ 10 ∷ [] in
    let n = name_len text in
    let inside : n + 2 ≤ length (b ∷ text) = omega (arith, name_within front) in
    cond_both ((b == 36) && (slice_index (b ∷ text) (1 + n) == 36)) (Some (n + 2)) None (λ found. IfSome found (λ m. m ≤ length (b ∷ text))) (λ e. inside) (λ e. tt)

-- the token behind a tag of n bytes
abbrev behind_tag : List ℕ → ℕ → Token
behind_tag text n = closed_at dollar_kind n text (first_end (take n text) (drop n text))

one_tag : (text rest : List ℕ) (found : Option ℕ) → IfSome found (λ n. n ≤ length text)
    → (option_map (behind_tag (text ++ rest)) found ≡ option_map (behind_tag text) found) ⊎ Reaches text (option_map (behind_tag text) found)
one_tag text rest None within = inl refl
one_tag text rest (Some n) within =
    let longer = text ++ rest in
    let tag = take n text in
    let same : first_end (take n longer) (drop n longer) ≡ first_end tag (drop n text ++ rest) =
    ap (λ t. first_end t (drop n longer)) (take-append-le n text rest within) ∙ ap (first_end tag) (drop-append-le n text rest within) in
    when_agrees text true true (behind_tag longer n) (behind_tag text n) refl (λ e.
    token_keeps dollar_kind n text longer (first_end tag (drop n text)) (first_end (take n longer) (drop n longer))
    (subst (Kept (first_end tag (drop n text))) (sym same) (first_keeps tag (drop n text) rest)))

dollars : (front rest : List ℕ) → Agrees dollar_quote (front ++ 10 ∷ []) rest
dollars front rest =
    let text = front ++ 10 ∷ [] in
    let short = option_map (behind_tag text) (tag_len text) in
    subst (λ found. (option_map (behind_tag (text ++ rest)) found ≡ short) ⊎ Reaches text short) (sym (tag_same front rest)) (one_tag text rest (tag_len text) (tag_within front))

pub agrees-dollar_quote : (text rest : List ℕ) → EndsLine text → Agrees dollar_quote text rest
agrees-dollar_quote text rest ends = by_front (λ t. Agrees dollar_quote t rest) text ends (λ front. dollars front rest)
