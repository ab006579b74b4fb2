-- What stands before the end that is found of a comment, a quoted text or a dollar quote.
use Rattle.std.proofs.Common.{◌≡◌, ◌∙◌, ℕ, ◌+◌, ◌-◌, ◌<◌, ◌≤◌, ◌==◌, true, false, Bool, Option, Some, None, List, [], ◌∷◌, length, take, drop, get_or, length-drop, length-take, get_or-drop, get_or-take, arith, ap, sym}
use Rattle.std.specs.Prelude.{IfSome, IsUtf8, if◌then◌else◌}
use Rattle.std.proofs.lemmas.Bool.{cond_both, eqb-true, and_parts}
use Rattle.std.proofs.lemmas.Str.{IsCharBoundary-end}
use lib.Pointwise.{bytes_decides}
use Rattle.squawk_tokens.specs.declared.token.TokenKind.{TokenKind}
use Rattle.squawk_tokens.specs.TokenRules.{MeetsKind}
use Rattle.sql_lexer.specs.Rules.{begins, past, closed_at}
use Rattle.sql_lexer.specs.Strings.{quote_end, escape_end}
use Rattle.sql_lexer.specs.Comments.{comment_end, opens, closes}
use Rattle.sql_lexer.specs.DollarQuotes.{first_end}
use Rattle.sql_lexer.proofs.Boundaries.{after_ascii}
use Rattle.sql_lexer.proofs.Fits.{Fits}

-- this byte stands right before place n
pub record IsBehind (byte : ℕ) (text : List ℕ) (n : ℕ) : Type 0 where
  pub some : 0 < n
  pub within : n ≤ length text
  pub last : get_or text (n - 1) 0 ≡ byte

-- it stands right before the place that is found, if one is
abbrev pub EndsWith : ℕ → List ℕ → Option ℕ → Type 0
EndsWith byte text found = IfSome found (IsBehind byte text)

pub later : (byte n : ℕ) (text : List ℕ) (found : Option ℕ) → n ≤ length text → EndsWith byte (drop n text) found → EndsWith byte text (past n found)
later byte n text None le ends = tt
later byte n text (Some m) le ends =
    let place : n + m - 1 ≡ n + (m - 1) = omega (arith, ends.some) in
    record {
      some = omega (arith, ends.some);
      within = omega (arith, ends.within, length-drop n text);
      last = rw place (sym (get_or-drop n text (m - 1) 0) ∙ ends.last);
    }

behind_one : (byte b : ℕ) (rest : List ℕ) (found : Option ℕ) → EndsWith byte rest found → EndsWith byte (b ∷ rest) (past 1 found)
behind_one byte b rest found ends = later byte 1 (b ∷ rest) found (omega arith) ends

behind_two : (byte b c : ℕ) (rest : List ℕ) (found : Option ℕ) → EndsWith byte rest found → EndsWith byte (b ∷ c ∷ rest) (past 2 found)
behind_two byte b c rest found ends = later byte 2 (b ∷ c ∷ rest) found (omega arith) ends

behind_first : (byte b : ℕ) (rest : List ℕ) → b ≡ byte → IsBehind byte (b ∷ rest) 1
behind_first byte b rest e = record { some = omega arith; within = omega arith; last = e }

-- a quoted text ends behind a quote
pub quote_ends : (quote : ℕ) (text : List ℕ) → EndsWith quote text (quote_end quote text)
quote_ends quote [] = tt
quote_ends quote (b ∷ []) = cond_both (b == quote) (Some 1) None (EndsWith quote (b ∷ [])) (λ e. behind_first quote b [] (eqb-true b quote e)) (λ e. tt)
quote_ends quote (b ∷ c ∷ rest) =
    let text = b ∷ c ∷ rest in
    let doubled = past 2 (quote_end quote rest) in
    cond_both (b == quote) (if c == quote then doubled else Some 1) (past 1 (quote_end quote (c ∷ rest))) (EndsWith quote text)
    (λ e. cond_both (c == quote) doubled (Some 1) (EndsWith quote text)
    (λ f. behind_two quote b c rest (quote_end quote rest) (quote_ends quote rest))
    (λ f. behind_first quote b (c ∷ rest) (eqb-true b quote e)))
    (λ e. behind_one quote b (c ∷ rest) (quote_end quote (c ∷ rest)) (quote_ends quote (c ∷ rest)))

-- so does an escape string
pub escape_ends : (text : List ℕ) → EndsWith 39 text (escape_end text)
escape_ends [] = tt
escape_ends (b ∷ []) = cond_both (b == 39) (Some 1) None (EndsWith 39 (b ∷ [])) (λ e. behind_first 39 b [] (eqb-true b 39 e)) (λ e. tt)
escape_ends (b ∷ c ∷ rest) =
    let text = b ∷ c ∷ rest in
    let two = past 2 (escape_end rest) in
    let one = past 1 (escape_end (c ∷ rest)) in
    let quote = if c == 39 then two else Some 1 in
    let ends_two = behind_two 39 b c rest (escape_end rest) (escape_ends rest) in
    cond_both (b == 92) two (if b == 39 then quote else one) (EndsWith 39 text)
    (λ e. ends_two)
    (λ e. cond_both (b == 39) quote one (EndsWith 39 text)
    (λ f. cond_both (c == 39) two (Some 1) (EndsWith 39 text) (λ g. ends_two) (λ g. behind_first 39 b (c ∷ rest) (eqb-true b 39 f)))
    (λ f. behind_one 39 b (c ∷ rest) (escape_end (c ∷ rest)) (escape_ends (c ∷ rest))))

-- a comment ends behind a slash
pub comment_ends : (outer : ℕ) (text : List ℕ) → EndsWith 47 text (comment_end outer text)
comment_ends outer [] = tt
comment_ends outer (b ∷ []) = tt
comment_ends outer (b ∷ c ∷ rest) =
    let text = b ∷ c ∷ rest in
    let inner = past 2 (comment_end (outer - 1) rest) in
    let closed = if outer == 0 then Some 2 else inner in
    let other = past 1 (comment_end outer (c ∷ rest)) in
    cond_both (opens b c) (past 2 (comment_end (outer + 1) rest)) (if closes b c then closed else other) (EndsWith 47 text)
    (λ e. behind_two 47 b c rest (comment_end (outer + 1) rest) (comment_ends (outer + 1) rest))
    (λ e. cond_both (closes b c) closed other (EndsWith 47 text)
    (λ f. cond_both (outer == 0) (Some 2) inner (EndsWith 47 text)
    (λ g. record { some = omega arith; within = omega arith; last = eqb-true c 47 (and_parts (b == 42) (c == 47) f).1 })
    (λ g. behind_two 47 b c rest (comment_end (outer - 1) rest) (comment_ends (outer - 1) rest)))
    (λ f. behind_one 47 b (c ∷ rest) (comment_end outer (c ∷ rest)) (comment_ends outer (c ∷ rest))))

-- a text that begins with this front has the front's last byte there
pub front_ends : (byte : ℕ) (text front : List ℕ) → begins text front ≡ true → IsBehind byte front (length front) → IsBehind byte text (length front)
front_ends byte text front e behind =
    let same : front ≡ take (length front) text = (bytes_decides front (take (length front) text)).0 e in
    let before : length front - 1 < length front = omega (arith, behind.some) in
    record {
      some = behind.some;
      within = omega (arith, ap length same, length-take (length front) text);
      last = sym (get_or-take (length front) text (length front - 1) 0 before) ∙ ap (λ bytes. get_or bytes (length front - 1) 0) (sym same) ∙ behind.last;
    }

-- a dollar quote ends behind the last byte of its tag
pub tag_ends : (byte : ℕ) (tag text : List ℕ) → IsBehind byte tag (length tag) → EndsWith byte text (first_end tag text)
tag_ends byte tag [] behind = tt
tag_ends byte tag (b ∷ rest) behind =
    cond_both (begins (b ∷ rest) tag) (Some (length tag)) (past 1 (first_end tag rest)) (EndsWith byte (b ∷ rest))
    (λ e. front_ends byte (b ∷ rest) tag e behind)
    (λ e. behind_one byte b rest (first_end tag rest) (tag_ends byte tag rest behind))

-- a token that ends behind an ASCII byte, or with the text, fits
pub closed_fits : (kind : Bool → TokenKind) (byte n : ℕ) (text : List ℕ) (found : Option ℕ) → byte < 128 → IsUtf8 text → 0 < length text → n ≤ length text
    → EndsWith byte (drop n text) found
    → ((m : ℕ) → IsBehind byte (drop n text) m → MeetsKind (take (n + m) text) (kind true))
    → ((front : List ℕ) → MeetsKind front (kind false))
    → Fits text (closed_at kind n text found)
closed_fits kind byte n text None ascii utf8 some le ends closed unclosed =
    record { nonempty = some; boundary = IsCharBoundary-end text; kind = unclosed (take (length text) text) }
closed_fits kind byte n text (Some m) ascii utf8 some le ends closed unclosed =
    let behind = later byte n text (Some m) le ends in
    record {
      nonempty = behind.some;
      boundary = after_ascii text (n + m) utf8 behind.some behind.within (omega (arith, behind.last));
      kind = closed m ends;
    }
