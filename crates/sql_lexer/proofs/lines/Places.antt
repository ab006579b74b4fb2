-- A token that ends before a text does, and the place after it, don't depend on the lines after the text.
use Rattle.std.proofs.Common.{◌≡◌, ◌∙◌, ℕ, ◌+◌, ◌-◌, ◌<◌, ◌≤◌, ◌==◌, Bool, true, false, List, ◌++◌, ⊎_elim, if◌then◌else◌, length, take, drop, arith, ap, refl}
use Rattle.std.specs.Option.{unwrap_or}
use Rattle.std.proofs.lemmas.List.{drop-append-le, take-append-le}
use Rattle.squawk_tokens.specs.declared.token.Token.{Token}
use Rattle.squawk_tokens.specs.declared.token.TokenKind.TheVariants.{Whitespace}
use Rattle.sql_lexer.specs.declared.script.places.Place.{Place}
use Rattle.sql_lexer.specs.declared.script.places.Place.TheVariants.{Front, Sql, Data}
use Rattle.sql_lexer.specs.declared.statements.Statement.{Statement}
use Rattle.sql_lexer.specs.declared.statements.Statement.TheVariants.{Start}
use Rattle.sql_lexer.specs.declared.statements.Word.{Word}
use Rattle.sql_lexer.specs.Lines.{EndsLine}
use Rattle.sql_lexer.specs.Rules.{first, first_of, token}
use Rattle.sql_lexer.specs.ScriptPlaces.{reach_of}
use Rattle.sql_lexer.specs.Scripts.{data_of, data_token, ends_data, has_mark, line_len, place_behind, place_behind_data, place_in, place_in_data, place_on_line, place_with, token_at}
use Rattle.sql_lexer.specs.ScriptWords.{word_of}
use Rattle.sql_lexer.specs.Signs.{sign}
use Rattle.sql_lexer.specs.Statements.{after, data_follow}
use Rattle.sql_lexer.specs.Tokens.{first_token, rules}
use Rattle.sql_lexer.proofs.lines.Agrees.{Agrees, Reaches, ends_drop}
use Rattle.sql_lexer.proofs.lines.DataLines.{same-data_token, same-ends_data, same-line_len, same-mark}
use Rattle.sql_lexer.proofs.lines.AllRules.{agrees-rules}
use Rattle.sql_lexer.proofs.lines.LineParts.{same_first}

-- ---- tokens of SQL

same_or_reaches : (text rest : List ℕ) → EndsLine text → Agrees (first_of rules) text rest → (first_token text).len < length text → first_token (text ++ rest) ≡ first_token text
same_or_reaches text rest ends agrees lt =
    ⊎_elim
    (λ (same : first_of rules (text ++ rest) ≡ first_of rules text).
    ap (λ found. unwrap_or found (sign (first (text ++ rest)))) same ∙ ap (λ b. unwrap_or (first_of rules text) (sign b)) (same_first text rest ends))
    (λ (reaches : Reaches text (first_of rules text)).
    let found : first_token text ≡ reaches.token = ap (λ found. unwrap_or found (sign (first text))) reaches.is in
    absurd (omega (arith, ap (λ (t : Token). t.len) found, reaches.end, lt)))
    agrees

pub same-first_token : (text rest : List ℕ) → EndsLine text → (first_token text).len < length text → first_token (text ++ rest) ≡ first_token text
same-first_token text rest ends lt = same_or_reaches text rest ends (agrees-rules text rest ends) lt

-- the place after some bytes, by the word that they are
place_of_word : (statement : Statement) (word : Word) (n : ℕ) (text rest : List ℕ) → EndsLine text → n < length text
    → place_with statement word (drop n (text ++ rest)) ≡ place_with statement word (drop n text)
place_of_word statement word n text rest ends lt =
    ap (place_with statement word) (drop-append-le n text rest (omega (arith, lt)))
    ∙ ap (λ left. if data_follow statement word then Data left (after statement word) 0 else Sql (after statement word)) (same-line_len (drop n text) rest (ends_drop n text ends lt))

same-place_in : (statement : Statement) (text rest : List ℕ) → EndsLine text → (first_token text).len < length text → place_in statement (text ++ rest) ≡ place_in statement text
same-place_in statement text rest ends lt =
    let found = first_token text in
    ap (λ (t : Token). place_with statement (word_of t.kind (take t.len (text ++ rest))) (drop t.len (text ++ rest))) (same-first_token text rest ends lt)
    ∙ (ap (λ word. place_with statement (word_of found.kind word) (drop found.len (text ++ rest))) (take-append-le found.len text rest (omega (arith, lt)))
    ∙ place_of_word statement (word_of found.kind (take found.len text)) found.len text rest ends lt)

-- ---- any place

-- the same token, and the same place after it
pub record IsSame (place : Place) (text rest : List ℕ) : Type 0 where
  pub token : token_at place (text ++ rest) ≡ token_at place text
  pub next : place_behind place (text ++ rest) ≡ place_behind place text

same_by : (b : Bool) {A : Type 0} (x y p q : A) → (b ≡ true → x ≡ p) → (b ≡ false → y ≡ q) → (if b then x else y) ≡ (if b then p else q)
same_by true x y p q first second = first refl
same_by false x y p q first second = second refl

lt_by : (b : Bool) (found other : Token) (n : ℕ) → (if b then found else other).len < n → b ≡ false → other.len < n
lt_by true found other n lt e = absurd (let x = e in cc)
lt_by false found other n lt e = lt

same_in_data : (statement : Statement) (waiting : ℕ) (text rest : List ℕ) → EndsLine text → place_in_data statement waiting (text ++ rest) ≡ place_in_data statement waiting text
same_in_data statement waiting text rest ends =
    ap (λ n. if n == 0 then data_of statement waiting else if ends_data (text ++ rest) then place_behind_data waiting else data_of statement waiting) (same-line_len text rest ends)
    ∙ ap (λ b. if line_len text == 0 then data_of statement waiting else if b then place_behind_data waiting else data_of statement waiting) (same-ends_data text rest ends)

pub same_at : (place : Place) (text rest : List ℕ) → EndsLine text → reach_of place ≤ length text → (token_at place text).len < length text → IsSame place text rest
same_at Front text rest ends within lt =
    let mark = same-mark text rest ends in
    record {
      token = ap (λ b. if b then token Whitespace 3 else first_token (text ++ rest)) mark
          ∙ same_by (has_mark text) (token Whitespace 3) (first_token (text ++ rest)) (token Whitespace 3) (first_token text) (λ e. refl)
          (λ e. same-first_token text rest ends (lt_by (has_mark text) (token Whitespace 3) (first_token text) (length text) lt e));
      next = ap (λ b. if b then Sql Start else place_in Start (text ++ rest)) mark
          ∙ same_by (has_mark text) (Sql Start) (place_in Start (text ++ rest)) (Sql Start) (place_in Start text) (λ e. refl)
          (λ e. same-place_in Start text rest ends (lt_by (has_mark text) (token Whitespace 3) (first_token text) (length text) lt e));
    }
same_at (Sql statement) text rest ends within lt =
    record { token = same-first_token text rest ends lt; next = same-place_in statement text rest ends lt }
same_at (Data left statement waiting) text rest ends within lt =
    let line : take left (text ++ rest) ≡ take left text = take-append-le left text rest within in
    let found = first_token (take left text) in
    record {
      token = ap (λ xs. if left == 0 then data_token (text ++ rest) else first_token xs) line
          ∙ same_by (left == 0) (data_token (text ++ rest)) found (data_token text) found (λ e. same-data_token text rest ends) (λ e. refl);
      next = ap (λ xs. if left == 0 then place_in_data statement waiting (text ++ rest) else place_on_line left statement waiting (text ++ rest) (first_token xs)) line
          ∙ same_by (left == 0) (place_in_data statement waiting (text ++ rest)) (place_on_line left statement waiting (text ++ rest) found)
          (place_in_data statement waiting text) (place_on_line left statement waiting text found)
          (λ e. same_in_data statement waiting text rest ends)
          (λ e. ap (λ word. Data (left - found.len) (after statement (word_of found.kind word)) (if data_follow statement (word_of found.kind word) then waiting + 1 else waiting))
          (take-append-le found.len text rest (omega (arith, lt_by (left == 0) (data_token text) found (length text) lt e))));
    }
