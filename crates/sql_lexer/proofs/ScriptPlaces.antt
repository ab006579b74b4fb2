-- Places of scripts: what stands there fits, and nothing is counted past the text.
use Rattle.std.proofs.Common.{◌≡◌, ◌∙◌, ℕ, zero, suc, ◌+◌, ◌-◌, ◌<◌, ◌≤◌, ◌==◌, true, false, Bool, List, length, take, drop, arith, ap, refl, sym, [], ◌∷◌, subst}
use Rattle.std.specs.List.{list_all}
use Rattle.std.specs.Str.{str_eq_ignore_ascii_case}
use Rattle.std.specs.Prelude.{IsUtf8, IsCharBoundary, if◌then◌else◌}
use Rattle.std.proofs.lemmas.Bool.{and_parts, cond_both, cond-false, false≢true}
use Rattle.std.proofs.lemmas.Bool.Decides.{nat_tests}
use Rattle.std.proofs.lemmas.Str.{IsUtf8-drop, IsCharBoundary-start}
use Rattle.squawk_tokens.specs.declared.token.Token.{Token}
use Rattle.squawk_tokens.specs.declared.token.TokenKind.{TokenKind}
use Rattle.squawk_tokens.specs.declared.token.TokenKind.TheVariants.{Ident, PsqlCommand, Semi, Whitespace}
use Rattle.sql_lexer.specs.declared.script.places.Place.{Place}
use Rattle.sql_lexer.specs.declared.script.places.Place.TheVariants.{Front, Sql, Data}
use Rattle.sql_lexer.specs.declared.statements.Statement.{Statement}
use Rattle.sql_lexer.specs.declared.statements.Statement.TheVariants.{Start, Plain}
use Rattle.sql_lexer.specs.declared.statements.Word.{Word}
use Rattle.sql_lexer.specs.declared.statements.Word.TheVariants.{Command, CopyCommand, QueryEnd, Semicolon}
use Rattle.sql_lexer.specs.Rules.{token}
use Rattle.sql_lexer.specs.Statements.{after, data_follow, unclosed_in}
use Rattle.sql_lexer.specs.ScriptWords.{names, word_in, word_of}
use Rattle.sql_lexer.specs.ScriptPlaces.{may_end, reach_of, unclosed_at, waiting_at}
use Rattle.sql_lexer.specs.Scripts.{data_of, data_token, ends_data, has_mark, line_len, place_before, place_behind, place_behind_data, place_in, place_in_data, place_on_line, place_with, token_at, token_before, waiting_behind}
use Rattle.sql_lexer.specs.Tokens.{first_token}
use Rattle.sql_lexer.proofs.CutTokens.{Cutter}
use Rattle.sql_lexer.proofs.FirstFits.{first_token_fits}
use Rattle.sql_lexer.proofs.Fits.{Fits}
use Rattle.sql_lexer.proofs.Unclosed.{most_after}
use Rattle.sql_lexer.proofs.LinesFit.{boundary_behind, data_fits, front_fits, front_within, line_ends_well, mark_fits}

-- ---- what is unclosed

-- a place in data is one of three
in_data : (statement : Statement) (waiting : ℕ) (text : List ℕ) (P : Place → Type 0)
    → ((line_len text == 0) ≡ true → P (data_of statement waiting)) → (ends_data text ≡ true → P (place_behind_data waiting))
    → (ends_data text ≡ false → P (data_of (after statement Command) waiting)) → P (place_in_data statement waiting text)
in_data statement waiting text P empty ends goes_on =
    cond_both (line_len text == 0) (data_of statement waiting) (if ends_data text then place_behind_data waiting else data_of (after statement Command) waiting) P empty
    (λ e. cond_both (ends_data text) (place_behind_data waiting) (data_of (after statement Command) waiting) P ends goes_on)

most_in : (statement : Statement) (text : List ℕ) → unclosed_at (place_in statement text) ≤ unclosed_in statement + 1
most_in statement text =
    let found = first_token text in
    let word = word_of found.kind (take found.len text) in
    cond_both (data_follow statement word) (Data (line_len (drop found.len text)) (after statement word) 0) (Sql (after statement word)) (λ p. unclosed_at p ≤ unclosed_in statement + 1)
    (λ e. most_after statement word)
    (λ e. most_after statement word)

most_behind_data : (waiting : ℕ) → unclosed_at (place_behind_data waiting) ≤ 0
most_behind_data zero = omega arith
most_behind_data (suc waiting) = omega arith

most_in_data : (statement : Statement) (waiting : ℕ) (text : List ℕ) → unclosed_at (place_in_data statement waiting text) ≤ unclosed_in statement + 1
most_in_data statement waiting text =
    in_data statement waiting text (λ p. unclosed_at p ≤ unclosed_in statement + 1)
    (λ e. omega arith)
    (λ e. omega (arith, most_behind_data waiting))
    (λ e. most_after statement Command)

pub most_at : (place : Place) (text : List ℕ) → unclosed_at (place_behind place text) ≤ unclosed_at place + 1
most_at Front text =
    cond_both (has_mark text) (Sql Start) (place_in Start text) (λ p. unclosed_at p ≤ 1) (λ e. omega arith) (λ e. most_in Start text)
most_at (Sql statement) text = most_in statement text
most_at (Data left statement waiting) text =
    let found = first_token (take left text) in
    cond_both (left == 0) (place_in_data statement waiting text) (place_on_line left statement waiting text found) (λ p. unclosed_at p ≤ unclosed_in statement + 1)
    (λ e. omega (arith, most_in_data statement waiting text))
    (λ e. most_after statement (word_of found.kind (take found.len text)))

-- ---- what waits

waits_in : (statement : Statement) (text : List ℕ) → waiting_at (place_in statement text) ≤ 0
waits_in statement text =
    let found = first_token text in
    let word = word_of found.kind (take found.len text) in
    cond_both (data_follow statement word) (Data (line_len (drop found.len text)) (after statement word) 0) (Sql (after statement word)) (λ p. waiting_at p ≤ 0)
    (λ e. omega arith)
    (λ e. omega arith)

waits_behind_data : (waiting : ℕ) → waiting_at (place_behind_data waiting) ≤ waiting
waits_behind_data zero = omega arith
waits_behind_data (suc waiting) = omega arith

waits_in_data : (statement : Statement) (waiting : ℕ) (text : List ℕ) → waiting_at (place_in_data statement waiting text) ≤ waiting
waits_in_data statement waiting text =
    in_data statement waiting text (λ p. waiting_at p ≤ waiting) (λ e. omega arith) (λ e. waits_behind_data waiting) (λ e. omega arith)

waits_on_line : (waiting : ℕ) (statement : Statement) (word : Word) → waiting_behind waiting statement word ≤ waiting + 1
waits_on_line waiting statement word =
    cond_both (data_follow statement word) (waiting + 1) waiting (λ n. n ≤ waiting + 1) (λ e. omega arith) (λ e. omega arith)

pub waits_at : (place : Place) (text : List ℕ) → waiting_at (place_behind place text) ≤ waiting_at place + 1
waits_at Front text =
    cond_both (has_mark text) (Sql Start) (place_in Start text) (λ p. waiting_at p ≤ 1) (λ e. omega arith) (λ e. omega (arith, waits_in Start text))
waits_at (Sql statement) text = omega (arith, waits_in statement text)
waits_at (Data left statement waiting) text =
    let found = first_token (take left text) in
    cond_both (left == 0) (place_in_data statement waiting text) (place_on_line left statement waiting text found) (λ p. waiting_at p ≤ waiting + 1)
    (λ e. omega (arith, waits_in_data statement waiting text))
    (λ e. waits_on_line waiting statement (word_of found.kind (take found.len text)))

-- ---- what stands there

-- a token fits, and the place behind it reaches to the beginning of a character
pub record Goes (text : List ℕ) (found : Token) (next : Place) : Type 0 where
  pub fits : Fits text found
  pub reaches : IsCharBoundary (drop found.len text) (reach_of next)

goes_to : (text : List ℕ) (found : Token) (next : Place) → IsUtf8 text → Fits text found
    → (IsUtf8 (drop found.len text) → IsCharBoundary (drop found.len text) (reach_of next)) → Goes text found next
goes_to text found next utf8 fits reaches = record { fits = fits; reaches = reaches (IsUtf8-drop text found.len utf8 fits.boundary) }

goes_in : (statement : Statement) (text : List ℕ) → IsUtf8 text → 0 < length text → Goes text (first_token text) (place_in statement text)
goes_in statement text utf8 some =
    let found = first_token text in
    let rest = drop found.len text in
    let word = word_of found.kind (take found.len text) in
    goes_to text found (place_in statement text) utf8 (first_token_fits text utf8 some) (λ utf.
    cond_both (data_follow statement word) (Data (line_len rest) (after statement word) 0) (Sql (after statement word)) (λ p. IsCharBoundary rest (reach_of p))
    (λ e. line_ends_well rest)
    (λ e. IsCharBoundary-start rest utf))

goes_by : (b : Bool) (text : List ℕ) (found other : Token) (next later : Place) → (b ≡ true → Goes text found next) → (b ≡ false → Goes text other later)
    → Goes text (if b then found else other) (if b then next else later)
goes_by true text found other next later goes_first goes_second = goes_first refl
goes_by false text found other next later goes_first goes_second = goes_second refl

-- data begin where they are
reaches_behind_data : (waiting : ℕ) → reach_of (place_behind_data waiting) ≡ 0
reaches_behind_data zero = refl
reaches_behind_data (suc waiting) = refl

reaches_in_data : (statement : Statement) (waiting : ℕ) (text : List ℕ) → reach_of (place_in_data statement waiting text) ≡ 0
reaches_in_data statement waiting text =
    in_data statement waiting text (λ p. reach_of p ≡ 0) (λ e. refl) (λ e. reaches_behind_data waiting) (λ e. refl)

pub goes : (place : Place) (text : List ℕ) → IsUtf8 text → IsCharBoundary text (reach_of place) → 0 < length text
    → Goes text (token_at place text) (place_behind place text)
goes Front text utf8 reach some =
    goes_by (has_mark text) text (token Whitespace 3) (first_token text) (Sql Start) (place_in Start text)
    (λ e. goes_to text (token Whitespace 3) (Sql Start) utf8 (mark_fits text utf8 e) (λ utf. IsCharBoundary-start (drop 3 text) utf))
    (λ e. goes_in Start text utf8 some)
goes (Sql statement) text utf8 reach some = goes_in statement text utf8 some
goes (Data left statement waiting) text utf8 reach some =
    let line = data_token text in
    let found = first_token (take left text) in
    let next = place_in_data statement waiting text in
    goes_by (left == 0) text line found next (place_on_line left statement waiting text found)
    (λ e. goes_to text line next utf8 (data_fits text utf8 some) (λ utf.
    subst (IsCharBoundary (drop line.len text)) (sym (reaches_in_data statement waiting text)) (IsCharBoundary-start (drop line.len text) utf)))
    (λ e.
    let some_left : 0 < left = grind (arith, nat_tests) in
    let fits = front_fits text left utf8 reach some_left in
    record { fits = fits; reaches = boundary_behind text left found.len reach (front_within text left utf8 reach some_left) })

abbrev pub script : Cutter Place
script = record {
  token = token_at;
  next = place_behind;
  reach = reach_of;
  fits = λ place text utf8 reach some. (goes place text utf8 reach some).fits;
  reaches = λ place text utf8 reach some. (goes place text utf8 reach some).reaches;
}

-- ---- the line of COPY

is_left : (left : ℕ) → 0 < left → (left == 0) ≡ false
is_left left some = grind (arith, nat_tests)

pub token_on_line : (left : ℕ) (text : List ℕ) → 0 < left → first_token (take left text) ≡ token_before left text
token_on_line left text some = sym (cond-false (left == 0) (data_token text) (first_token (take left text)) (is_left left some))

-- the place by the token's word
pub on_line : (left : ℕ) (statement : Statement) (waiting : ℕ) (text : List ℕ) (found : Token) {word : Word} {next : Statement} {more : ℕ}
    → word ≡ word_of found.kind (take found.len text) → next ≡ after statement word → more ≡ waiting_behind waiting statement word
    → Data (left - found.len) next more ≡ place_on_line left statement waiting text found
on_line left statement waiting text found {word} {next} {more} is goes waits =
    ap (λ s. Data (left - found.len) s more) goes
    ∙ (ap (λ n. Data (left - found.len) (after statement word) n) waits
    ∙ ap (λ w. Data (left - found.len) (after statement w) (waiting_behind waiting statement w)) is)

pub next_on_line : (left : ℕ) (statement : Statement) (waiting : ℕ) (text : List ℕ) (found : Token) → 0 < left → found ≡ first_token (take left text)
    → place_on_line left statement waiting text found ≡ place_before left statement waiting text
next_on_line left statement waiting text found some same =
    ap (place_on_line left statement waiting text) same
    ∙ sym (cond-false (left == 0) (place_in_data statement waiting text) (place_on_line left statement waiting text (first_token (take left text))) (is_left left some))

-- ---- a plain statement

-- a word that doesn't end it
goes_by_plain : Word → Bool
goes_by_plain Semicolon = false
goes_by_plain QueryEnd = false
goes_by_plain CopyCommand = false
goes_by_plain word = true

plain_behind : (word : Word) (rest : List ℕ) → goes_by_plain word ≡ true → Sql Plain ≡ place_with Plain word rest
unfolding goes_by_plain
plain_behind Semicolon rest e = absurd (false≢true e)
plain_behind QueryEnd rest e = absurd (false≢true e)
plain_behind CopyCommand rest e = absurd (false≢true e)
plain_behind word rest e = refl

name_goes_by : (rows : List (List ℕ × Word)) (name : List ℕ) → list_all (λ row. goes_by_plain row.1) rows ≡ true → goes_by_plain (word_in rows name) ≡ true
unfolding goes_by_plain
name_goes_by [] name e = refl
name_goes_by (row ∷ rows) name e =
    let parts = and_parts (goes_by_plain row.1) (list_all (λ row. goes_by_plain row.1) rows) e in
    cond_both (str_eq_ignore_ascii_case name row.0) row.1 (word_in rows name) (λ word. goes_by_plain word ≡ true) (λ f. parts.0) (λ f. name_goes_by rows name parts.1)

kind_goes_by : (kind : TokenKind) (text : List ℕ) → may_end kind ≡ false → goes_by_plain (word_of kind text) ≡ true
unfolding goes_by_plain
kind_goes_by Semi text e = absurd (false≢true (sym e))
kind_goes_by (PsqlCommand ends_query) text e = absurd (false≢true (sym e))
kind_goes_by Ident text e = name_goes_by names text refl
kind_goes_by kind text e = refl

stays : (text : List ℕ) (found : Token) → found ≡ first_token text → may_end found.kind ≡ false → Sql Plain ≡ place_in Plain text
stays text found same e =
    let kind = (first_token text).kind in
    let front = take (first_token text).len text in
    plain_behind (word_of kind front) (drop (first_token text).len text) (kind_goes_by kind front (subst (λ (t : Token). may_end t.kind ≡ false) same e))

pub plain_stays : (statement : Statement) (text : List ℕ) (found : Token) → statement ≡ Plain → found ≡ first_token text → may_end found.kind ≡ false
    → Sql statement ≡ place_in statement text
plain_stays statement text found plain same e = subst (λ (s : Statement). Sql s ≡ place_in s text) (sym plain) (stays text found same e)
