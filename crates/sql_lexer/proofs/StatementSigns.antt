-- Where a statement ends: the first sign of what is left, and the others.
use Rattle.std.proofs.Common.{◌≡◌, ◌∙◌, ℕ, zero, suc, ◌-◌, ◌<◌, ◌==◌, ◌&&◌, nat_le, Bool, true, false, List, [], ◌∷◌, length, take, drop, if◌then◌else◌, arith, ap, refl, sym}
use Rattle.std.specs.List.{list_all}
use Rattle.std.specs.Str.{str_eq_ignore_ascii_case}
use Rattle.std.proofs.lemmas.Bool.{and_parts, cond_both, false≢true}
use Rattle.squawk_tokens.specs.declared.token.Token.{Token}
use Rattle.squawk_tokens.specs.declared.token.TokenKind.{TokenKind}
use Rattle.squawk_tokens.specs.declared.token.TokenKind.TheVariants.{Ident, PsqlCommand, Semi, Whitespace}
use Rattle.sql_lexer.specs.declared.script.places.Place.{Place}
use Rattle.sql_lexer.specs.declared.script.places.Place.TheVariants.{Front, Sql, Data}
use Rattle.sql_lexer.specs.declared.statements.Statement.{Statement}
use Rattle.sql_lexer.specs.declared.statements.Statement.TheVariants.{Start, Created, CreatedOr, Replaced, Plain, OfRule, OfRoutine, OfBlock, OfCopy}
use Rattle.sql_lexer.specs.declared.statements.Before.{Before}
use Rattle.sql_lexer.specs.declared.statements.Before.TheVariants.{Any, Block}
use Rattle.sql_lexer.specs.declared.statements.Word.{Word}
use Rattle.sql_lexer.specs.declared.statements.Word.TheVariants.{Atomic, Command, Copy, CopyCommand, Create, End, Function, Or, Procedure, QueryEnd, Replace, Rule, Semicolon}
use Rattle.sql_lexer.specs.Rules.{token}
use Rattle.sql_lexer.specs.ScriptEnds.{statement_at, word_at}
use Rattle.sql_lexer.specs.ScriptLexing.{signs_from}
use Rattle.sql_lexer.specs.ScriptPlaces.{may_end}
use Rattle.sql_lexer.specs.Scripts.{data_of, data_token, ends_data, has_mark, line_end_len, line_len, place_behind, place_behind_data, place_in, place_in_data, place_on_line, token_at}
use Rattle.sql_lexer.specs.ScriptWords.{is_copy_command, names, plain_word, word_in, word_of}
use Rattle.sql_lexer.specs.Statements.{after, begun_by, block_after, created_by, creating, data_follow, ends_with, goes_on, held_by, is_start, read_as, replaced_by, routine_after, routine_on}
use Rattle.sql_lexer.specs.Tokens.{first_token}

-- ---- signs

begun : (word : Word) → is_start (begun_by word) ≡ false
begun Create = refl
begun Copy = refl
begun word = refl

creates : (word : Word) → is_start (creating word) ≡ false
creates Function = refl
creates Procedure = refl
creates Rule = refl
creates word = refl

created : (word : Word) → is_start (created_by word) ≡ false
created Or = refl
created word = creates word

replaced : (word : Word) → is_start (replaced_by word) ≡ false
replaced Replace = refl
replaced word = refl

routine : (unclosed : ℕ) (before : Before) (word : Word) → is_start (routine_after unclosed before word) ≡ false
routine unclosed Block Atomic = cond_both (unclosed == 0) (OfBlock 1 Any) (routine_on unclosed Block Atomic) (λ s. is_start s ≡ false) (λ e. refl) (λ e. refl)
routine unclosed before word = refl

block : (unclosed : ℕ) (word : Word) → is_start (block_after unclosed word) ≡ false
block unclosed End = cond_both (nat_le unclosed 1) (OfRoutine 0 Any) (OfBlock (unclosed - 1) Any) (λ s. is_start s ≡ false) (λ e. refl) (λ e. refl)
block unclosed word = refl

-- a statement with a word more has begun
pub has_begun : (statement : Statement) (word : Word) → is_start (goes_on statement word) ≡ false
has_begun Start word = begun word
has_begun Created word = created word
has_begun CreatedOr word = replaced word
has_begun Replaced word = creates word
has_begun Plain word = refl
has_begun (OfRule unclosed) word = refl
has_begun (OfRoutine unclosed before) word = routine unclosed before word
has_begun (OfBlock unclosed before) word = block unclosed (read_as before word)
has_begun (OfCopy unclosed phrase) word = refl

by_semicolon : (statement : Statement) → (held_by statement == 0) ≡ is_start (after statement Semicolon)
by_semicolon statement =
    cases (held_by statement == 0)
  where
    cases : (b : Bool) → b ≡ is_start (if b then Start else goes_on statement Semicolon)
    cases true = refl
    cases false = sym (has_begun statement Semicolon)

-- a word that ends no statement
abbrev ends_none : Word → Bool
ends_none Semicolon = false
ends_none QueryEnd = false
ends_none CopyCommand = false
ends_none Command = false
ends_none word = true

none_ends : (statement : Statement) (word : Word) → ends_none word ≡ true → ends_with statement word ≡ false
none_ends statement Semicolon e = absurd (false≢true e)
none_ends statement QueryEnd e = absurd (false≢true e)
none_ends statement CopyCommand e = absurd (false≢true e)
none_ends statement Command e = absurd (false≢true e)
none_ends statement word e = refl

name_ends_none : (rows : List (List ℕ × Word)) (name : List ℕ) → list_all (λ row. ends_none row.1) rows ≡ true → ends_none (word_in rows name) ≡ true
name_ends_none [] name e = refl
name_ends_none (row ∷ rows) name e =
    let parts = and_parts (ends_none row.1) (list_all (λ row. ends_none row.1) rows) e in
    cond_both (str_eq_ignore_ascii_case name row.0) row.1 (word_in rows name) (λ word. ends_none word ≡ true) (λ f. parts.0) (λ f. name_ends_none rows name parts.1)

-- a token ends a statement if it is a semicolon or a command, and none is begun after it
ends : (statement : Statement) (kind : TokenKind) (text : List ℕ) → ends_with statement (plain_word kind text) ≡ (may_end kind && is_start (after statement (word_of kind text)))
ends statement Semi text = by_semicolon statement
ends statement (PsqlCommand true) text = refl
ends statement (PsqlCommand false) text =
    cond_both (is_copy_command text) CopyCommand Command (λ word. is_start statement ≡ is_start (after statement word)) (λ e. refl) (λ e. refl)
ends statement Ident text = none_ends statement (word_in names text) (name_ends_none names text refl)
ends statement kind text = refl

abbrev Ends : Statement → List ℕ → Token → Place → Type 0
Ends statement text found next = ends_with statement (plain_word found.kind (take found.len text)) ≡ (may_end found.kind && is_start (statement_at next))

by_both : (b : Bool) (P : Token → Place → Type 0) (found other : Token) (next later : Place) → (b ≡ true → P found next) → (b ≡ false → P other later)
    → P (if b then found else other) (if b then next else later)
by_both true P found other next later first second = first refl
by_both false P found other next later first second = second refl

ends_in : (statement : Statement) (text : List ℕ) → Ends statement text (first_token text) (place_in statement text)
ends_in statement text =
    let found = first_token text in
    let word = word_of found.kind (take found.len text) in
    cond_both (data_follow statement word) (Data (line_len (drop found.len text)) (after statement word) 0) (Sql (after statement word)) (λ next. Ends statement text found next)
    (λ e. ends statement found.kind (take found.len text))
    (λ e. ends statement found.kind (take found.len text))

start_behind_data : (waiting : ℕ) → is_start (statement_at (place_behind_data waiting)) ≡ true
start_behind_data zero = refl
start_behind_data (suc waiting) = refl

ends_line : (b : Bool) (statement : Statement) (waiting n : ℕ) (text : List ℕ)
    → Ends statement text (token (PsqlCommand b) n) (if b then place_behind_data waiting else data_of statement waiting)
ends_line true statement waiting n text = sym (start_behind_data waiting)
ends_line false statement waiting n text = refl

ends_in_data : (statement : Statement) (waiting : ℕ) (text : List ℕ) → Ends statement text (data_token text) (place_in_data statement waiting text)
ends_in_data statement waiting text =
    by_both (line_len text == 0) (Ends statement text) (token Whitespace (line_end_len text)) (token (PsqlCommand (ends_data text)) (line_len text))
    (data_of statement waiting) (if ends_data text then place_behind_data waiting else data_of statement waiting)
    (λ e. refl)
    (λ e. ends_line (ends_data text) statement waiting (line_len text) text)

pub ends_at : (place : Place) (text : List ℕ) → ends_with (statement_at place) (word_at place text) ≡ (may_end (token_at place text).kind && is_start (statement_at (place_behind place text)))
ends_at Front text =
    by_both (has_mark text) (Ends Start text) (token Whitespace 3) (first_token text) (Sql Start) (place_in Start text) (λ e. refl) (λ e. ends_in Start text)
ends_at (Sql statement) text = ends_in statement text
ends_at (Data left statement waiting) text =
    let found = first_token (take left text) in
    by_both (left == 0) (Ends statement text) (data_token text) found (place_in_data statement waiting text) (place_on_line left statement waiting text found)
    (λ e. ends_in_data statement waiting text)
    (λ e. ends statement found.kind (take found.len text))

-- ---- the first sign, and the others

signs-behind : (place : Place) (n : ℕ) (text : List ℕ) → signs_from place n text ≡ signs_from place 0 (drop n text)
signs-behind place zero text = refl
signs-behind place (suc n) [] = refl
signs-behind place (suc n) (b ∷ rest) = signs-behind place n rest

pub signs-first : (place : Place) (text : List ℕ) → 0 < length text → 0 < (token_at place text).len
    → signs_from place 0 text ≡ ends_with (statement_at place) (word_at place text) ∷ signs_from (place_behind place text) 0 (drop (token_at place text).len text)
signs-first place [] some nonempty = absurd (omega arith)
signs-first place (b ∷ rest) some nonempty =
    let found = token_at place (b ∷ rest) in
    let later = place_behind place (b ∷ rest) in
    let next : found.len ≡ suc (found.len - 1) = omega (arith, nonempty) in
    ap (λ others. ends_with (statement_at place) (word_at place (b ∷ rest)) ∷ others)
    (signs-behind later (found.len - 1) rest ∙ ap (λ n. signs_from later 0 (drop n (b ∷ rest))) (sym next))
