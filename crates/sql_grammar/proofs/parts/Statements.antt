-- The statements of kinds of which the first end with a statement.
use Rattle.std.proofs.Common.{◌≡◌, ◌∙◌, ℕ, zero, suc, ◌+◌, ◌-◌, ◌<◌, ◌≤◌, ◌==◌, ◌⊎◌, inl, inr, Bool, true, false, List, [], ◌∷◌, ◌++◌, length, drop, if◌then◌else◌, arith, ap, sym, subst, refl, length-drop}
use Rattle.std.specs.Prelude.{not, ◌||◌}
use Rattle.std.specs.List.{list_all}
use Rattle.std.proofs.lemmas.Bool.{and_parts, cond-true, cond-false, eqb-true, false≢true}
use Rattle.std.proofs.lemmas.List.{drop-append-le}
use Rattle.sql_lexer.specs.declared.statements.Statement.{Statement as Begun}
use Rattle.sql_lexer.specs.declared.statements.Statement.TheVariants.{Start, Plain}
use Rattle.sql_lexer.specs.declared.statements.Word.{Word}
use Rattle.sql_lexer.specs.declared.statements.Word.TheVariants.{Trivia, Command, CopyCommand, QueryEnd, Semicolon}
use Rattle.sql_lexer.specs.Statements.{after, ends_with, goes_on, is_start}
use Rattle.sql_lexer.specs.ScriptEnds.{is_passed_over}
use Rattle.sql_lexer.proofs.StatementSigns.{has_begun}
use Rattle.sql_grammar.specs.Statements.{Statement, content_len, first_statement, first_word, is_psql, kind_for, kind_of, len_from, len_of, nth, statements_of}
use Rattle.sql_grammar.specs.StatementKinds.{statement_kinds}
use Rattle.sql_grammar.specs.Kinds.{PSQL_COMMAND}
use Rattle.sql_grammar.specs.Parts.{last_ends}
use Rattle.sql_grammar.proofs.AddedStatements.{statements-first}
use Rattle.sql_grammar.proofs.ScriptStatements.{after-end, drop-next}
use Rattle.sql_grammar.specs.Words.{word_in, word_of, words}
use Rattle.squawk_kinds.specs.Kinds.{EOF, L_PAREN, PSQL_COMMAND_TEXT, PSQL_TERMINATOR_TEXT}

-- ---- one statement

-- after a word that ends none, one has begun
goes_after : (statement : Begun) (word : Word) → is_passed_over word ≡ false → ends_with statement word ≡ false → is_start (after statement word) ≡ false
goes_after statement Trivia passed e = absurd (false≢true (sym passed))
goes_after statement Command passed e = e
goes_after statement CopyCommand passed e = e
goes_after statement word passed e = ap is_start (cond-false (ends_with statement word) Start (goes_on statement word) e) ∙ has_begun statement word

-- a word that ends a statement is a sign, which ends a plain one too, or a command of psql that stands alone
ends_as : (statement : Begun) (word : Word) → ends_with statement word ≡ true → (ends_with Plain word ≡ true) ⊎ (is_start statement ≡ true)
ends_as statement QueryEnd e = inl refl
ends_as statement Semicolon e = inl refl
ends_as statement Command e = inr e
ends_as statement CopyCommand e = inr e
ends_as statement word e = absurd (false≢true e)

-- ---- the first of some kinds

abbrev pub HasNoTrivia : List ℕ → Type 0
HasNoTrivia [] = Unit {0}
HasNoTrivia (kind ∷ kinds) = (is_passed_over (word_of kind) ≡ false) × HasNoTrivia kinds

-- the statement that stands first, whatever stands after these kinds
pub record StandsFirst (statement : Begun) (kinds others : List ℕ) : Type 0 where
  pub len : len_from statement (kinds ++ others) ≡ len_from statement kinds
  pub some : 0 < len_from statement kinds
  pub within : len_from statement kinds ≤ length kinds
  pub rest : last_ends Start (drop (len_from statement kinds) kinds) ≡ true
  pub no_trivia : HasNoTrivia (drop (len_from statement kinds) kinds)
  pub sign : (ends_with Plain (word_of (nth kinds (len_from statement kinds - 1))) ≡ true)
      ⊎ ((is_start statement ≡ true) × (len_from statement kinds ≡ 1) × (ends_with statement (word_of (nth kinds 0)) ≡ true))

rest_closed : (statement : Begun) (kind : ℕ) (kinds : List ℕ) → ends_with statement (word_of kind) ≡ true → last_ends statement (kind ∷ kinds) ≡ true
    → last_ends Start kinds ≡ true
rest_closed statement kind [] e closed = refl
rest_closed statement kind (next ∷ kinds) e closed = subst (λ s. last_ends s (next ∷ kinds) ≡ true) (after-end statement (word_of kind) e) closed

ends_here : (statement : Begun) (kind : ℕ) (kinds others : List ℕ) → HasNoTrivia (kind ∷ kinds) → ends_with statement (word_of kind) ≡ true
    → last_ends statement (kind ∷ kinds) ≡ true → StandsFirst statement (kind ∷ kinds) others
ends_here statement kind kinds others none e closed =
    let same : (rest : List ℕ) → len_from statement (kind ∷ rest) ≡ 1 = λ rest. cond-true (ends_with statement (word_of kind)) 1 (1 + len_from (after statement (word_of kind)) rest) e in
    let one = same kinds in
    let front : len_from statement (kind ∷ kinds) - 1 ≡ 0 = omega (arith, one) in
    let by : (ends_with Plain (word_of kind) ≡ true) ⊎ (is_start statement ≡ true)
    → (ends_with Plain (word_of (nth (kind ∷ kinds) (len_from statement (kind ∷ kinds) - 1))) ≡ true)
    ⊎ ((is_start statement ≡ true) × (len_from statement (kind ∷ kinds) ≡ 1) × (ends_with statement (word_of (nth (kind ∷ kinds) 0)) ≡ true)) =
    elim [
      | inl plain ↦ inl (ap (λ n. ends_with Plain (word_of (nth (kind ∷ kinds) n))) front ∙ plain)
      | inr start ↦ inr (start, one, e)
    ] in
    record {
      len = same (kinds ++ others) ∙ sym one;
      some = omega (arith, one);
      within = omega (arith, one);
      rest = subst (λ n. last_ends Start (drop n (kind ∷ kinds)) ≡ true) (sym one) (rest_closed statement kind kinds e closed);
      no_trivia = subst (λ n. HasNoTrivia (drop n (kind ∷ kinds))) (sym one) none.1;
      sign = by (ends_as statement (word_of kind) e);
    }

goes_here : (statement : Begun) (kind next : ℕ) (kinds others : List ℕ) → HasNoTrivia (kind ∷ next ∷ kinds) → ends_with statement (word_of kind) ≡ false
    → StandsFirst (after statement (word_of kind)) (next ∷ kinds) others → StandsFirst statement (kind ∷ next ∷ kinds) others
goes_here statement kind next kinds others none e inner =
    let later = after statement (word_of kind) in
    let same : (rest : List ℕ) → len_from statement (kind ∷ rest) ≡ 1 + len_from later rest = λ rest. cond-false (ends_with statement (word_of kind)) 1 (1 + len_from later rest) e in
    let len = len_from later (next ∷ kinds) in
    let more = same (next ∷ kinds) in
    let rest : drop (len_from statement (kind ∷ next ∷ kinds)) (kind ∷ next ∷ kinds) ≡ drop len (next ∷ kinds) =
    ap (λ n. drop n (kind ∷ next ∷ kinds)) more ∙ drop-next kind (next ∷ kinds) len in
    let last : len_from statement (kind ∷ next ∷ kinds) - 1 ≡ suc (len - 1) = omega (arith, more, inner.some) in
    let by : (ends_with Plain (word_of (nth (next ∷ kinds) (len - 1))) ≡ true) ⊎ ((is_start later ≡ true) × (len ≡ 1) × (ends_with later (word_of (nth (next ∷ kinds) 0)) ≡ true))
    → (ends_with Plain (word_of (nth (kind ∷ next ∷ kinds) (len_from statement (kind ∷ next ∷ kinds) - 1))) ≡ true)
    ⊎ ((is_start statement ≡ true) × (len_from statement (kind ∷ next ∷ kinds) ≡ 1) × (ends_with statement (word_of (nth (kind ∷ next ∷ kinds) 0)) ≡ true)) =
    elim [
      | inl plain ↦ inl (ap (λ n. ends_with Plain (word_of (nth (kind ∷ next ∷ kinds) n))) last ∙ plain)
      | inr start ↦ absurd (false≢true (sym (goes_after statement (word_of kind) none.0 e) ∙ start.0))
    ] in
    record {
      len = same (next ∷ kinds ++ others) ∙ (ap (λ n. 1 + n) inner.len ∙ sym more);
      some = omega (arith, more);
      within = omega (arith, more, inner.within);
      rest = subst (λ kinds. last_ends Start kinds ≡ true) (sym rest) inner.rest;
      no_trivia = subst HasNoTrivia (sym rest) inner.no_trivia;
      sign = by inner.sign;
    }

pub stands_first : (statement : Begun) (kind : ℕ) (kinds others : List ℕ) → HasNoTrivia (kind ∷ kinds) → last_ends statement (kind ∷ kinds) ≡ true
    → StandsFirst statement (kind ∷ kinds) others
stands_first statement kind [] others none closed = ends_here statement kind [] others none closed closed
stands_first statement kind (next ∷ kinds) others none closed =
    cases (ends_with statement (word_of kind)) refl (stands_first (after statement (word_of kind)) next kinds others none.1 closed)
  where
    cases : (b : Bool) → ends_with statement (word_of kind) ≡ b → StandsFirst (after statement (word_of kind)) (next ∷ kinds) others → StandsFirst statement (kind ∷ next ∷ kinds) others
    cases true e inner = ends_here statement kind (next ∷ kinds) others none e closed
    cases false e inner = goes_here statement kind next kinds others none e inner

-- ---- its kind and its tokens before the sign

nth-front : (kinds others : List ℕ) (n : ℕ) → n < length kinds → nth (kinds ++ others) n ≡ nth kinds n
nth-front [] others n lt = absurd (omega arith)
nth-front (kind ∷ kinds) others zero lt = refl
nth-front (kind ∷ kinds) others (suc n) lt = nth-front kinds others n (omega arith)

content-front : (kinds others : List ℕ) (n : ℕ) → n ≤ length kinds → content_len (kinds ++ others) n ≡ content_len kinds n
content-front kinds others zero le = refl
content-front kinds others (suc n) le = ap (λ kind. if ends_with Plain (word_of kind) then n else suc n) (nth-front kinds others n (omega (arith, le)))

-- a parenthesis ends none
open_goes : (statement : Begun) (kind : ℕ) → (kind == L_PAREN) ≡ true → ends_with statement (word_of kind) ≡ false
open_goes statement kind e = ap (λ k. ends_with statement (word_of k)) (eqb-true kind L_PAREN e)

first_word-front : (statement : Begun) (kind : ℕ) (kinds others : List ℕ) → last_ends statement (kind ∷ kinds) ≡ true
    → first_word (kind ∷ kinds ++ others) ≡ first_word (kind ∷ kinds)
first_word-front statement kind [] others closed = cases (kind == L_PAREN) refl
  where
    cases : (b : Bool) → (kind == L_PAREN) ≡ b → (if b then first_word others else kind) ≡ (if b then EOF else kind)
    cases true e = absurd (false≢true (sym (open_goes statement kind e) ∙ closed))
    cases false e = refl
first_word-front statement kind (next ∷ kinds) others closed = cases (kind == L_PAREN) (first_word-front (after statement (word_of kind)) next kinds others closed)
  where
    cases : (b : Bool) → first_word (next ∷ kinds ++ others) ≡ first_word (next ∷ kinds) → (if b then first_word (next ∷ kinds ++ others) else kind) ≡ (if b then first_word (next ∷ kinds) else kind)
    cases true e = e
    cases false e = refl

kind-front : (kind : ℕ) (kinds others : List ℕ) → last_ends Start (kind ∷ kinds) ≡ true → kind_of (kind ∷ kinds ++ others) ≡ kind_of (kind ∷ kinds)
unfolding kind_of
kind-front kind kinds others closed = ap (λ word. if is_psql kind then PSQL_COMMAND else kind_for word statement_kinds) (first_word-front Start kind kinds others closed)

-- ---- all statements

same_first : (kind : ℕ) (kinds others : List ℕ) → HasNoTrivia (kind ∷ kinds) → last_ends Start (kind ∷ kinds) ≡ true
    → first_statement (kind ∷ kinds ++ others) ≡ first_statement (kind ∷ kinds)
same_first kind kinds others none closed =
    let first = stands_first Start kind kinds others none closed in
    let all = kind ∷ kinds in
    ap (λ k. let s : Statement = record { kind = k; len = len_of (all ++ others); content = content_len (all ++ others) (len_of (all ++ others)) } in s) (kind-front kind kinds others closed)
    ∙ (ap (λ n. let s : Statement = record { kind = kind_of all; len = n; content = content_len (all ++ others) n } in s) first.len
    ∙ ap (λ n. let s : Statement = record { kind = kind_of all; len = len_of all; content = n } in s) (content-front all others (len_of all) first.within))

-- kinds of which the last ends a statement
pub record AreClosed (kinds : List ℕ) : Type 0 where
  pub no_trivia : HasNoTrivia kinds
  pub ends : last_ends Start kinds ≡ true

-- their statements are the first ones, and others are those of the kinds after them
statements-front : (n : ℕ) (kinds others : List ℕ) → length kinds ≤ n → AreClosed kinds → statements_of (kinds ++ others) ≡ statements_of kinds ++ statements_of others
statements-front n [] others le closed = refl
statements-front zero (kind ∷ kinds) others le closed = absurd (omega (arith, le))
statements-front (suc n) (kind ∷ kinds) others le closed =
    let all = kind ∷ kinds in
    let first = stands_first Start kind kinds others closed.no_trivia closed.ends in
    let len = len_of all in
    let rest = drop len all in
    let inner = statements-front n rest others (omega (arith, le, first.some, length-drop len all)) (record { no_trivia = first.no_trivia; ends = first.rest }) in
    statements-first kind (kinds ++ others)
    ∙ (ap (λ s. s ∷ statements_of (drop (len_of (all ++ others)) (all ++ others))) (same_first kind kinds others closed.no_trivia closed.ends)
    ∙ (ap (λ m. first_statement all ∷ statements_of (drop m (all ++ others))) first.len
    ∙ (ap (λ ks. first_statement all ∷ statements_of ks) (drop-append-le len all others first.within)
    ∙ (ap (λ ss. first_statement all ∷ ss) inner
    ∙ sym (ap (λ ss. ss ++ statements_of others) (statements-first kind kinds))))))

pub statements_both : (kinds others : List ℕ) → AreClosed kinds → statements_of (kinds ++ others) ≡ statements_of kinds ++ statements_of others
statements_both kinds others closed = statements-front (length kinds) kinds others (omega arith) closed

-- ---- the first of the statements

-- it has a sign that no rule sees, or no rules
pub record IsClosedStatement (statement : Statement) : Type 0 where
  pub some : 0 < statement.len
  pub sign : (statement.content < statement.len) ⊎ (statement.kind ≡ PSQL_COMMAND)

command_row : ℕ × Word → Bool
command_row row = not (ends_with Start row.1) || ends_with Plain row.1 || (row.0 == PSQL_COMMAND_TEXT)

-- of the words that end a statement only where none is begun, that is the only one
command-in : (rows : List (ℕ × Word)) (kind : ℕ) → list_all command_row rows ≡ true → ends_with Start (word_in rows kind) ≡ true → ends_with Plain (word_in rows kind) ≡ false
    → (kind == PSQL_COMMAND_TEXT) ≡ true
unfolding command_row
command-in [] kind all e f = absurd (false≢true e)
command-in (row ∷ rows) kind all e f =
    let parts = and_parts (command_row row) (list_all command_row rows) all in
    cases (kind == row.0) refl e f (command-in rows kind parts.1)
    parts.0
  where
    other : (a b c : Bool) → a ≡ true → b ≡ false → (not a || b || c) ≡ true → c ≡ true
    other true false c e f g = g
    other false b c e f g = absurd (false≢true e)
    other true true c e f g = absurd (false≢true (sym f))

    cases : (b : Bool) → (kind == row.0) ≡ b → ends_with Start (if b then row.1 else word_in rows kind) ≡ true → ends_with Plain (if b then row.1 else word_in rows kind) ≡ false
        → (ends_with Start (word_in rows kind) ≡ true → ends_with Plain (word_in rows kind) ≡ false → (kind == PSQL_COMMAND_TEXT) ≡ true)
        → (not (ends_with Start row.1) || ends_with Plain row.1 || (row.0 == PSQL_COMMAND_TEXT)) ≡ true → (kind == PSQL_COMMAND_TEXT) ≡ true
    cases true is e f others one = ap (λ k. k == PSQL_COMMAND_TEXT) (eqb-true kind row.0 is) ∙ other (ends_with Start row.1) (ends_with Plain row.1) (row.0 == PSQL_COMMAND_TEXT) e f one
    cases false is e f others one = others e f

words_are : list_all command_row words ≡ true
unfolding command_row
words_are = refl

content-less : (kinds : List ℕ) (n : ℕ) → 0 < n → ends_with Plain (word_of (nth kinds (n - 1))) ≡ true → content_len kinds n < n
content-less kinds zero some e = absurd (omega (arith, some))
content-less kinds (suc n) some e =
    let last : suc n - 1 ≡ n = omega arith in
    let same : content_len kinds (suc n) ≡ n = cond-true (ends_with Plain (word_of (nth kinds n))) n (suc n) (ap (λ m. ends_with Plain (word_of (nth kinds m))) (sym last) ∙ e) in
    omega (arith, same)

command-kind : (kind : ℕ) (kinds : List ℕ) → (kind == PSQL_COMMAND_TEXT) ≡ true → kind_of (kind ∷ kinds) ≡ PSQL_COMMAND
unfolding kind_of
command-kind kind kinds e = ap (λ b. if b || (kind == PSQL_TERMINATOR_TEXT) then PSQL_COMMAND else kind_for (first_word (kind ∷ kinds)) statement_kinds) e

pub is_closed : (kind : ℕ) (kinds : List ℕ) → AreClosed (kind ∷ kinds) → IsClosedStatement (first_statement (kind ∷ kinds))
is_closed kind kinds closed =
    let all = kind ∷ kinds in
    let first = stands_first Start kind kinds [] closed.no_trivia closed.ends in
    let len = len_of all in
    record {
      some = first.some;
      sign = elim first.sign [
        | inl plain ↦ inl (content-less all len first.some plain)
        | inr alone ↦ cases (ends_with Plain (word_of kind)) refl len first.some alone.1 alone.2
      ];
    }
  where
    cases : (b : Bool) → ends_with Plain (word_of kind) ≡ b → (len : ℕ) → 0 < len → len ≡ 1 → ends_with Start (word_of kind) ≡ true
        → (content_len (kind ∷ kinds) len < len) ⊎ (kind_of (kind ∷ kinds) ≡ PSQL_COMMAND)
    cases true e len some one start =
        let last : len - 1 ≡ 0 = omega (arith, one) in
        inl (content-less (kind ∷ kinds) len some (ap (λ n. ends_with Plain (word_of (nth (kind ∷ kinds) n))) last ∙ e))
    cases false e len some one start = inr (command-kind kind kinds (command-in words kind words_are start e))
