-- How long a statement is, token by token.
use Rattle.std.proofs.Common.{◌≡◌, ◌≢◌, ◌∙◌, ℕ, zero, suc, ◌+◌, ◌-◌, ◌==◌, ◌||◌, ◌<◌, true, false, Bool, List, [], ◌∷◌, drop, ap, sym, refl, arith, subst}
use Rattle.std.specs.Prelude.{not}
use Rattle.std.specs.List.{list_all}
use Rattle.std.proofs.lemmas.Bool.{and_parts, cond_both, eqb-true, false≢true}
use Rattle.squawk_kinds.specs.Kinds.{EOF, PSQL_TERMINATOR_TEXT, SEMICOLON}
use Rattle.squawk_table.specs.ParserInput.{kinds_in}
use Rattle.squawk_parser.specs.State.{State, IsSound, ahead, kind_at}
use Rattle.squawk_parser.proofs.SeenSteps.{if-false, if-true}
use Rattle.sql_lexer.specs.Statements.{after, ends_with}
use Rattle.sql_lexer.specs.declared.statements.Statement.{Statement}
use Rattle.sql_lexer.specs.declared.statements.Statement.TheVariants.{Plain}
use Rattle.sql_lexer.specs.declared.statements.Word.{Word}
use Rattle.sql_lexer.specs.declared.statements.Word.TheVariants.{QueryEnd, Semicolon}
use Rattle.sql_grammar.specs.Statements.{content_len, len_from, nth}
use Rattle.sql_grammar.specs.Words.{word_in, word_of, words}
use Rattle.sql_grammar.proofs.Looks.{kinds_end, kinds_split}

module _ (s : State) (statement : Statement) (n : ℕ) {total : ℕ} (so_far : n + len_from statement (drop n (kinds_in (ahead s 0))) ≡ total) where
  pub len_next : {word : Word} {next : Statement} → kind_at s n ≢ EOF → word ≡ word_of (kind_at s n) → ends_with statement word ≡ false
      → next ≡ after statement word → n + 1 + len_from next (drop (n + 1) (kinds_in (ahead s 0))) ≡ total
  len_next {word} {next} some is going is_next =
      let others = drop (n + 1) (kinds_in (ahead s 0)) in
      let going_there : ends_with statement (word_of (kind_at s n)) ≡ false = ap (ends_with statement) (sym is) ∙ going in
      let same : next ≡ after statement (word_of (kind_at s n)) = is_next ∙ ap (after statement) is in
      let step : len_from statement (drop n (kinds_in (ahead s 0))) ≡ 1 + len_from next others =
      ap (len_from statement) (kinds_split s n some) ∙ (if-false _ _ _ going_there ∙ ap (λ m. 1 + len_from m others) (sym same)) in
      omega (arith, step, so_far)

  pub len_end : {word : Word} → kind_at s n ≢ EOF → word ≡ word_of (kind_at s n) → ends_with statement word ≡ true → n + 1 ≡ total
  len_end some is end =
      let step : len_from statement (drop n (kinds_in (ahead s 0))) ≡ 1 = ap (len_from statement) (kinds_split s n some) ∙ if-true _ _ _ (ap (ends_with statement) (sym is) ∙ end) in
      omega (arith, step, so_far)

  pub len_all : IsSound s → kind_at s n ≡ EOF → n ≡ total
  len_all sound end =
      let step : len_from statement (drop n (kinds_in (ahead s 0))) ≡ 0 = ap (len_from statement) (kinds_end s n sound end) in
      omega (arith, step, so_far)

  -- where it is plain from there on
  pub len_plain : {word : Word} {next : Statement} {len : ℕ} → kind_at s n ≢ EOF → word ≡ word_of (kind_at s n) → ends_with statement word ≡ false
      → next ≡ after statement word → next ≡ Plain → len ≡ n + 1 + len_from Plain (drop (n + 1) (kinds_in (ahead s 0))) → len ≡ total
  len_plain some is going is_next plain len_is =
      len_is ∙ (sym (ap (λ m. n + 1 + len_from m (drop (n + 1) (kinds_in (ahead s 0)))) plain) ∙ len_next some is going is_next)

-- ---- a plain statement

plain_row : ℕ × Word → Bool
plain_row row = (row.0 == SEMICOLON) || (row.0 == PSQL_TERMINATOR_TEXT) || not (ends_with Plain row.1)

-- another kind doesn't end it
others-go : (rows : List (ℕ × Word)) (kind : ℕ) → list_all plain_row rows ≡ true → (kind == SEMICOLON) ≡ false → (kind == PSQL_TERMINATOR_TEXT) ≡ false
    → ends_with Plain (word_in rows kind) ≡ false
unfolding plain_row
others-go [] kind plain first second = refl
others-go (row ∷ rows) kind plain first second =
    let parts = and_parts (plain_row row) (list_all plain_row rows) plain in
    cond_both (kind == row.0) row.1 (word_in rows kind) (λ word. ends_with Plain word ≡ false)
    (λ e.
    let same : kind ≡ row.0 = eqb-true kind row.0 e in
    other (row.0 == SEMICOLON) (row.0 == PSQL_TERMINATOR_TEXT) (ends_with Plain row.1) (subst (λ k. (k == SEMICOLON) ≡ false) same first) (subst (λ k. (k == PSQL_TERMINATOR_TEXT) ≡ false) same second) parts.0)
    (λ e. others-go rows kind parts.1 first second)
  where
    other : (a b ends : Bool) → a ≡ false → b ≡ false → (a || b || not ends) ≡ true → ends ≡ false
    other false false false e f g = refl
    other false false true e f g = absurd (false≢true g)
    other true b ends e f g = absurd (false≢true (sym e))
    other false true ends e f g = absurd (false≢true (sym f))

pub plain_ends : (kind : ℕ) → ((kind == SEMICOLON) || (kind == PSQL_TERMINATOR_TEXT)) ≡ ends_with Plain (word_of kind)
unfolding plain_row
plain_ends kind = semicolon (kind == SEMICOLON) refl
  where
    semicolon : (b : Bool) → (kind == SEMICOLON) ≡ b → (b || (kind == PSQL_TERMINATOR_TEXT)) ≡ ends_with Plain (word_of kind)
    semicolon true e = ap (λ k. ends_with Plain (word_of k)) (sym (eqb-true kind SEMICOLON e))
    semicolon false e = terminator (kind == PSQL_TERMINATOR_TEXT) refl
      where
        terminator : (c : Bool) → (kind == PSQL_TERMINATOR_TEXT) ≡ c → c ≡ ends_with Plain (word_of kind)
        terminator true f = ap (λ k. ends_with Plain (word_of k)) (sym (eqb-true kind PSQL_TERMINATOR_TEXT f))
        terminator false f = sym (others-go words kind refl e f)

-- a word that doesn't end it changes nothing
pub plain_stays : (word : Word) → ends_with Plain word ≡ false → Plain ≡ after Plain word
plain_stays QueryEnd e = absurd (false≢true (sym e))
plain_stays Semicolon e = absurd (false≢true (sym e))
plain_stays word e = refl

-- ---- the tokens before the sign

module _ (kinds : List ℕ) where
  pub content_then : (len : ℕ) → 0 < len → ends_with Plain (word_of (nth kinds (len - 1))) ≡ true → len - 1 ≡ content_len kinds len
  content_then zero some e = absurd (omega (arith, some))
  content_then (suc n) some e =
      let same : suc n - 1 ≡ n = omega arith in
      same ∙ sym (if-true _ _ _ (ap (λ k. ends_with Plain (word_of (nth kinds k))) (sym same) ∙ e))

  pub content_else : (len : ℕ) → ends_with Plain (word_of (nth kinds (len - 1))) ≡ false → len ≡ content_len kinds len
  content_else zero e = refl
  content_else (suc n) e =
      let same : suc n - 1 ≡ n = omega arith in
      sym (if-false _ _ _ (ap (λ k. ends_with Plain (word_of (nth kinds k))) (sym same) ∙ e))

  pub content_none : (len : ℕ) → len ≡ 0 → len ≡ content_len kinds len
  content_none zero none = refl
  content_none (suc n) none = absurd (omega (arith, none))
