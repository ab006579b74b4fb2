-- The kinds of statements.
use Rattle.std.proofs.Common.{◌≡◌, ◌≢◌, ◌∙◌, ℕ, ◌+◌, ◌<◌, ◌==◌, Bool, true, false, not, List, [], ◌∷◌, drop, get_or, if◌then◌else◌, length, add-one, ap, sym, refl, arith}
use Rattle.std.proofs.Math.Seq.{drop-cons}
use Rattle.std.proofs.lemmas.List.{drop-drop}
use Rattle.std.proofs.lemmas.Bool.{ne_eqb}
use Rattle.std.specs.List.{list_all}
use Rattle.squawk_kinds.specs.Kinds.{L_PAREN, TOMBSTONE}
use Rattle.squawk_table.specs.ParserInput.{kinds_in}
use Rattle.squawk_parser.specs.State.{State, ahead, kind_at}
use Rattle.squawk_parser.proofs.SeenSteps.{and-left, and-right, if-false, if-true}
use Rattle.sql_words.specs.SqlKinds as words
use Rattle.sql_words.specs.SqlKinds.{node_names}
use Rattle.sql_grammar.specs.Kinds.{PSQL_COMMAND}
use Rattle.sql_grammar.specs.StatementKinds.{statement_kinds}
use Rattle.sql_grammar.specs.Statements.{first, first_word, is_psql, kind_for, kind_of, nth}
use Rattle.sql_grammar.proofs.Looks.{kind_nth}

-- ---- the first word

pub first_word-here : (kinds : List ℕ) → first kinds ≢ L_PAREN → first_word kinds ≡ first kinds
first_word-here [] other = refl
first_word-here (kind ∷ kinds) other = if-false _ _ _ (ne_eqb kind L_PAREN other)

pub first_word-next : (kinds : List ℕ) → first kinds ≡ L_PAREN → first_word kinds ≡ first_word (drop 1 kinds)
first_word-next [] is = absurd (cc)
first_word-next (kind ∷ kinds) is = if-true _ _ _ (ap (λ k. k == L_PAREN) is)

module _ (s : State) (n : ℕ) where
  pub parens_next : kind_at s n ≡ L_PAREN → first_word (drop n (kinds_in (ahead s 0))) ≡ first_word (drop (n + 1) (kinds_in (ahead s 0)))
  parens_next is =
      first_word-next (drop n (kinds_in (ahead s 0))) (sym (kind_nth s n) ∙ is) ∙ ap first_word (drop-drop 1 n (kinds_in (ahead s 0)))

  pub parens_end : kind_at s n ≢ L_PAREN → first_word (drop n (kinds_in (ahead s 0))) ≡ kind_at s n
  parens_end other = first_word-here (drop n (kinds_in (ahead s 0))) (λ is. other (kind_nth s n ∙ is)) ∙ sym (kind_nth s n)

-- ---- the table

module _ (word : ℕ) (rows : List (ℕ × ℕ)) (i : ℕ) (lt : i < length rows) where
  pub row_next : (get_or rows i (0, 0)).0 ≢ word → kind_for word (drop i rows) ≡ kind_for word (drop (i + 1) rows)
  row_next other =
      ap (kind_for word) (drop-cons rows i (0, 0) lt)
      ∙ (if-false _ _ _ (ne_eqb _ word other) ∙ ap (λ n. kind_for word (drop n rows)) (sym (add-one i)))

  pub row_found : (get_or rows i (0, 0)).0 ≡ word → kind_for word (drop i rows) ≡ (get_or rows i (0, 0)).1
  row_found is =
      let same : ((get_or rows i (0, 0)).0 == word) ≡ true = grind (arith, is) in
      ap (kind_for word) (drop-cons rows i (0, 0) lt) ∙ if-true _ _ _ same

-- ---- nodes

is_node : ℕ → Bool
is_node kind = not (kind == TOMBSTONE)

kind_for-node : (word : ℕ) (rows : List (ℕ × ℕ)) → list_all (λ row. is_node row.1) rows ≡ true → kind_for word rows ≢ TOMBSTONE
unfolding is_node
kind_for-node word [] all = λ e. absurd (cc)
kind_for-node word (row ∷ rows) all = cases (row.0 == word) (kind_for-node word rows (and-right (is_node row.1) _ all))
  where
    cases : (b : Bool) → kind_for word rows ≢ TOMBSTONE → (if b then row.1 else kind_for word rows) ≢ TOMBSTONE
    cases true others e = absurd (let here = sym (and-left (is_node row.1) _ all) ∙ ap (λ kind. not (kind == TOMBSTONE)) e in cc)
    cases false others e = others e

-- each statement is a node
pub statements_are_nodes : (word : ℕ) → kind_for word statement_kinds ≢ TOMBSTONE
unfolding is_node statement_kinds words.table node_names
statements_are_nodes word = kind_for-node word statement_kinds refl

-- ---- the kind

module _ (kinds : List ℕ) where
  pub kind_of-psql : is_psql (nth kinds 0) ≡ true → kind_of kinds ≡ PSQL_COMMAND
  unfolding kind_of
  kind_of-psql is = if-true _ _ _ is

  pub kind_of-word : is_psql (nth kinds 0) ≡ false → kind_of kinds ≡ kind_for (first_word kinds) statement_kinds
  unfolding kind_of
  kind_of-word other = if-false _ _ _ other
