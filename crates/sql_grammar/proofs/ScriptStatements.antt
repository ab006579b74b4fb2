-- A script's statements end in its parse where they end as it is cut.
use Rattle.std.proofs.Common.{◌≡◌, ◌∙◌, ℕ, zero, suc, ◌+◌, ◌<◌, ◌≤◌, Bool, true, false, List, [], ◌∷◌, length, drop, arith, ap, refl, sym}
use Rattle.std.specs.Prelude.{map, slice_index, slice_range, if◌then◌else◌}
use Rattle.std.proofs.lemmas.Bool.{cond-false, cond-true, false≢true}
use Rattle.std.proofs.lemmas.List.{drop_all, drop_more}
use Rattle.sql_lexer.specs.ScriptEnds.{is_passed_over, script_ends, words_from}
use Rattle.sql_lexer.specs.Scripts.{script_tokens}
use Rattle.sql_lexer.proofs.EndsLemmas.{ends_among, script_ends-words}
use Rattle.squawk_keywords.specs.KeywordAnswers.{contextual_keyword_of, keyword_of}
use Rattle.squawk_keywords.specs.KeywordPairs.{kind_of_word_ignoring_case}
use Rattle.squawk_keywords.specs.declared.keywords.Keywords as vocabularies
use Rattle.squawk_kinds.specs.Keywords.{Keywords}
use Rattle.squawk_kinds.specs.Kinds.{is_trivia}
use Rattle.squawk_table.specs.ParserInput.{entries_of, entry_for, input_of, kinds_in}
use Rattle.squawk_table.specs.RawTable.{RawToken, Table, kinds_from, raw_from, raw_tokens}
use Rattle.squawk_table.specs.TokenKinds.{kind_of}
use Rattle.squawk_tokens.specs.declared.token.Token.{Token}
use Rattle.sql_lexer.specs.declared.statements.Statement.{Statement}
use Rattle.sql_lexer.specs.declared.statements.Statement.TheVariants.{Start}
use Rattle.sql_lexer.specs.declared.statements.Word.{Word}
use Rattle.sql_lexer.specs.declared.statements.Word.TheVariants.{Command, CopyCommand, Trivia}
use Rattle.sql_lexer.specs.ScriptWords.{plain_word}
use Rattle.sql_lexer.specs.Statements.{after, ends_with, goes_on, is_start}
use Rattle.sql_words.specs.SqlKinds.{keyword_kinds}
use Rattle.sql_grammar.specs.Scripts.{EndAsCut, IsScript, lens_of}
use Rattle.sql_grammar.specs.Statements.{len_from, statements_of}
use Rattle.sql_grammar.specs.Words.{word_of}
use Rattle.sql_grammar.proofs.AddedStatements.{statements-first}
use Rattle.sql_grammar.proofs.ScriptWords.{kind_word, passed_over}

-- ---- statements by their ends

-- which of these kinds end a statement
abbrev pub ends_of : Statement → List ℕ → List Bool
ends_of statement [] = []
ends_of statement (kind ∷ kinds) = ends_with statement (word_of kind) ∷ ends_of (after statement (word_of kind)) kinds

abbrev lens : List ℕ → List ℕ
lens kinds = map (λ statement. statement.len) (statements_of kinds)

pub starts : (statement : Statement) → is_start statement ≡ true → statement ≡ Start
starts Start e = refl
starts statement e = absurd (false≢true e)

pub after-end : (statement : Statement) (word : Word) → ends_with statement word ≡ true → after statement word ≡ Start
after-end statement Trivia e = absurd (false≢true e)
after-end statement Command e = starts statement e
after-end statement CopyCommand e = starts statement e
after-end statement word e = cond-true (ends_with statement word) Start (goes_on statement word) e

pub drop-next : (kind : ℕ) (kinds : List ℕ) (n : ℕ) → drop (1 + n) (kind ∷ kinds) ≡ drop n kinds
drop-next kind kinds n = let next : 1 + n ≡ suc n = omega arith in ap (λ m. drop m (kind ∷ kinds)) next

-- those of all statements, if that is known of one and those after it
lens-all : (kinds : List ℕ) → (0 < 0 + length kinds → lens_of (ends_of Start kinds) 0 ≡ (0 + len_from Start kinds) ∷ lens (drop (len_from Start kinds) kinds))
    → lens_of (ends_of Start kinds) 0 ≡ lens kinds
lens-all [] known = refl
lens-all (kind ∷ kinds) known =
    let none : 0 + len_from Start (kind ∷ kinds) ≡ len_from Start (kind ∷ kinds) = omega arith in
    known (omega arith)
    ∙ (ap (λ n. n ∷ lens (drop (len_from Start (kind ∷ kinds)) (kind ∷ kinds))) none
    ∙ sym (ap (map (λ statement. statement.len)) (statements-first kind kinds)))

-- of a statement n tokens came before
lens-some : (n : ℕ) (statement : Statement) (kinds : List ℕ) → 0 < n + length kinds
    → lens_of (ends_of statement kinds) n ≡ (n + len_from statement kinds) ∷ lens (drop (len_from statement kinds) kinds)
lens-some zero statement [] some = absurd (omega arith)
lens-some (suc n) statement [] some = let same : suc n ≡ suc n + 0 = omega arith in ap (λ m. m ∷ []) same
lens-some n statement (kind ∷ kinds) some =
    cases (ends_with statement (word_of kind)) refl (lens-some 0 Start kinds) (lens-some (n + 1) (after statement (word_of kind)) kinds (omega arith))
  where
    cases : (b : Bool) → ends_with statement (word_of kind) ≡ b
        → (0 < 0 + length kinds → lens_of (ends_of Start kinds) 0 ≡ (0 + len_from Start kinds) ∷ lens (drop (len_from Start kinds) kinds))
        → lens_of (ends_of (after statement (word_of kind)) kinds) (n + 1)
        ≡ (n + 1 + len_from (after statement (word_of kind)) kinds) ∷ lens (drop (len_from (after statement (word_of kind)) kinds) kinds)
        → lens_of (b ∷ ends_of (after statement (word_of kind)) kinds) n
        ≡ (n + (if b then 1 else 1 + len_from (after statement (word_of kind)) kinds)) ∷ lens (drop (if b then 1 else 1 + len_from (after statement (word_of kind)) kinds) (kind ∷ kinds))
    cases true e all goes =
        ap (λ s. (n + 1) ∷ lens_of (ends_of s kinds) 0) (after-end statement (word_of kind) e)
        ∙ ap (λ rest. (n + 1) ∷ rest) (lens-all kinds all)
    cases false e all goes =
        let len = len_from (after statement (word_of kind)) kinds in
        let sum : n + 1 + len ≡ n + (1 + len) = omega arith in
        goes
        ∙ (ap (λ m. m ∷ lens (drop len kinds)) sum ∙ ap (λ rest. (n + (1 + len)) ∷ lens rest) (sym (drop-next kind kinds len)))

-- ---- the tokens of an input

abbrev pub input_kinds : List ℕ → List ℕ
input_kinds [] = []
input_kinds (kind ∷ kinds) = if is_trivia kind then input_kinds kinds else kind ∷ input_kinds kinds

kinds-entries : (contextual : Keywords) (raw : List RawToken) → kinds_in (entries_of contextual raw) ≡ input_kinds (map (λ r. r.kind) raw)
kinds-entries contextual [] = refl
kinds-entries contextual (r ∷ raw) = cases (is_trivia r.kind) (kinds-entries contextual raw)
  where
    cases : (b : Bool) → kinds_in (entries_of contextual raw) ≡ input_kinds (map (λ r. r.kind) raw) → kinds_in (if b then entries_of contextual raw else entry_for contextual r raw ∷ entries_of contextual raw)
        ≡ (if b then input_kinds (map (λ r. r.kind) raw) else r.kind ∷ input_kinds (map (λ r. r.kind) raw))
    cases true others = others
    cases false others = ap (λ kinds. r.kind ∷ kinds) others

kinds-raw : (t : Table) (i n : ℕ) → i + n ≡ length t.kinds → map (λ r. r.kind) (raw_from t i n) ≡ drop i t.kinds
kinds-raw t i zero all = let le : length t.kinds ≤ i = omega arith in sym (drop_all i t.kinds le)
kinds-raw t i (suc n) all =
    let lt : i < length t.kinds = omega arith in
    ap (λ kinds. slice_index t.kinds i ∷ kinds) (kinds-raw t (i + 1) n (omega arith)) ∙ sym (drop_more t.kinds i 0 lt)

pub kinds-input : (contextual : Keywords) (t : Table) → kinds_in (input_of contextual t) ≡ input_kinds t.kinds
kinds-input contextual t =
    kinds-entries contextual (raw_tokens t) ∙ ap input_kinds (kinds-raw t 0 (length t.kinds) (omega arith))

-- ---- a script

one_token : (statement : Statement) (kind : ℕ) (kinds : List ℕ) (word : Word) (words : List Word) → word_of kind ≡ word
    → ((s : Statement) → ends_among s words ≡ ends_of s kinds) → ends_among statement (word ∷ words) ≡ ends_of statement (if is_trivia kind then kinds else kind ∷ kinds)
one_token statement kind kinds word words is others = cases (is_passed_over word) (sym (passed_over kind) ∙ ap is_passed_over is) refl
  where
    cases : (b : Bool) → is_trivia kind ≡ is_passed_over word → is_passed_over word ≡ b
        → ends_among statement (word ∷ words) ≡ ends_of statement (if is_trivia kind then kinds else kind ∷ kinds)
    cases true same e =
        cond-true (is_passed_over word) (ends_among statement words) (ends_with statement word ∷ ends_among (after statement word) words) e
        ∙ (others statement ∙ sym (ap (ends_of statement) (cond-true (is_trivia kind) kinds (kind ∷ kinds) (same ∙ e))))
    cases false same e =
        cond-false (is_passed_over word) (ends_among statement words) (ends_with statement word ∷ ends_among (after statement word) words) e
        ∙ (ap (λ rest. ends_with statement word ∷ rest) (others (after statement word))
        ∙ (ap (λ w. ends_with statement w ∷ ends_of (after statement w) kinds) (sym is)
        ∙ sym (ap (ends_of statement) (cond-false (is_trivia kind) kinds (kind ∷ kinds) (same ∙ e)))))

module _ (keyword : Keywords) (knows : (text : List ℕ) → keyword text ≡ kind_of_word_ignoring_case keyword_kinds text) (text : List ℕ) where
  -- the kinds of tokens end the statements that their words do
  same_ends : (statement : Statement) (at : ℕ) (tokens : List Token)
      → ends_among statement (words_from text at tokens) ≡ ends_of statement (input_kinds (kinds_from keyword text at tokens))
  same_ends statement at [] = refl
  same_ends statement at (t ∷ ts) =
      let part = slice_range text at (at + t.len) in
      one_token statement (kind_of keyword t.kind part) (input_kinds (kinds_from keyword text (at + t.len) ts)) (plain_word t.kind part) (words_from text (at + t.len) ts)
      (kind_word keyword knows t.kind part) (λ s. same_ends s (at + t.len) ts)

-- the theorem
pub end_as_cut : (vocabulary : vocabularies.Keywords) (t : Table) → IsScript vocabulary t → EndAsCut vocabulary t
end_as_cut vocabulary t is =
    let kinds = kinds_in (input_of (contextual_keyword_of vocabulary) t) in
    let of_tokens : kinds ≡ input_kinds (kinds_from (keyword_of vocabulary) t.text 0 (script_tokens t.text)) =
    kinds-input (contextual_keyword_of vocabulary) t ∙ ap (λ (table : Table). input_kinds table.kinds) is.is in
    let ends : ends_of Start kinds ≡ script_ends t.text =
    ap (ends_of Start) of_tokens
    ∙ (sym (same_ends (keyword_of vocabulary) is.knows.keyword t.text Start 0 (script_tokens t.text)) ∙ sym (script_ends-words t.text is.utf8)) in
    sym (lens-all kinds (lens-some 0 Start kinds)) ∙ ap (λ ends. lens_of ends 0) ends
