-- A token is the same to a statement by its text and by its kind.
use Rattle.std.proofs.Common.{◌≡◌, ◌∙◌, ℕ, ◌==◌, ◌||◌, true, false, Bool, Option, Some, None, List, [], ◌∷◌, ap, drop, refl, sym}
use Rattle.std.specs.Prelude.{cond, map, not, unwrap_or, if◌then◌else◌}
use Rattle.std.specs.Char.{to_ascii_lowercase}
use Rattle.std.specs.List.{list_all, list_any}
use Rattle.std.specs.Map.{lookup}
use Rattle.std.specs.Str.{bytes_eq, str_eq_ignore_ascii_case}
use Rattle.std.proofs.lemmas.Bool.{and_parts, cond_both, false≢true}
use lib.Pointwise.{bytes_decides}
use Rattle.squawk_kinds.specs.Keywords.{Keywords}
use Rattle.squawk_kinds.specs.Kinds.{COMMENT, IDENT, WHITESPACE, is_trivia}
use Rattle.squawk_keywords.specs.KeywordPairs.{kind_of_word_ignoring_case}
use Rattle.squawk_table.specs.TokenKinds.{kind_of, literal_kind_of}
use Rattle.squawk_tokens.specs.declared.token.LiteralKind.{LiteralKind}
use Rattle.squawk_tokens.specs.declared.token.LiteralKind.TheVariants.{Int}
use Rattle.squawk_tokens.specs.declared.token.TokenKind.{TokenKind}
use Rattle.squawk_tokens.specs.declared.token.TokenKind.TheVariants.{Ident, Literal, PsqlCommand}
use Rattle.sql_lexer.specs.declared.statements.Word.{Word}
use Rattle.sql_lexer.specs.declared.statements.Word.TheVariants.{Trivia, As, Copy, From, Stdin, Create, Or, Replace, Function, Procedure, Rule, Begin, Atomic, Case, End, Other}
use Rattle.sql_lexer.specs.ScriptEnds.{is_passed_over}
use Rattle.sql_lexer.specs.ScriptWords as by_text
use Rattle.sql_words.specs.SqlKinds.{keyword_kinds, table}
use Rattle.sql_grammar.specs.Words.{word_in, word_of, words}

-- ---- the words of keywords

abbrev is_same : Word → Word → Bool
is_same As As = true
is_same Copy Copy = true
is_same From From = true
is_same Stdin Stdin = true
is_same Create Create = true
is_same Or Or = true
is_same Replace Replace = true
is_same Function Function = true
is_same Procedure Procedure = true
is_same Rule Rule = true
is_same Begin Begin = true
is_same Atomic Atomic = true
is_same Case Case = true
is_same End End = true
is_same Other Other = true
is_same one word = false

same : (one word : Word) → is_same one word ≡ true → one ≡ word
same As As e = refl
same Copy Copy e = refl
same From From e = refl
same Stdin Stdin e = refl
same Create Create e = refl
same Or Or e = refl
same Replace Replace e = refl
same Function Function e = refl
same Procedure Procedure e = refl
same Rule Rule e = refl
same Begin Begin e = refl
same Atomic Atomic e = refl
same Case Case e = refl
same End End e = refl
same Other Other e = refl
same one word e = absurd (false≢true e)

-- a keyword is the same by its text and by its kind
abbrev agrees : List ℕ × ℕ → Bool
agrees row = is_same (word_of row.1) (by_text.word_in by_text.names row.0)

all-agree : list_all agrees keyword_kinds ≡ true
unfolding table
all-agree = refl

-- a name that is looked at is a keyword
abbrev is_known : List (List ℕ × ℕ) → List ℕ × Word → Bool
is_known rows name = list_any (λ row. bytes_eq (map to_ascii_lowercase row.0) (map to_ascii_lowercase name.0)) rows

all-known : list_all (is_known keyword_kinds) by_text.names ≡ true
unfolding table
all-known = refl

-- ---- texts

-- texts that are one in small letters are the same to a statement
in_small : (names : List (List ℕ × Word)) (one other : List ℕ) → map to_ascii_lowercase one ≡ map to_ascii_lowercase other
    → by_text.word_in names one ≡ by_text.word_in names other
in_small [] one other e = refl
in_small (name ∷ names) one other e =
    ap (λ small. if bytes_eq small (map to_ascii_lowercase name.0) then name.1 else by_text.word_in names one) e
    ∙ ap (λ word. if str_eq_ignore_ascii_case other name.0 then name.1 else word) (in_small names one other e)

module _ (text : List ℕ) where
  abbrev matches : List ℕ → Bool
  matches word = bytes_eq (map to_ascii_lowercase word) (map to_ascii_lowercase text)

  found : (rows : List (List ℕ × ℕ)) (kind : ℕ) → list_all agrees rows ≡ true → lookup matches rows ≡ Some kind → word_of kind ≡ by_text.word_in by_text.names text
  found [] kind all e = absurd (let f = e in cc)
  found (row ∷ rows) kind all e = cases (matches row.0) (found rows kind (and_parts (agrees row) (list_all agrees rows) all).1) refl e
    where
      cases : (b : Bool) → (lookup matches rows ≡ Some kind → word_of kind ≡ by_text.word_in by_text.names text) → matches row.0 ≡ b → cond b (Some row.1) (lookup matches rows) ≡ Some kind → word_of kind ≡ by_text.word_in by_text.names text
      cases true others is f =
          let kind_is : row.1 ≡ kind = let g = f in cc in
          let small : map to_ascii_lowercase row.0 ≡ map to_ascii_lowercase text = (bytes_decides (map to_ascii_lowercase row.0) (map to_ascii_lowercase text)).0 is in
          ap word_of (sym kind_is)
          ∙ (same (word_of row.1) (by_text.word_in by_text.names row.0) (and_parts (agrees row) (list_all agrees rows) all).0 ∙ in_small by_text.names row.0 text small)
      cases false others is f = others f

  unmatched : (rows : List (List ℕ × ℕ)) → lookup matches rows ≡ None → list_any (λ row. matches row.0) rows ≡ false
  unmatched [] e = refl
  unmatched (row ∷ rows) e = cases (matches row.0) (unmatched rows) e
    where
      cases : (b : Bool) → (lookup matches rows ≡ None → list_any (λ row. matches row.0) rows ≡ false) → cond b (Some row.1) (lookup matches rows) ≡ None → (b || list_any (λ row. matches row.0) rows) ≡ false
      cases true others f = absurd (let g = f in cc)
      cases false others f = others f

  none : (rows : List (List ℕ × ℕ)) (names : List (List ℕ × Word)) → list_all (is_known rows) names ≡ true → lookup matches rows ≡ None
      → by_text.word_in names text ≡ Other
  none rows [] known e = refl
  none rows (name ∷ names) known e =
      let parts = and_parts (is_known rows name) (list_all (is_known rows) names) known in
      cond_both (str_eq_ignore_ascii_case text name.0) name.1 (by_text.word_in names text) (λ word. word ≡ Other)
      (λ f.
      let small : map to_ascii_lowercase text ≡ map to_ascii_lowercase name.0 = (bytes_decides (map to_ascii_lowercase text) (map to_ascii_lowercase name.0)).0 f in
      let there : list_any (λ row. bytes_eq (map to_ascii_lowercase row.0) (map to_ascii_lowercase text)) rows ≡ true =
      ap (λ letters. list_any (λ row. bytes_eq (map to_ascii_lowercase row.0) letters) rows) small ∙ parts.0 in
      absurd (false≢true (sym (unmatched rows e) ∙ there)))
      (λ f. none rows names parts.1 e)

-- ---- tokens

literal : (kind : LiteralKind) → word_of (literal_kind_of kind) ≡ Other
literal (Int empty base junk) = refl
literal kind = refl

module _ (keyword : Keywords) (knows : (text : List ℕ) → keyword text ≡ kind_of_word_ignoring_case keyword_kinds text) where
  pub kind_word : (kind : TokenKind) (text : List ℕ) → word_of (kind_of keyword kind text) ≡ by_text.plain_word kind text
  kind_word Ident text = name (keyword text) refl
    where
      name : (o : Option ℕ) → keyword text ≡ o → word_of (unwrap_or o IDENT) ≡ by_text.word_in by_text.names text
      name None e = sym (none text keyword_kinds by_text.names all-known (sym (knows text) ∙ e))
      name (Some kind) e = found text keyword_kinds kind all-agree (sym (knows text) ∙ e)
  kind_word (PsqlCommand true) text = refl
  kind_word (PsqlCommand false) text = refl
  kind_word (Literal kind) text = literal kind
  kind_word kind text = refl

-- ---- trivia

none_passed : (rows : List (ℕ × Word)) (kind : ℕ) → list_all (λ row. not (is_passed_over row.1)) rows ≡ true → is_passed_over (word_in rows kind) ≡ false
none_passed [] kind all = refl
none_passed (row ∷ rows) kind all =
    let parts = and_parts (not (is_passed_over row.1)) (list_all (λ row. not (is_passed_over row.1)) rows) all in
    cond_both (kind == row.0) row.1 (word_in rows kind) (λ word. is_passed_over word ≡ false)
    (λ e. opposite (is_passed_over row.1) parts.0)
    (λ e. none_passed rows kind parts.1)
  where
    opposite : (b : Bool) → not b ≡ true → b ≡ false
    opposite true e = absurd (false≢true e)
    opposite false e = refl

pub passed_over : (kind : ℕ) → is_passed_over (word_of kind) ≡ is_trivia kind
passed_over kind = white (kind == WHITESPACE)
  where
    comment : (c : Bool) → is_passed_over (if c then Trivia else word_in (drop 2 words) kind) ≡ c
    comment true = refl
    comment false = none_passed (drop 2 words) kind refl

    white : (b : Bool) → is_passed_over (if b then Trivia else if kind == COMMENT then Trivia else word_in (drop 2 words) kind) ≡ (b || (kind == COMMENT))
    white true = refl
    white false = comment (kind == COMMENT)
