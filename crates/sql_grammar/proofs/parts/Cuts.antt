-- Statements that are cut one after another end a part.
use Rattle.std.proofs.Common.{◌≡◌, ◌∙◌, ℕ, zero, suc, ◌+◌, ◌<◌, ◌≤◌, Bool, true, false, List, [], ◌∷◌, ◌++◌, length, if◌then◌else◌, append_assoc, arith, ap, sym, subst, refl}
use Rattle.std.specs.Prelude.{slice_range}
use Rattle.std.specs.List.{list_all}
use Rattle.std.specs.Str.{str_eq_ignore_ascii_case}
use Rattle.std.proofs.lemmas.Bool.{and_parts, cond_both, false≢true}
use Rattle.std.proofs.lemmas.List.Sums.{sum_by-append, sum_by-cons}
use Rattle.squawk_kinds.specs.Kinds.{is_trivia}
use Rattle.squawk_kinds.specs.Keywords.{Keywords}
use Rattle.squawk_keywords.specs.KeywordPairs.{kind_of_word_ignoring_case}
use Rattle.squawk_tokens.specs.declared.token.Token.{Token}
use Rattle.squawk_tokens.specs.declared.token.TokenKind.{TokenKind}
use Rattle.squawk_tokens.specs.declared.token.TokenKind.TheVariants.{Ident, PsqlCommand, Semi}
use Rattle.squawk_table.specs.ParserInput.{input_of, kinds_in}
use Rattle.squawk_table.specs.RawTable.{kinds_from}
use Rattle.squawk_table.specs.TokenKinds.{kind_of}
use Rattle.sql_lexer.specs.ScriptEnds.{is_passed_over, statement_at, words_from}
use Rattle.sql_lexer.specs.ScriptLexing.{Cuts, EndsLast, Lexing, after_statement, after_statements, next_statement, tokens_left}
use Rattle.sql_lexer.specs.ScriptWords as by_text
use Rattle.sql_lexer.specs.Statements.{after, ends_with}
use Rattle.sql_lexer.specs.declared.statements.Statement.{Statement}
use Rattle.sql_lexer.specs.declared.statements.Statement.TheVariants.{Start}
use Rattle.sql_lexer.specs.declared.statements.Word.{Word}
use Rattle.sql_lexer.specs.declared.statements.Word.TheVariants.{Command, CopyCommand, QueryEnd, Semicolon, Trivia}
use Rattle.sql_words.specs.SqlKinds.{keyword_kinds}
use Rattle.sql_grammar.specs.CutParts.{CutsStatements, LastEnds}
use Rattle.sql_grammar.specs.Parts.{EndsWithStatement, Part, is_sign, last_ends, table_by}
use Rattle.sql_grammar.specs.Words.{word_of}
use Rattle.sql_grammar.proofs.parts.Law.{joined}
use Rattle.sql_grammar.proofs.ScriptStatements.{after-end, input_kinds, kinds-input, starts}
use Rattle.sql_grammar.proofs.ScriptWords.{kind_word, passed_over}
use Rattle.sql_grammar.proofs.parts.Tables.{bytes, kinds-front, kinds-later, kinds_both}

-- ---- words

words-append : (text : List ℕ) (at : ℕ) (xs ys : List Token) → words_from text at (xs ++ ys) ≡ words_from text at xs ++ words_from text (at + bytes xs) ys
words-append text at [] ys = ap (λ n. words_from text n ys) (omega arith)
words-append text at (x ∷ xs) ys =
    let end : at + x.len + bytes xs ≡ at + bytes (x ∷ xs) = omega (arith, sum_by-cons (λ (t : Token). t.len) x xs) in
    ap (λ words. by_text.plain_word x.kind (slice_range text at (at + x.len)) ∷ words)
    (words-append text (at + x.len) xs ys ∙ ap (λ n. words_from text (at + x.len) xs ++ words_from text n ys) end)

one_statement : (statement : Statement) (words : List Word) → EndsLast statement words → LastEnds statement words
one_statement statement [] e = e
one_statement statement (word ∷ []) e = e
one_statement statement (word ∷ next ∷ words) e = one_statement (after statement word) (next ∷ words) e.1

ends-append : (statement : Statement) (xs ys : List Word) → LastEnds statement xs → LastEnds Start ys → LastEnds statement (xs ++ ys)
ends-append statement [] ys e f = absurd e
ends-append statement (x ∷ []) [] e f = e
ends-append statement (x ∷ []) (y ∷ ys) e f = subst (λ s. LastEnds s (y ∷ ys)) (sym (after-end statement x e)) f
ends-append statement (x ∷ next ∷ xs) ys e f = ends-append (after statement x) (next ∷ xs) ys e f

-- ---- what is cut

pub cuts_none : (l : Lexing) → CutsStatements 0 l l []
cuts_none l = record {
  after = refl;
  left = refl;
  at = omega arith;
  none = λ e. refl;
  goes_on = λ lt. absurd (omega (arith, lt));
  begins = λ lt. absurd (omega (arith, lt));
  ends = λ lt. absurd (omega (arith, lt));
}

-- a statement more
after_next : (old mid new : Lexing) (count : ℕ) (cut tokens : List Token) → new.text ≡ mid.text → mid ≡ after_statements count old → Cuts mid new cut tokens
    → new ≡ after_statements (suc count) old
after_next old mid new count cut tokens same is cuts =
    ap (λ text. record { text = text; at = new.at; place = new.place }) same
    ∙ (ap (λ n. record { text = mid.text; at = n; place = new.place }) cuts.at
    ∙ (ap (λ place. record { text = mid.text; at = mid.at + bytes (next_statement mid); place = place }) cuts.place ∙ ap after_statement is))

module _ (old mid new : Lexing) (cut tokens : List Token) (same : mid.text ≡ old.text) (cuts : Cuts mid new cut tokens) where
  abbrev next : List Token
  next = next_statement mid

  within : new.at < length old.text → new.at < length mid.text
  within lt = omega (arith, lt, ap length same)

  -- the first one
  first_ends : mid ≡ old → cut ≡ [] → new.at < length old.text → LastEnds (statement_at old.place) (words_from old.text old.at tokens)
  first_ends is none lt =
      subst (λ ts. LastEnds (statement_at old.place) (words_from old.text old.at ts)) (sym (cuts.tokens ∙ ap (λ ts. ts ++ next) none))
      (subst (λ l. LastEnds (statement_at l.place) (words_from l.text l.at next)) is (one_statement (statement_at mid.place) (words_from mid.text mid.at next) (cuts.ends (within lt))))

  more_ends : (count : ℕ) → 0 < count → CutsStatements count old mid cut → new.at < length old.text → LastEnds (statement_at old.place) (words_from old.text old.at tokens)
  more_ends count some before lt =
      let lt_mid : mid.at < length old.text = omega (arith, lt, cuts.at) in
      let start : statement_at mid.place ≡ Start = starts (statement_at mid.place) (before.begins some lt_mid) in
      let here : LastEnds (statement_at mid.place) (words_from mid.text mid.at next) = one_statement (statement_at mid.place) (words_from mid.text mid.at next) (cuts.ends (within lt)) in
      let there : LastEnds Start (words_from old.text (old.at + bytes cut) next) =
      subst (λ s. LastEnds s (words_from old.text (old.at + bytes cut) next)) start
      (subst (λ n. LastEnds (statement_at mid.place) (words_from old.text n next)) before.at
      (subst (λ text. LastEnds (statement_at mid.place) (words_from text mid.at next)) same here)) in
      subst (λ ts. LastEnds (statement_at old.place) (words_from old.text old.at ts)) (sym cuts.tokens)
      (subst (LastEnds (statement_at old.place)) (sym (words-append old.text old.at cut next))
      (ends-append (statement_at old.place) (words_from old.text old.at cut) (words_from old.text (old.at + bytes cut) next) (before.ends some lt_mid) there))

  ends_by : (count : ℕ) → CutsStatements count old mid cut → new.at < length old.text → LastEnds (statement_at old.place) (words_from old.text old.at tokens)
  ends_by zero before = first_ends before.after (before.none refl)
  ends_by (suc n) before = more_ends (suc n) (omega arith) before

  on_by : (count : ℕ) → CutsStatements count old mid cut → old.at < length old.text → old.at < new.at
  on_by zero before lt =
      let at : mid.at ≡ old.at = ap (λ (l : Lexing). l.at) before.after in
      omega (arith, at, cuts.goes_on (omega (arith, lt, at, ap length same)))
  on_by (suc n) before lt = omega (arith, before.goes_on (omega arith) lt, cuts.at)

  pub cuts_next : (count : ℕ) → new.text ≡ mid.text → CutsStatements count old mid cut → CutsStatements (suc count) old new tokens
  cuts_next count text before = record {
    after = after_next old mid new count cut tokens text before.after cuts;
    left = before.left
        ∙ (ap (λ ts. cut ++ ts) cuts.left
        ∙ (sym (append_assoc cut next (tokens_left new)) ∙ ap (λ ts. ts ++ tokens_left new) (sym cuts.tokens)));
    at = omega (arith, before.at, cuts.at, sum_by-append (λ (t : Token). t.len) cut next, ap bytes cuts.tokens);
    none = λ e. absurd (omega (arith, e));
    goes_on = λ some. on_by count before;
    begins = λ some lt. cuts.begins (within lt);
    ends = λ some. ends_by count before;
  }

-- ---- the last token

-- a word that ends no statement
abbrev goes_on_after : Word → Bool
goes_on_after Semicolon = false
goes_on_after QueryEnd = false
goes_on_after CopyCommand = false
goes_on_after Command = false
goes_on_after word = true

none_ends : (statement : Statement) (word : Word) → goes_on_after word ≡ true → ends_with statement word ≡ false
none_ends statement Semicolon e = absurd (false≢true e)
none_ends statement QueryEnd e = absurd (false≢true e)
none_ends statement CopyCommand e = absurd (false≢true e)
none_ends statement Command e = absurd (false≢true e)
none_ends statement word e = refl

named_goes : (rows : List (List ℕ × Word)) (name : List ℕ) → list_all (λ row. goes_on_after row.1) rows ≡ true → goes_on_after (by_text.word_in rows name) ≡ true
named_goes [] name e = refl
named_goes (row ∷ rows) name e =
    let parts = and_parts (goes_on_after row.1) (list_all (λ row. goes_on_after row.1) rows) e in
    cond_both (str_eq_ignore_ascii_case name row.0) row.1 (by_text.word_in rows name) (λ word. goes_on_after word ≡ true) (λ f. parts.0) (λ f. named_goes rows name parts.1)

-- it is a sign
ends_sign : (statement : Statement) (kind : TokenKind) (text : List ℕ) → ends_with statement (by_text.plain_word kind text) ≡ true → is_sign kind ≡ true
ends_sign statement Semi text e = refl
ends_sign statement (PsqlCommand ends_query) text e = refl
ends_sign statement Ident text e =
    absurd (false≢true (sym (none_ends statement (by_text.word_in by_text.names text) (named_goes by_text.names text refl)) ∙ e))
ends_sign statement kind text e = absurd (false≢true e)

passed-stays : (statement : Statement) (word : Word) → is_passed_over word ≡ true → after statement word ≡ statement
passed-stays statement Trivia e = refl
passed-stays statement word e = absurd (false≢true e)

passed-goes : (statement : Statement) (word : Word) → ends_with statement word ≡ true → is_passed_over word ≡ false
passed-goes statement Trivia e = absurd (false≢true e)
passed-goes statement word e = refl

-- ---- kinds

module _ (keyword : Keywords) (knows : (text : List ℕ) → keyword text ≡ kind_of_word_ignoring_case keyword_kinds text) (text : List ℕ) where
  abbrev kinds_at : ℕ → List Token → List ℕ
  kinds_at at tokens = input_kinds (kinds_from keyword text at tokens)

  -- tokens of which the last ends a statement that is begun before the first
  pub record EndsWithLast (statement : Statement) (at : ℕ) (tokens : List Token) : Type 0 where
    pub front : List Token
    pub last : Token
    pub is : tokens ≡ front ++ last ∷ []
    pub sign : is_sign last.kind ≡ true
    pub kind : ℕ
    pub kinds : List ℕ
    pub some : kinds_at at tokens ≡ kind ∷ kinds
    pub ends : last_ends statement (kind ∷ kinds) ≡ true

  abbrev word_here : ℕ → Token → Word
  word_here at t = by_text.plain_word t.kind (slice_range text at (at + t.len))

  trivia_here : (at : ℕ) (t : Token) → is_trivia (kind_of keyword t.kind (slice_range text at (at + t.len))) ≡ is_passed_over (word_here at t)
  trivia_here at t = sym (passed_over (kind_of keyword t.kind (slice_range text at (at + t.len)))) ∙ ap is_passed_over (kind_word keyword knows t.kind (slice_range text at (at + t.len)))

  -- the kinds of tokens, by their words
  pub one_ends : (statement : Statement) (at : ℕ) (tokens : List Token) → LastEnds statement (words_from text at tokens) → EndsWithLast statement at tokens
  one_ends statement at [] e = absurd e
  one_ends statement at (t ∷ []) e =
      let kind = kind_of keyword t.kind (slice_range text at (at + t.len)) in
      let plain = trivia_here at t ∙ passed-goes statement (word_here at t) e in
      record {
        front = [];
        last = t;
        is = refl;
        sign = ends_sign statement t.kind (slice_range text at (at + t.len)) e;
        kind = kind;
        kinds = [];
        some = ap (λ b. if b then [] else kind ∷ []) plain;
        ends = ap (ends_with statement) (kind_word keyword knows t.kind (slice_range text at (at + t.len))) ∙ e;
      }
  one_ends statement at (t ∷ u ∷ tokens) e =
      cases (is_trivia (kind_of keyword t.kind (slice_range text at (at + t.len)))) refl (one_ends (after statement (word_here at t)) (at + t.len) (u ∷ tokens) e)
    where
      cases : (b : Bool) → is_trivia (kind_of keyword t.kind (slice_range text at (at + t.len))) ≡ b → EndsWithLast (after statement (word_here at t)) (at + t.len) (u ∷ tokens)
          → EndsWithLast statement at (t ∷ u ∷ tokens)
      cases true trivia rest =
          record {
            front = t ∷ rest.front;
            last = rest.last;
            is = ap (λ ts. t ∷ ts) rest.is;
            sign = rest.sign;
            kind = rest.kind;
            kinds = rest.kinds;
            some = ap (λ b. if b then kinds_at (at + t.len) (u ∷ tokens) else kind_of keyword t.kind (slice_range text at (at + t.len)) ∷ kinds_at (at + t.len) (u ∷ tokens)) trivia ∙ rest.some;
            ends = subst (λ s. last_ends s (rest.kind ∷ rest.kinds) ≡ true) (passed-stays statement (word_here at t) (sym (trivia_here at t) ∙ trivia)) rest.ends;
          }
      cases false plain rest =
          let kind = kind_of keyword t.kind (slice_range text at (at + t.len)) in
          record {
            front = t ∷ rest.front;
            last = rest.last;
            is = ap (λ ts. t ∷ ts) rest.is;
            sign = rest.sign;
            kind = kind;
            kinds = rest.kind ∷ rest.kinds;
            some = ap (λ b. if b then kinds_at (at + t.len) (u ∷ tokens) else kind ∷ kinds_at (at + t.len) (u ∷ tokens)) plain ∙ ap (λ ks. kind ∷ ks) rest.some;
            ends = subst (λ w. last_ends (after statement w) (rest.kind ∷ rest.kinds) ≡ true) (sym (kind_word keyword knows t.kind (slice_range text at (at + t.len)))) rest.ends;
          }

input-append : (xs ys : List ℕ) → input_kinds (xs ++ ys) ≡ input_kinds xs ++ input_kinds ys
input-append [] ys = refl
input-append (x ∷ xs) ys = cases (is_trivia x) (input-append xs ys)
  where
    cases : (b : Bool) → input_kinds (xs ++ ys) ≡ input_kinds xs ++ input_kinds ys → (if b then input_kinds (xs ++ ys) else x ∷ input_kinds (xs ++ ys)) ≡ (if b then input_kinds xs else x ∷ input_kinds xs) ++ input_kinds ys
    cases true e = e
    cases false e = ap (λ ks. x ∷ ks) e

-- ---- a part

last-append : (statement : Statement) (kind : ℕ) (kinds others : List ℕ) → last_ends statement (kind ∷ kinds) ≡ true → last_ends Start others ≡ true
    → last_ends statement ((kind ∷ kinds) ++ others) ≡ true
last-append statement kind [] [] e f = e
last-append statement kind [] (next ∷ others) e f = subst (λ s. last_ends s (next ∷ others) ≡ true) (sym (after-end statement (word_of kind) e)) f
last-append statement kind (k ∷ kinds) others e f = last-append (after statement (word_of kind)) k kinds others e f

both_end : (kinds others : List ℕ) → last_ends Start kinds ≡ true → last_ends Start others ≡ true → last_ends Start (kinds ++ others) ≡ true
both_end [] others e f = f
both_end (kind ∷ kinds) others e f = last-append Start kind kinds others e f

module _ (keyword contextual : Keywords) (knows : (text : List ℕ) → keyword text ≡ kind_of_word_ignoring_case keyword_kinds text) where
  -- one that stands between others
  pub part_ends : (a b c : List ℕ) (tokens : List Token) (p : Part) → p.text ≡ b → p.tokens ≡ tokens → bytes tokens ≤ length b
      → LastEnds Start (words_from (a ++ (b ++ c)) (length a + 0) tokens) → EndsWithStatement keyword contextual p
  part_ends a b c tokens p text_is tokens_are le e =
      let ends = one_ends keyword knows (a ++ (b ++ c)) Start (length a + 0) tokens e in
      let kinds : kinds_from keyword (a ++ (b ++ c)) (length a + 0) tokens ≡ kinds_from keyword p.text 0 p.tokens =
      kinds-later keyword a (b ++ c) 0 tokens
      ∙ (kinds-front keyword b c 0 tokens (omega (arith, le)) ∙ (ap (λ text. kinds_from keyword text 0 tokens) (sym text_is) ∙ ap (kinds_from keyword p.text 0) (sym tokens_are))) in
      let all : kinds_in (input_of contextual (table_by keyword p)) ≡ ends.kind ∷ ends.kinds = kinds-input contextual (table_by keyword p) ∙ (ap input_kinds (sym kinds) ∙ ends.some) in
      record { front = ends.front; last = ends.last; tokens = tokens_are ∙ ends.is; sign = ends.sign; ends = ap (last_ends Start) all ∙ ends.ends }

  -- two, one after the other
  pub joined_ends : (p q : Part) → bytes p.tokens ≡ length p.text → EndsWithStatement keyword contextual p → EndsWithStatement keyword contextual q
      → EndsWithStatement keyword contextual (joined p q)
  joined_ends p q all first second =
      let k1 = kinds_from keyword p.text 0 p.tokens in
      let k2 = kinds_from keyword q.text 0 q.tokens in
      let both : kinds_in (input_of contextual (table_by keyword (joined p q))) ≡ input_kinds k1 ++ input_kinds k2 =
      kinds-input contextual (table_by keyword (joined p q)) ∙ (ap input_kinds (kinds_both keyword p.text q.text p.tokens q.tokens all) ∙ input-append k1 k2) in
      record {
        front = p.tokens ++ second.front;
        last = second.last;
        tokens = ap (λ ts. p.tokens ++ ts) second.tokens ∙ sym (append_assoc p.tokens second.front (second.last ∷ []));
        sign = second.sign;
        ends = ap (last_ends Start) both
            ∙ both_end (input_kinds k1) (input_kinds k2) (ap (last_ends Start) (sym (kinds-input contextual (table_by keyword p))) ∙ first.ends)
            (ap (last_ends Start) (sym (kinds-input contextual (table_by keyword q))) ∙ second.ends);
      }
