-- The words of `\copy`, one after another.
use Rattle.std.proofs.Common.{◌≡◌, ◌∙◌, ℕ, zero, suc, ◌+◌, ◌-◌, ◌<◌, ◌≤◌, ◌==◌, ◌||◌, true, false, List, [], ◌∷◌, length, take, drop, length-drop, arith, ap, refl, sym, subst}
use Rattle.std.specs.Prelude.{IsCharBoundary, IsUtf8}
use Rattle.std.proofs.lemmas.Bool.{and_parts, eqb-true, false≢true}
use Rattle.std.proofs.lemmas.List.{drop-drop, drop_all, take_rest}
use Rattle.std.proofs.lemmas.Str.{IsUtf8-drop, IsCharBoundary-from_rest, IsCharBoundary-start}
use Rattle.squawk_tokens.specs.declared.token.Token.{Token}
use Rattle.sql_lexer.specs.declared.statements.Statement.{Statement}
use Rattle.sql_lexer.specs.declared.statements.Statement.TheVariants.{Start}
use Rattle.sql_lexer.specs.declared.statements.Word.{Word}
use Rattle.sql_lexer.specs.declared.statements.Word.TheVariants.{Semicolon}
use Rattle.sql_lexer.specs.ScriptWords.{has_copy, plain_word}
use Rattle.sql_lexer.specs.Statements.{after, data_follow, unclosed_in}
use Rattle.sql_lexer.specs.Tokens.{first_token}
use Rattle.sql_lexer.specs.Rules.{begins}
use Rattle.sql_lexer.proofs.Boundaries.{after_ascii}
use Rattle.sql_lexer.proofs.CutTokens.{left_at}
use Rattle.sql_lexer.proofs.FirstFits.{first_token_fits}
use Rattle.sql_lexer.proofs.Unclosed.{most_after}

behind : (statement : Statement) (n : ℕ) (text : List ℕ) → has_copy statement n text ≡ has_copy statement 0 (drop n text)
behind statement zero text = refl
behind statement (suc n) [] = refl
behind statement (suc n) (b ∷ rest) = behind statement n rest

-- the words of a text before a place are no such COPY
pub record HasNoCopyYet (text : List ℕ) (statement : Statement) (at : ℕ) : Type 0 where
  pub boundary : IsCharBoundary text at
  pub unclosed : unclosed_in statement ≤ at
  pub same : has_copy statement 0 (drop at text) ≡ has_copy Start 0 text

pub none_yet : (text : List ℕ) → IsUtf8 text → HasNoCopyYet text Start 0
none_yet text utf8 = record { boundary = IsCharBoundary-start text utf8; unclosed = omega arith; same = refl }

pub all_words : (text : List ℕ) (statement : Statement) (at : ℕ) → HasNoCopyYet text statement at → length text ≤ at
    → data_follow statement Semicolon ≡ has_copy Start 0 text
all_words text statement at has le = ap (has_copy statement 0) (sym (drop_all at text le)) ∙ has.same

first_word : (statement : Statement) (text : List ℕ) → 0 < length text → 0 < (first_token text).len
    → has_copy statement 0 text ≡ (data_follow statement (plain_word (first_token text).kind (take (first_token text).len text))
    || has_copy (after statement (plain_word (first_token text).kind (take (first_token text).len text))) 0 (drop (first_token text).len text))
first_word statement [] some nonempty = absurd (omega arith)
first_word statement (b ∷ rest) some nonempty =
    let found = first_token (b ∷ rest) in
    let word = plain_word found.kind (take found.len (b ∷ rest)) in
    let next : found.len ≡ suc (found.len - 1) = omega (arith, nonempty) in
    ap (λ others. data_follow statement word || others)
    (behind (after statement word) (found.len - 1) rest ∙ ap (λ n. has_copy (after statement word) 0 (drop n (b ∷ rest))) (sym next))

-- the token at a place is within the text, and its word is told
pub record HasWord (text : List ℕ) (statement : Statement) (at : ℕ) (found : Token) (word : Word) : Type 0 where
  pub some : 0 < found.len
  pub within : at + found.len ≤ length text
  pub same : (data_follow statement word || has_copy (after statement word) 0 (drop (at + found.len) text)) ≡ has_copy Start 0 text
  pub boundary : IsCharBoundary text (at + found.len)

module _ (text : List ℕ) (statement : Statement) (at : ℕ) (utf8 : IsUtf8 text) (has : HasNoCopyYet text statement at) (lt : at < length text) where
  pub token_within : {found : Token} → found ≡ first_token (left_at text at) → (0 < found.len) × (at + found.len ≤ length text)
  token_within {found} is =
      let rest = drop at text in
      let same : found ≡ first_token rest = is ∙ ap first_token (take_rest text at) in
      let fits = first_token_fits rest (IsUtf8-drop text at utf8 has.boundary) (omega (arith, length-drop at text)) in
      let long = ap (λ (t : Token). t.len) same in
      (omega (arith, long, fits.nonempty), omega (arith, long, fits.boundary.0, length-drop at text))

  pub has_word : {found : Token} {word : Word} → found ≡ first_token (left_at text at) → word ≡ plain_word found.kind (take (at + found.len - at) (drop at text))
      → HasWord text statement at found word
  has_word {found} {word} is word_is =
      let rest = drop at text in
      let same : found ≡ first_token rest = is ∙ ap first_token (take_rest text at) in
      let some : 0 < length rest = omega (arith, length-drop at text) in
      let fits = first_token_fits rest (IsUtf8-drop text at utf8 has.boundary) some in
      let long = ap (λ (t : Token). t.len) same in
      let at_found : at + found.len - at ≡ (first_token rest).len = omega (arith, long) in
      let here : word ≡ plain_word (first_token rest).kind (take (first_token rest).len rest) =
      word_is ∙ (ap (λ n. plain_word found.kind (take n rest)) at_found ∙ ap (λ (t : Token). plain_word t.kind (take (first_token rest).len rest)) same) in
      let place : at + (first_token rest).len ≡ at + found.len = omega (arith, long) in
      let le : at ≤ length text = omega arith in
      record {
        some = omega (arith, long, fits.nonempty);
        within = omega (arith, long, fits.boundary.0, length-drop at text);
        same = subst (λ n. (data_follow statement word || has_copy (after statement word) 0 (drop n text)) ≡ has_copy Start 0 text) place
            (subst (λ w. (data_follow statement w || has_copy (after statement w) 0 (drop (at + (first_token rest).len) text)) ≡ has_copy Start 0 text) (sym here)
            (ap (λ others. data_follow statement (plain_word (first_token rest).kind (take (first_token rest).len rest)) || has_copy (after statement (plain_word (first_token rest).kind (take (first_token rest).len rest))) 0 others) (sym (drop-drop (first_token rest).len at text))
            ∙ (sym (first_word statement rest some fits.nonempty) ∙ has.same)));
        boundary = subst (IsCharBoundary text) place (IsCharBoundary-from_rest text at (first_token rest).len le fits.boundary);
      }

module _ {text : List ℕ} {statement : Statement} {at : ℕ} {found : Token} {word : Word} (has : HasWord text statement at found word) where
  pub copy_found : data_follow statement word ≡ true → true ≡ has_copy Start 0 text
  copy_found e = sym (ap (λ b. b || has_copy (after statement word) 0 (drop (at + found.len) text)) e) ∙ has.same

  pub next_word : {next : Statement} → unclosed_in statement ≤ at → data_follow statement word ≡ false → next ≡ after statement word → HasNoCopyYet text next (at + found.len)
  next_word {next} unclosed e is = record {
    boundary = has.boundary;
    unclosed = omega (arith, ap unclosed_in is, most_after statement word, unclosed, has.some);
    same = ap (λ s. has_copy s 0 (drop (at + found.len) text)) is ∙ (sym (ap (λ b. b || has_copy (after statement word) 0 (drop (at + found.len) text)) e) ∙ has.same);
  }

-- what stands behind a backslash (92) is text
pub behind_slash : (text : List ℕ) → IsUtf8 text → begins text (92 ∷ []) ≡ true → IsUtf8 (left_at text 1)
behind_slash [] utf8 e = absurd (false≢true e)
behind_slash (b ∷ rest) utf8 e =
    let text : List ℕ = b ∷ rest in
    let slash : 92 ≡ b = eqb-true 92 b (and_parts (92 == b) (begins rest []) e).0 in
    subst IsUtf8 (sym (take_rest text 1)) (IsUtf8-drop text 1 utf8 (after_ascii text 1 utf8 (omega arith) (omega arith) (omega (arith, slash))))
