-- The statement at a place of a script is the machine's, word by word.
use Rattle.std.proofs.Common.{◌≡◌, ◌∙◌, ℕ, zero, suc, ◌+◌, ◌-◌, ◌<◌, ◌≤◌, ◌==◌, Bool, true, false, List, [], ◌∷◌, length, take, drop, length-drop, ⊎_elim, arith, ap, refl, subst, sym}
use Rattle.std.specs.Prelude.{IsUtf8, slice_range, if◌then◌else◌}
use Rattle.std.proofs.lemmas.Bool.{cases_lt, cond_both, false≢true}
use Rattle.std.proofs.lemmas.List.{drop-drop, drop_all}
use Rattle.std.proofs.lemmas.Str.{IsCharBoundary-start}
use Rattle.squawk_tokens.specs.declared.token.TokenKind.{TokenKind}
use Rattle.squawk_tokens.specs.declared.token.TokenKind.TheVariants.{PsqlCommand, Whitespace}
use Rattle.sql_lexer.specs.declared.script.places.Place.{Place}
use Rattle.sql_lexer.specs.declared.script.places.Place.TheVariants.{Front, Sql, Data}
use Rattle.sql_lexer.specs.declared.statements.Statement.{Statement}
use Rattle.sql_lexer.specs.declared.statements.Statement.TheVariants.{Start, OfRoutine, OfBlock, OfCopy}
use Rattle.sql_lexer.specs.declared.statements.Phrase.{Phrase}
use Rattle.sql_lexer.specs.declared.statements.Phrase.TheVariants.{Nothing, Begun, Whole}
use Rattle.sql_lexer.specs.declared.statements.Before.TheVariants.{Any, Name, Block}
use Rattle.sql_lexer.specs.declared.statements.Word.{Word}
use Rattle.sql_lexer.specs.declared.statements.Word.TheVariants.{Command, CopyCommand, QueryEnd, Trivia}
use Rattle.sql_lexer.specs.Rules.{token}
use Rattle.sql_lexer.specs.Scripts.{data_of, data_token, ends_data, has_mark, line_end_len, line_len, place_behind, place_behind_data, place_in, place_in_data, place_on_line, script_tokens, token_at}
use Rattle.sql_lexer.specs.ScriptEnds.{ends_from, is_passed_over, script_ends, statement_at, word_at, words_from}
use Rattle.sql_lexer.specs.ScriptWords.{is_copy_command, plain_word, word_of}
use Rattle.sql_lexer.specs.Statements.{after, data_follow, ends_with}
use Rattle.sql_lexer.specs.Tokens.{first_token}
use Rattle.sql_lexer.proofs.CutTokens.{IsAt, cut_at, cut_from}
use Rattle.sql_lexer.proofs.ScriptPlaces.{script}

-- ---- words

-- `\copy` is to a statement like any command
like_command : (statement : Statement) → after statement CopyCommand ≡ after statement Command
like_command Start = refl
like_command (OfRoutine unclosed Any) = refl
like_command (OfRoutine unclosed Name) = refl
like_command (OfRoutine unclosed Block) = refl
like_command (OfBlock unclosed Any) = refl
like_command (OfBlock unclosed Name) = refl
like_command (OfBlock unclosed Block) = refl
like_command (OfCopy unclosed phrase) = phrases unclosed phrase
  where
    phrases : (unclosed : ℕ) (phrase : Phrase) → after (OfCopy unclosed phrase) CopyCommand ≡ after (OfCopy unclosed phrase) Command
    phrases unclosed Nothing = refl
    phrases unclosed Begun = refl
    phrases unclosed Whole = refl
like_command statement = refl

after-word : (statement : Statement) (kind : TokenKind) (text : List ℕ) → after statement (word_of kind text) ≡ after statement (plain_word kind text)
after-word statement (PsqlCommand false) text =
    cond_both (is_copy_command text) CopyCommand Command (λ word. after statement word ≡ after statement Command) (λ e. like_command statement) (λ e. refl)
after-word statement kind text = refl

-- ---- places

in_statement : (statement : Statement) (text : List ℕ) → statement_at (place_in statement text) ≡ after statement (plain_word (first_token text).kind (take (first_token text).len text))
in_statement statement text =
    let found = first_token text in
    let word = word_of found.kind (take found.len text) in
    cond_both (data_follow statement word) (Data (line_len (drop found.len text)) (after statement word) 0) (Sql (after statement word)) (λ p. statement_at p ≡ after statement word)
    (λ e. refl) (λ e. refl)
    ∙ after-word statement found.kind (take found.len text)

starts_anew : (waiting : ℕ) → statement_at (place_behind_data waiting) ≡ Start
starts_anew zero = refl
starts_anew (suc waiting) = refl

in_data : (statement : Statement) (waiting : ℕ) (text : List ℕ)
    → statement_at (place_in_data statement waiting text) ≡ after statement (plain_word (data_token text).kind (take (data_token text).len text))
in_data statement waiting text = empty (line_len text == 0)
  where
    line : (ends : Bool) → statement_at (if ends then place_behind_data waiting else data_of (after statement Command) waiting) ≡ after statement (if ends then QueryEnd else Command)
    line true = starts_anew waiting
    line false = refl

    empty : (none : Bool) → statement_at (if none then data_of statement waiting else if ends_data text then place_behind_data waiting else data_of (after statement Command) waiting)
        ≡ after statement (plain_word (if none then token Whitespace (line_end_len text) else token (PsqlCommand (ends_data text)) (line_len text)).kind
        (take (if none then token Whitespace (line_end_len text) else token (PsqlCommand (ends_data text)) (line_len text)).len text))
    empty true = refl
    empty false = line (ends_data text)

-- after a token the statement has its word more
pub after-token : (place : Place) (text : List ℕ) → statement_at (place_behind place text) ≡ after (statement_at place) (word_at place text)
after-token Front text = marked (has_mark text)
  where
    marked : (mark : Bool) → statement_at (if mark then Sql Start else place_in Start text)
        ≡ after Start (plain_word (if mark then token Whitespace 3 else first_token text).kind (take (if mark then token Whitespace 3 else first_token text).len text))
    marked true = refl
    marked false = in_statement Start text
after-token (Sql statement) text = in_statement statement text
after-token (Data left statement waiting) text = on_line (left == 0)
  where
    on_line : (over : Bool) → statement_at (if over then place_in_data statement waiting text else place_on_line left statement waiting text (first_token (take left text)))
        ≡ after statement (plain_word (if over then data_token text else first_token (take left text)).kind (take (if over then data_token text else first_token (take left text)).len text))
    on_line true = in_data statement waiting text
    on_line false = after-word statement (first_token (take left text)).kind (take (first_token (take left text)).len text)

-- ---- which of them end a statement

behind : (place : Place) (n : ℕ) (text : List ℕ) → ends_from place n text ≡ ends_from place 0 (drop n text)
behind place zero text = refl
behind place (suc n) [] = refl
behind place (suc n) (b ∷ rest) = behind place n rest

ends-first : (place : Place) (text : List ℕ) → 0 < length text → 0 < (token_at place text).len
    → ends_from place 0 text ≡ (if is_passed_over (word_at place text) then ends_from (place_behind place text) 0 (drop (token_at place text).len text)
    else ends_with (statement_at place) (word_at place text) ∷ ends_from (place_behind place text) 0 (drop (token_at place text).len text))
ends-first place [] some nonempty = absurd (omega arith)
ends-first place (b ∷ rest) some nonempty =
    let len = (token_at place (b ∷ rest)).len in
    let next = place_behind place (b ∷ rest) in
    let word = word_at place (b ∷ rest) in
    let more : len ≡ suc (len - 1) = omega (arith, nonempty) in
    ap (λ others. if is_passed_over word then others else ends_with (statement_at place) word ∷ others)
    (behind next (len - 1) rest ∙ ap (λ n. ends_from next 0 (drop n (b ∷ rest))) (sym more))

-- ---- a script

-- with which words a statement ends
abbrev pub ends_among : Statement → List Word → List Bool
ends_among statement [] = []
ends_among statement (word ∷ words) =
    if is_passed_over word then ends_among statement words else ends_with statement word ∷ ends_among (after statement word) words

passed-stays : (statement : Statement) (word : Word) → is_passed_over word ≡ true → after statement word ≡ statement
passed-stays statement Trivia e = refl
passed-stays statement word e = absurd (false≢true e)

one_word : (statement : Statement) (word : Word) (words : List Word) (others : List Bool) → others ≡ ends_among (after statement word) words
    → (if is_passed_over word then others else ends_with statement word ∷ others) ≡ ends_among statement (word ∷ words)
one_word statement word words others same = cases (is_passed_over word) refl
  where
    cases : (b : Bool) → is_passed_over word ≡ b
        → (if b then others else ends_with statement word ∷ others) ≡ (if b then ends_among statement words else ends_with statement word ∷ ends_among (after statement word) words)
    cases true e = same ∙ ap (λ s. ends_among s words) (passed-stays statement word e)
    cases false e = ap (λ rest. ends_with statement word ∷ rest) same

module _ (text : List ℕ) where
  no_more : (place : Place) (at : ℕ) → length text ≤ at
      → ends_from place 0 (drop at text) ≡ ends_among (statement_at place) (words_from text at (cut_from script place (drop at text)))
  no_more place at le =
      subst (λ rest. ends_from place 0 rest ≡ ends_among (statement_at place) (words_from text at (cut_from script place rest))) (sym (drop_all at text le)) refl

  -- of a text with at most so many bytes left
  ends-words : (left : ℕ) (place : Place) (at : ℕ) → IsAt script place text at → length text ≤ at + left
      → ends_from place 0 (drop at text) ≡ ends_among (statement_at place) (words_from text at (cut_from script place (drop at text)))
  ends-words zero place at is enough = no_more place at (omega arith)
  ends-words (suc left) place at is enough =
      ⊎_elim
      (λ lt.
      let rest = drop at text in
      let here = cut_at script place text at is lt in
      let found = token_at place rest in
      let next = place_behind place rest in
      let nonempty : 0 < found.len = here.good.nonempty in
      let some : 0 < length rest = omega (arith, length-drop at text) in
      let tokens = cut_from script next (drop (at + found.len) text) in
      let words = words_from text (at + found.len) tokens in
      let len : found.len ≡ at + found.len - at = omega arith in
      let word : word_at place rest ≡ plain_word found.kind (slice_range text at (at + found.len)) = ap (λ n. plain_word found.kind (take n rest)) len in
      let others = ends_from next 0 (drop found.len rest) in
      let same : others ≡ ends_among (after (statement_at place) (word_at place rest)) words =
      ap (ends_from next 0) (drop-drop found.len at text)
      ∙ (ends-words left next (at + found.len) here.behind (omega (arith, nonempty)) ∙ ap (λ s. ends_among s words) (after-token place rest)) in
      ends-first place rest some nonempty
      ∙ (one_word (statement_at place) (word_at place rest) words others same
      ∙ (ap (λ w. ends_among (statement_at place) (w ∷ words)) word
      ∙ ap (λ tokens. ends_among (statement_at place) (words_from text at tokens)) (sym here.tokens))))
      (λ le. no_more place at le)
      (cases_lt at (length text))

-- the ends of a script are the machine's over the words of all its tokens
pub script_ends-words : (text : List ℕ) → IsUtf8 text → script_ends text ≡ ends_among Start (words_from text 0 (script_tokens text))
script_ends-words text utf8 =
    let start = IsCharBoundary-start text utf8 in
    ends-words text (length text) Front 0 (record { utf8 = utf8; boundary = start; reach = start }) (omega arith)
