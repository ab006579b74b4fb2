-- A lexer that cuts a script a statement at a time.
use Rattle.std.specs.Prelude.{◌≡◌, ◌≤◌, ◌<◌, ◌++◌, ℕ, zero, suc, ◌+◌, ◌-◌, nat_lt, Bool, true, false, Option, Some, None, List, [], ◌∷◌, take, drop, length, sum_by, IsCharBoundary, IsUtf8, if◌then◌else◌}
use Rattle.squawk_tokens.specs.declared.token.Token.{Token}
use Rattle.sql_lexer.specs.declared.script.places.Place.{Place}
use Rattle.sql_lexer.specs.declared.script.places.Place.TheVariants.{Front, Sql, Data}
use Rattle.sql_lexer.specs.declared.script.script_place.ScriptPlace.{ScriptPlace}
use Rattle.sql_lexer.specs.declared.script.script_place.ScriptPlace.TheVariants as script
use Rattle.sql_lexer.specs.declared.statements.Statement.{Statement}
use Rattle.sql_lexer.specs.declared.statements.Statement.TheVariants.{Start}
use Rattle.sql_lexer.specs.declared.statements.Word.{Word}
use Rattle.sql_lexer.specs.ScriptEnds.{statement_at, word_at, words_from}
use Rattle.sql_lexer.specs.ScriptPlaces.{reach_of, unclosed_at, waiting_at}
use Rattle.sql_lexer.specs.Scripts.{place_behind, place_behind_data, token_at}
use Rattle.sql_lexer.specs.Statements.{after, ends_with, is_start}
use Rattle.sql_lexer.specs.Tokens.{tokens_by}

-- The text, how many of its bytes are cut, and what stands at the place after them.
pub record Lexing : Type 0 where
  pub text : List ℕ
  pub at : ℕ
  pub place : Place

-- What it keeps: a character begins where it stands, and where the line of a COPY ends, and no more is counted than bytes are
-- cut and COPY statements waited at the front.
pub record IsLexing (l : Lexing) : Type 0 where
  pub utf8 : IsUtf8 l.text
  pub short : length l.text ≤ 4294967295
  pub boundary : IsCharBoundary l.text l.at
  pub reach : IsCharBoundary (drop l.at l.text) (reach_of l.place)
  pub unclosed : unclosed_at l.place ≤ l.at
  pub waits : waiting_at l.place ≤ 4294967295 + l.at

-- ---- a script in several texts

-- the place where a script goes on
abbrev pub place_of : ScriptPlace → Place
place_of script.Front = Front
place_of (script.Inside waiting) = place_behind_data waiting

-- A place at which a script can go on in another text: between two statements or two lines of data. So many COPY statements
-- wait for data, and no more than a `u32` counts.
abbrev pub script_place : Place → Option ScriptPlace
script_place Front = Some script.Front
script_place (Sql Start) = Some (script.Inside 0)
script_place (Data zero Start waiting) = if nat_lt waiting 4294967295 then Some (script.Inside (waiting + 1)) else None
script_place place = None

-- nothing is cut of a text that begins at a place of a script
abbrev pub begun_at : ScriptPlace → List ℕ → Lexing
begun_at place text = record { text = text; at = 0; place = place_of place }

-- the text goes on
abbrev pub longer : List ℕ → Lexing → Lexing
longer rest l = record { text = l.text ++ rest; at = l.at; place = l.place }

-- ---- what is left of a text

-- the tokens of a script that are left
abbrev pub tokens_left : Lexing → List Token
tokens_left l = tokens_by token_at place_behind l.place 0 (drop l.at l.text)

-- for each token of what is left of a text after n bytes, whether a statement ends with it
abbrev pub signs_from : Place → ℕ → List ℕ → List Bool
signs_from place n [] = []
signs_from place (suc n) (b ∷ rest) = signs_from place n rest
signs_from place zero (b ∷ rest) =
    ends_with (statement_at place) (word_at place (b ∷ rest)) ∷ signs_from (place_behind place (b ∷ rest)) ((token_at place (b ∷ rest)).len - 1) rest

-- for each token that is left
abbrev pub signs_left : Lexing → List Bool
signs_left l = signs_from l.place 0 (drop l.at l.text)

-- how many tokens stand up to the first that ends a statement, and with it
abbrev pub up_to_sign : List Bool → ℕ
up_to_sign [] = 0
up_to_sign (ends ∷ signs) = suc (if ends then 0 else up_to_sign signs)

-- the tokens of the next statement
abbrev pub next_statement : Lexing → List Token
next_statement l = take (up_to_sign (signs_left l)) (tokens_left l)

-- the statement ends with the last of these words, and with none before it
abbrev pub EndsLast : Statement → List Word → Type 0
EndsLast statement [] = ⊥
EndsLast statement (word ∷ []) = ends_with statement word ≡ true
EndsLast statement (word ∷ next ∷ words) = (ends_with statement word ≡ false) × EndsLast (after statement word) (next ∷ words)

-- the place after some tokens that begin a text
abbrev pub place_after : List Token → Place → List ℕ → Place
place_after [] place text = place
place_after (t ∷ tokens) place text = place_after tokens (place_behind place text) (drop t.len text)

-- The tokens of the next statement are added to a list, and those after it are left, with the ends of their statements. Some are
-- added, where some are left. Where the text goes on, the statement ends with the last of them, and another one begins.
pub record Cuts (old new : Lexing) (before after : List Token) : Type 0 where
  pub tokens : after ≡ before ++ next_statement old
  pub left : tokens_left old ≡ next_statement old ++ tokens_left new
  pub signs : drop (length (next_statement old)) (signs_left old) ≡ signs_left new
  pub goes_on : old.at < length old.text → old.at < new.at
  pub at : new.at ≡ old.at + sum_by (λ (t : Token). t.len) (next_statement old)
  pub place : new.place ≡ place_after (next_statement old) old.place (drop old.at old.text)
  pub ends : new.at < length old.text → EndsLast (statement_at old.place) (words_from old.text old.at (next_statement old))
  pub begins : new.at < length old.text → is_start (statement_at new.place) ≡ true

-- the lexer after the next statement, and after so many
abbrev pub after_statement : Lexing → Lexing
after_statement l = record {
  text = l.text;
  at = l.at + sum_by (λ (t : Token). t.len) (next_statement l);
  place = place_after (next_statement l) l.place (drop l.at l.text);
}

abbrev pub after_statements : ℕ → Lexing → Lexing
after_statements zero l = l
after_statements (suc n) l = after_statement (after_statements n l)
