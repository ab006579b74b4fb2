-- The place of a script where it goes on in another text.
use Rattle.std.proofs.Common.{◌≡◌, ◌≢◌, ◌∙◌, ℕ, zero, suc, ◌+◌, ◌<◌, ◌⊎◌, inl, inr, Bool, true, false, Some, None, nat_lt, List, [], ◌∷◌, take, drop, if◌then◌else◌, ⊎_elim, arith, ap, sym, refl}
use Rattle.std.specs.Prelude.{◌==◌, sum_by}
use Rattle.std.proofs.lemmas.Bool.{cond_both, false≢true}
use Rattle.std.proofs.lemmas.Option.{none-some, same_Some}
use Rattle.squawk_tokens.specs.declared.token.Token.{Token}
use Rattle.sql_lexer.specs.ScriptLexing.{Lexing, after_statement, after_statements, next_statement, place_after, place_of, script_place}
use Rattle.sql_lexer.specs.ScriptWords.{word_of}
use Rattle.sql_lexer.specs.Scripts.{ends_data, has_mark, line_len, place_behind, place_in_data, place_with}
use Rattle.sql_lexer.specs.Statements.{data_follow}
use Rattle.sql_lexer.specs.Tokens.{first_token}
use Rattle.sql_lexer.specs.declared.script.places.Place.{Place}
use Rattle.sql_lexer.specs.declared.script.places.Place.TheVariants.{Front, Sql, Data}
use Rattle.sql_lexer.specs.declared.script.script_place.ScriptPlace.{ScriptPlace}
use Rattle.sql_lexer.specs.declared.script.script_place.ScriptPlace.TheVariants as script
use Rattle.sql_lexer.specs.declared.statements.Statement.{Statement}
use Rattle.sql_lexer.specs.declared.statements.Statement.TheVariants.{Created, CreatedOr, OfBlock, OfCopy, OfRoutine, OfRule, Plain, Replaced, Start}
use Rattle.sql_lexer.specs.declared.statements.Word.{Word}
use Rattle.sql_grammar.specs.CutParts.{CutsStatements}

-- ---- the place

abbrev is_front : Place → Bool
is_front Front = true
is_front (Sql statement) = false
is_front (Data left statement waiting) = false

-- where a script goes on is where it stood
pub place_is : (p : Place) (q : ScriptPlace) → script_place p ≡ Some q → place_of q ≡ p
place_is Front q e = ap place_of (sym (same_Some script.Front q e))
place_is (Sql Start) q e = ap place_of (sym (same_Some (script.Inside 0) q e))
place_is (Sql Created) q e = absurd (none-some q e)
place_is (Sql CreatedOr) q e = absurd (none-some q e)
place_is (Sql Replaced) q e = absurd (none-some q e)
place_is (Sql Plain) q e = absurd (none-some q e)
place_is (Sql (OfRule unclosed)) q e = absurd (none-some q e)
place_is (Sql (OfRoutine unclosed before)) q e = absurd (none-some q e)
place_is (Sql (OfBlock unclosed before)) q e = absurd (none-some q e)
place_is (Sql (OfCopy unclosed phrase)) q e = absurd (none-some q e)
place_is (Data zero Start waiting) q e = waits (nat_lt waiting 4294967295) e
  where
    waits : (b : Bool) → (if b then Some (script.Inside (waiting + 1)) else None) ≡ Some q → place_of q ≡ Data zero Start waiting
    waits true e =
        let next : waiting + 1 ≡ suc waiting = omega arith in
        ap place_of (sym (same_Some (script.Inside (waiting + 1)) q e)) ∙ ap (λ n. place_of (script.Inside n)) next
    waits false e = absurd (none-some q e)
place_is (Data zero Created waiting) q e = absurd (none-some q e)
place_is (Data zero CreatedOr waiting) q e = absurd (none-some q e)
place_is (Data zero Replaced waiting) q e = absurd (none-some q e)
place_is (Data zero Plain waiting) q e = absurd (none-some q e)
place_is (Data zero (OfRule unclosed) waiting) q e = absurd (none-some q e)
place_is (Data zero (OfRoutine unclosed before) waiting) q e = absurd (none-some q e)
place_is (Data zero (OfBlock unclosed before) waiting) q e = absurd (none-some q e)
place_is (Data zero (OfCopy unclosed phrase) waiting) q e = absurd (none-some q e)
place_is (Data (suc left) statement waiting) q e = absurd (none-some q e)

inside_with : (statement : Statement) (word : Word) (rest : List ℕ) → is_front (place_with statement word rest) ≡ false
inside_with statement word rest = cond_both (data_follow statement word) _ _ (λ p. is_front p ≡ false) (λ _. refl) (λ _. refl)

inside_after_data : (waiting : ℕ) → is_front (place_of (script.Inside waiting)) ≡ false
inside_after_data zero = refl
inside_after_data (suc waiting) = refl

inside_data : (statement : Statement) (waiting : ℕ) (text : List ℕ) → is_front (place_in_data statement waiting text) ≡ false
inside_data statement waiting text =
    cond_both (line_len text == 0) _ _ (λ p. is_front p ≡ false) (λ _. refl)
    (λ _. cond_both (ends_data text) _ _ (λ p. is_front p ≡ false) (λ _. inside_after_data waiting) (λ _. refl))

-- no token leaves a script at its front
inside_behind : (p : Place) (text : List ℕ) → is_front (place_behind p text) ≡ false
inside_behind Front text =
    let found = first_token text in
    cond_both (has_mark text) _ _ (λ p. is_front p ≡ false) (λ _. refl) (λ _. inside_with Start (word_of found.kind (take found.len text)) (drop found.len text))
inside_behind (Sql statement) text = let found = first_token text in inside_with statement (word_of found.kind (take found.len text)) (drop found.len text)
inside_behind (Data left statement waiting) text = cond_both (left == 0) _ _ (λ p. is_front p ≡ false) (λ _. inside_data statement waiting text) (λ _. refl)

inside_after : (t : Token) (tokens : List Token) (p : Place) (text : List ℕ) → is_front (place_after (t ∷ tokens) p text) ≡ false
inside_after t [] p text = inside_behind p text
inside_after t (u ∷ tokens) p text = inside_after u tokens (place_behind p text) (drop t.len text)

-- a place that isn't where it was isn't the front
abbrev Inside-later : Lexing → Lexing → Type 0
Inside-later l m = (m.at ≡ l.at) ⊎ (is_front m.place ≡ false)

inside_next : (l m : Lexing) → Inside-later l m → Inside-later l (after_statement m)
inside_next l m later = cases (next_statement m) refl
  where
    cases : (tokens : List Token) → next_statement m ≡ tokens → Inside-later l (after_statement m)
    cases [] none =
        ⊎_elim
        (λ (at : m.at ≡ l.at). inl (omega (arith, at, ap (λ ts. m.at + sum_by (λ (t : Token). t.len) ts) none)))
        (λ (inside : is_front m.place ≡ false). inr (ap (λ ts. is_front (place_after ts m.place (drop m.at m.text))) none ∙ inside))
        later
    cases (t ∷ tokens) some = inr (ap (λ ts. is_front (place_after ts m.place (drop m.at m.text))) some ∙ inside_after t tokens m.place (drop m.at m.text))

inside_later : (n : ℕ) (l : Lexing) → Inside-later l (after_statements n l)
inside_later zero l = inl refl
inside_later (suc n) l = inside_next l (after_statements n l) (inside_later n l)

pub never_front : (old new : Lexing) (cut : List Token) (count : ℕ) → CutsStatements count old new cut → old.at < new.at → script_place new.place ≢ Some script.Front
never_front old new cut count cuts goes_on front =
    ⊎_elim
    (λ (at : (after_statements count old).at ≡ old.at). absurd (omega (arith, at, goes_on, ap (λ (l : Lexing). l.at) cuts.after)))
    (λ (inside : is_front (after_statements count old).place ≡ false).
    let is : Front ≡ new.place = place_is new.place script.Front front in
    false≢true (sym inside ∙ (ap (λ (l : Lexing). is_front l.place) (sym cuts.after) ∙ ap is_front (sym is))))
    (inside_later count old)
