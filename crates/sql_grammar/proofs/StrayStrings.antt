-- What stands before a token says whether a plain string is a stray one.
use Rattle.std.proofs.Common.{◌≡◌, ◌∙◌, ℕ, ◌+◌, ◌&&◌, ◌||◌, not, Bool, true, false, List, [], ◌∷◌, if◌then◌else◌, slice_range, ap, refl}
use Rattle.std.specs.List.{list_any}
use Rattle.squawk_tokens.specs.declared.token.Token.{Token}
use Rattle.sql_grammar.specs.StrayStrings.{Piece, ends_line, follows_string, is_comment, is_plain, is_quoted, is_stray, is_trivia, passed_over, stray_strings, strays_after}
use Rattle.sql_grammar.specs.StringStates.{after_comment, after_token, after_trivia, is_apart, is_on_line, strays_from}
use Rattle.sql_grammar.specs.declared.strings.Before.{Before}
use Rattle.sql_grammar.specs.declared.strings.Before.TheVariants.{NoString, SameLine, LineBefore, Comment}

-- by whether a string stands before, whether a line ends after it, and whether a comment stands after it
abbrev stands : Bool → Bool → Bool → Before
stands string line comment = if string then (if comment then Comment else if line then LineBefore else SameLine) else NoString

abbrev stands_before : List Piece → Before
stands_before before = stands (follows_string before) (list_any ends_line (passed_over before)) (list_any is_comment (passed_over before))

stands-stray : (string line comment : Bool) → is_apart (stands string line comment) ≡ (string && (not line || comment))
stands-stray false line comment = refl
stands-stray true true true = refl
stands-stray true false true = refl
stands-stray true true false = refl
stands-stray true false false = refl

stands-token : (quoted : Bool) → (if quoted then SameLine else NoString) ≡ stands quoted false false
stands-token true = refl
stands-token false = refl

stands-trivia : (string line comment ends is : Bool)
    → (if is then after_comment (stands string line comment) else if is_on_line (stands string line comment) && ends then LineBefore else stands string line comment)
    ≡ stands string (ends || line) (is || comment)
stands-trivia false line comment ends true = refl
stands-trivia false line comment ends false = refl
stands-trivia true line true ends true = refl
stands-trivia true true false ends true = refl
stands-trivia true false false ends true = refl
stands-trivia true line true ends false = refl
stands-trivia true true false true false = refl
stands-trivia true true false false false = refl
stands-trivia true false false true false = refl
stands-trivia true false false false false = refl

strays-from : (before : List Piece) (text : List ℕ) (at : ℕ) (tokens : List Token) → strays_from (stands_before before) text at tokens ≡ strays_after before text at tokens
strays-from before text at [] = refl
strays-from before text at (t ∷ tokens) =
    first (is_trivia t.kind) ∙ ap (λ strays. if is_trivia t.kind then strays else (is_plain t.kind && is_stray before) ∷ strays) (strays-from (p ∷ before) text (at + t.len) tokens)
  where
    p : Piece
    p = record { kind = t.kind; text = slice_range text at (at + t.len) }

    rest : Before → List Bool
    rest before = strays_from before text (at + t.len) tokens

    next : Bool → Before
    next b = stands (if b then follows_string before else is_quoted t.kind)
        (list_any ends_line (if b then p ∷ passed_over before else []))
        (list_any is_comment (if b then p ∷ passed_over before else []))

    first : (b : Bool)
        → (if b then rest (after_trivia (stands_before before) t.kind p.text) else (is_plain t.kind && is_apart (stands_before before)) ∷ rest (after_token t.kind))
        ≡ (if b then rest (next b) else (is_plain t.kind && is_stray before) ∷ rest (next b))
    first true = ap rest (stands-trivia (follows_string before) (list_any ends_line (passed_over before)) (list_any is_comment (passed_over before)) (ends_line p) (is_comment p))
    first false =
        ap (λ apart. (is_plain t.kind && apart) ∷ rest (after_token t.kind)) (stands-stray (follows_string before) (list_any ends_line (passed_over before)) (list_any is_comment (passed_over before)))
        ∙ ap (λ next. (is_plain t.kind && is_stray before) ∷ rest next) (stands-token (is_quoted t.kind))

-- of all tokens of a text
pub strays-all : (text : List ℕ) (tokens : List Token) → strays_from NoString text 0 tokens ≡ stray_strings text tokens
strays-all text tokens = strays-from [] text 0 tokens
