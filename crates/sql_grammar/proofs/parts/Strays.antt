-- Strings and lexical errors of two texts, of which the first ends with a token that ends a statement.
use Rattle.std.proofs.Common.{◌≡◌, ◌∙◌, ℕ, ◌+◌, ◌≤◌, Bool, true, false, List, [], ◌∷◌, ◌++◌, length, map, if◌then◌else◌, arith, ap, sym, refl}
use Rattle.std.specs.Prelude.{◌&&◌, ◌||◌, not, slice_range, None, Some, option_and_then, find}
use Rattle.std.specs.List.{list_any}
use Rattle.std.proofs.lemmas.Bool.{false≢true}
use Rattle.std.proofs.lemmas.List.{map-append, append_assoc}
use Rattle.std.proofs.lemmas.List.Sums.{sum_by-cons}
use Rattle.squawk_tokens.specs.Continuation.{continued, is_passed_over, prefix_of}
use Rattle.squawk_tokens.specs.LexicalErrors.{LexicalError, errors_from, lexical_errors, shifted, token_errors}
use Rattle.squawk_tokens.specs.declared.token.Token.{Token}
use Rattle.squawk_tokens.specs.declared.token.TokenKind.{TokenKind}
use Rattle.squawk_tokens.specs.declared.token.TokenKind.TheVariants.{PsqlCommand, Semi}
use Rattle.sql_grammar.specs.Parts.{is_sign}
use Rattle.sql_grammar.specs.StrayStrings.{Piece, ends_line, follows_string, is_comment, is_plain, is_quoted, is_stray, is_trivia, passed_over as passed, stray_strings, strays_after}
use Rattle.sql_grammar.proofs.parts.Tables.{bytes, front_part, later_part}

-- ---- lexical errors

-- tokens, the nearest first, in front of others
abbrev pub behind : List Token → List Token → List Token
behind [] before = before
behind (t ∷ tokens) before = behind tokens (t ∷ before)

errors-append : (text : List ℕ) (before : List Token) (at : ℕ) (front later : List Token)
    → errors_from text before at (front ++ later) ≡ errors_from text before at front ++ errors_from text (behind front before) (at + bytes front) later
errors-append text before at [] later = ap (λ n. errors_from text before n later) (omega arith)
errors-append text before at (t ∷ front) later =
    let here = map (shifted at) (token_errors t.kind (slice_range text at (at + t.len)) (continued before)) in
    let end : at + t.len + bytes front ≡ at + bytes (t ∷ front) = omega (arith, sum_by-cons (λ (t : Token). t.len) t front) in
    let rest = errors_from text (t ∷ before) (at + t.len) front in
    ap (λ es. here ++ es) (errors-append text (t ∷ before) (at + t.len) front later
    ∙ ap (λ n. rest ++ errors_from text (behind front (t ∷ before)) n later) end)
    ∙ sym (append_assoc here rest (errors_from text (behind front (t ∷ before)) (at + bytes (t ∷ front)) later))

errors-front : (a b : List ℕ) (before : List Token) (at : ℕ) (tokens : List Token) → at + bytes tokens ≤ length a → errors_from (a ++ b) before at tokens ≡ errors_from a before at tokens
errors-front a b before at [] le = refl
errors-front a b before at (t ∷ tokens) le =
    let sum = sum_by-cons (λ (t : Token). t.len) t tokens in
    ap (λ text. map (shifted at) (token_errors t.kind text (continued before)) ++ errors_from (a ++ b) (t ∷ before) (at + t.len) tokens)
    (front_part a b at (at + t.len) (omega arith) (omega (arith, sum, le)))
    ∙ ap (λ es. map (shifted at) (token_errors t.kind (slice_range a at (at + t.len)) (continued before)) ++ es) (errors-front a b (t ∷ before) (at + t.len) tokens (omega (arith, sum, le)))

shifted-twice : (n at : ℕ) (errors : List LexicalError) → map (shifted (n + at)) errors ≡ map (shifted n) (map (shifted at) errors)
shifted-twice n at [] = refl
shifted-twice n at (e ∷ errors) =
    let start : n + at + e.start ≡ n + (at + e.start) = omega arith in
    let end : n + at + e.end ≡ n + (at + e.end) = omega arith in
    ap (λ m. let f : LexicalError = record e { start = m; end = n + at + e.end } in f ∷ map (shifted (n + at)) errors) start
    ∙ (ap (λ m. let f : LexicalError = record e { start = n + (at + e.start); end = m } in f ∷ map (shifted (n + at)) errors) end
    ∙ ap (λ es. shifted n (shifted at e) ∷ es) (shifted-twice n at errors))

errors-later : (a b : List ℕ) (before : List Token) (at : ℕ) (tokens : List Token)
    → errors_from (a ++ b) before (length a + at) tokens ≡ map (shifted (length a)) (errors_from b before at tokens)
errors-later a b before at [] = refl
errors-later a b before at (t ∷ tokens) =
    let n = length a in
    let end : n + at + t.len ≡ n + (at + t.len) = omega arith in
    let here = token_errors t.kind (slice_range b at (at + t.len)) (continued before) in
    ap (λ m. map (shifted (n + at)) (token_errors t.kind (slice_range (a ++ b) (n + at) m) (continued before)) ++ errors_from (a ++ b) (t ∷ before) m tokens) end
    ∙ (ap (λ text. map (shifted (n + at)) (token_errors t.kind text (continued before)) ++ errors_from (a ++ b) (t ∷ before) (n + (at + t.len)) tokens) (later_part a b at (at + t.len))
    ∙ (ap (λ es. es ++ errors_from (a ++ b) (t ∷ before) (n + (at + t.len)) tokens) (shifted-twice n at here)
    ∙ (ap (λ es. map (shifted n) (map (shifted at) here) ++ es) (errors-later a b (t ∷ before) (at + t.len) tokens)
    ∙ sym (map-append (shifted n) (map (shifted at) here) (errors_from b (t ∷ before) (at + t.len) tokens)))))

continued-next : (t : Token) (x y : List Token) → continued x ≡ continued y → continued (t ∷ x) ≡ continued (t ∷ y)
continued-next t x y same = cases (is_passed_over t.kind)
  where
    cases : (b : Bool) → option_and_then (λ t. prefix_of t.kind) (if not b then Some t else find (λ t. not (is_passed_over t.kind)) x)
        ≡ option_and_then (λ t. prefix_of t.kind) (if not b then Some t else find (λ t. not (is_passed_over t.kind)) y)
    cases true = same
    cases false = refl

errors-before : (text : List ℕ) (x y : List Token) (at : ℕ) (tokens : List Token) → continued x ≡ continued y → errors_from text x at tokens ≡ errors_from text y at tokens
errors-before text x y at [] same = refl
errors-before text x y at (t ∷ tokens) same =
    let part = slice_range text at (at + t.len) in
    ap (λ prefix. map (shifted at) (token_errors t.kind part prefix) ++ errors_from text (t ∷ x) (at + t.len) tokens) same
    ∙ ap (λ es. map (shifted at) (token_errors t.kind part (continued y)) ++ es) (errors-before text (t ∷ x) (t ∷ y) (at + t.len) tokens (continued-next t x y same))

pub errors_both : (a b : List ℕ) (front later : List Token) → bytes front ≡ length a → continued (behind front []) ≡ None
    → lexical_errors (a ++ b) (front ++ later) ≡ lexical_errors a front ++ map (shifted (length a)) (lexical_errors b later)
errors_both a b front later all ends =
    let end : 0 + bytes front ≡ length a + 0 = omega (arith, all) in
    errors-append (a ++ b) [] 0 front later
    ∙ (ap (λ es. es ++ errors_from (a ++ b) (behind front []) (0 + bytes front) later) (errors-front a b [] 0 front (omega (arith, all)))
    ∙ (ap (λ n. lexical_errors a front ++ errors_from (a ++ b) (behind front []) n later) end
    ∙ (ap (λ es. lexical_errors a front ++ es) (errors-later a b (behind front []) 0 later)
    ∙ ap (λ es. lexical_errors a front ++ map (shifted (length a)) es) (errors-before b (behind front []) [] 0 later ends))))

-- ---- stray strings

-- a token with its text
abbrev pub piece_at : List ℕ → ℕ → Token → Piece
piece_at text at t = record { kind = t.kind; text = slice_range text at (at + t.len) }

-- tokens with their texts, the nearest first, in front of others
abbrev pub pieces : List ℕ → ℕ → List Token → List Piece → List Piece
pieces text at [] before = before
pieces text at (t ∷ tokens) before = pieces text (at + t.len) tokens (piece_at text at t ∷ before)

strays-append : (text : List ℕ) (before : List Piece) (at : ℕ) (front later : List Token)
    → strays_after before text at (front ++ later) ≡ strays_after before text at front ++ strays_after (pieces text at front before) text (at + bytes front) later
strays-append text before at [] later = ap (λ n. strays_after before text n later) (omega arith)
strays-append text before at (t ∷ front) later =
    let next = piece_at text at t ∷ before in
    let end : at + t.len + bytes front ≡ at + bytes (t ∷ front) = omega (arith, sum_by-cons (λ (t : Token). t.len) t front) in
    cases (is_trivia t.kind) (strays_after next text (at + t.len) (front ++ later)) (strays_after next text (at + t.len) front) (strays_after (pieces text (at + t.len) front next) text (at + bytes (t ∷ front)) later)
    (strays-append text next (at + t.len) front later
    ∙ ap (λ n. strays_after next text (at + t.len) front ++ strays_after (pieces text (at + t.len) front next) text n later) end)
  where
    cases : (b : Bool) (all front later : List Bool) → all ≡ front ++ later
        → (if b then all else (is_plain t.kind && is_stray before) ∷ all) ≡ (if b then front else (is_plain t.kind && is_stray before) ∷ front) ++ later
    cases true all front later e = e
    cases false all front later e = ap (λ bs. (is_plain t.kind && is_stray before) ∷ bs) e

strays-front : (a b : List ℕ) (before : List Piece) (at : ℕ) (tokens : List Token) → at + bytes tokens ≤ length a → strays_after before (a ++ b) at tokens ≡ strays_after before a at tokens
strays-front a b before at [] le = refl
strays-front a b before at (t ∷ tokens) le =
    let sum = sum_by-cons (λ (t : Token). t.len) t tokens in
    let part = front_part a b at (at + t.len) (omega arith) (omega (arith, sum, le)) in
    ap (λ (text : List ℕ). let p : Piece = record { kind = t.kind; text = text } in
    let strays = strays_after (p ∷ before) (a ++ b) (at + t.len) tokens in if is_trivia t.kind then strays else (is_plain t.kind && is_stray before) ∷ strays) part
    ∙ ap (λ strays. if is_trivia t.kind then strays else (is_plain t.kind && is_stray before) ∷ strays) (strays-front a b (piece_at a at t ∷ before) (at + t.len) tokens (omega (arith, sum, le)))

strays-later : (a b : List ℕ) (before : List Piece) (at : ℕ) (tokens : List Token) → strays_after before (a ++ b) (length a + at) tokens ≡ strays_after before b at tokens
strays-later a b before at [] = refl
strays-later a b before at (t ∷ tokens) =
    let n = length a in
    let end : n + at + t.len ≡ n + (at + t.len) = omega arith in
    let all : Piece → ℕ → List Bool = λ p m. let strays = strays_after (p ∷ before) (a ++ b) m tokens in if is_trivia t.kind then strays else (is_plain t.kind && is_stray before) ∷ strays in
    ap (λ m. let p : Piece = record { kind = t.kind; text = slice_range (a ++ b) (n + at) m } in all p m) end
    ∙ (ap (λ (text : List ℕ). let p : Piece = record { kind = t.kind; text = text } in all p (n + (at + t.len))) (later_part a b at (at + t.len))
    ∙ ap (λ strays. if is_trivia t.kind then strays else (is_plain t.kind && is_stray before) ∷ strays) (strays-later a b (piece_at b at t ∷ before) (at + t.len) tokens))

-- looking back from a string, two lists tell the same
pub record TellsSame (x y : List Piece) : Type 0 where
  pub follows : follows_string x ≡ follows_string y
  pub passed : follows_string y ≡ true → passed x ≡ passed y

same_stray : (x y : List Piece) → TellsSame x y → is_stray x ≡ is_stray y
same_stray x y same =
    ap (λ f. f && (not (list_any ends_line (passed x)) || list_any is_comment (passed x))) same.follows ∙ cases (follows_string y) refl
  where
    cases : (b : Bool) → follows_string y ≡ b → (b && (not (list_any ends_line (passed x)) || list_any is_comment (passed x))) ≡ (b && (not (list_any ends_line (passed y)) || list_any is_comment (passed y)))
    cases false e = refl
    cases true e = ap (λ ps. not (list_any ends_line ps) || list_any is_comment ps) (same.passed e)

same_next : (p : Piece) (x y : List Piece) → TellsSame x y → TellsSame (p ∷ x) (p ∷ y)
same_next p x y same = record {
  follows = ap (λ f. if is_trivia p.kind then f else is_quoted p.kind) same.follows;
  passed = cases (is_trivia p.kind);
}
  where
    cases : (b : Bool) → (if b then follows_string y else is_quoted p.kind) ≡ true → (if b then p ∷ passed x else []) ≡ (if b then p ∷ passed y else [])
    cases true e = ap (λ ps. p ∷ ps) (same.passed e)
    cases false e = refl

strays-before : (text : List ℕ) (x y : List Piece) (at : ℕ) (tokens : List Token) → TellsSame x y → strays_after x text at tokens ≡ strays_after y text at tokens
strays-before text x y at [] same = refl
strays-before text x y at (t ∷ tokens) same =
    let p = piece_at text at t in
    ap (λ stray. let strays = strays_after (p ∷ x) text (at + t.len) tokens in if is_trivia t.kind then strays else (is_plain t.kind && stray) ∷ strays) (same_stray x y same)
    ∙ ap (λ strays. if is_trivia t.kind then strays else (is_plain t.kind && is_stray y) ∷ strays) (strays-before text (p ∷ x) (p ∷ y) (at + t.len) tokens (same_next p x y same))

pub strays_both : (a b : List ℕ) (front later : List Token) → bytes front ≡ length a → follows_string (pieces (a ++ b) 0 front []) ≡ false
    → stray_strings (a ++ b) (front ++ later) ≡ stray_strings a front ++ stray_strings b later
strays_both a b front later all ends =
    let end : 0 + bytes front ≡ length a + 0 = omega (arith, all) in
    let before = pieces (a ++ b) 0 front [] in
    let same : TellsSame before [] = record { follows = ends; passed = λ e. absurd (false≢true e) } in
    strays-append (a ++ b) [] 0 front later
    ∙ (ap (λ bs. bs ++ strays_after before (a ++ b) (0 + bytes front) later) (strays-front a b [] 0 front (omega (arith, all)))
    ∙ (ap (λ n. stray_strings a front ++ strays_after before (a ++ b) n later) end
    ∙ (ap (λ bs. stray_strings a front ++ bs) (strays-later a b before 0 later)
    ∙ ap (λ bs. stray_strings a front ++ bs) (strays-before b before [] 0 later same))))

-- ---- the last token

-- nothing goes on after a sign
pub record GoesNotOn (kind : TokenKind) : Type 0 where
  pub not_passed : is_passed_over kind ≡ false
  pub no_prefix : prefix_of kind ≡ None
  pub not_trivia : is_trivia kind ≡ false
  pub not_quoted : is_quoted kind ≡ false

pub goes_not_on : (kind : TokenKind) → is_sign kind ≡ true → GoesNotOn kind
goes_not_on Semi e = record { not_passed = refl; no_prefix = refl; not_trivia = refl; not_quoted = refl }
goes_not_on (PsqlCommand ends) e = record { not_passed = refl; no_prefix = refl; not_trivia = refl; not_quoted = refl }
goes_not_on kind e = absurd (false≢true e)

behind-last : (front : List Token) (t : Token) (before : List Token) → behind (front ++ t ∷ []) before ≡ t ∷ behind front before
behind-last [] t before = refl
behind-last (x ∷ front) t before = behind-last front t (x ∷ before)

pub none_continued : (front : List Token) (t : Token) → is_sign t.kind ≡ true → continued (behind (front ++ t ∷ []) []) ≡ None
none_continued front t e =
    let is = goes_not_on t.kind e in
    let before = behind front [] in
    ap continued (behind-last front t [])
    ∙ (ap (λ b. option_and_then (λ (t : Token). prefix_of t.kind) (if not b then Some t else find (λ t. not (is_passed_over t.kind)) before)) is.not_passed ∙ is.no_prefix)

pieces-last : (text : List ℕ) (at : ℕ) (front : List Token) (t : Token) (before : List Piece)
    → pieces text at (front ++ t ∷ []) before ≡ piece_at text (at + bytes front) t ∷ pieces text at front before
pieces-last text at [] t before = ap (λ n. piece_at text n t ∷ before) (omega arith)
pieces-last text at (x ∷ front) t before =
    let end : at + x.len + bytes front ≡ at + bytes (x ∷ front) = omega (arith, sum_by-cons (λ (t : Token). t.len) x front) in
    pieces-last text (at + x.len) front t (piece_at text at x ∷ before) ∙ ap (λ n. piece_at text n t ∷ pieces text at (x ∷ front) before) end

pub follows_none : (text : List ℕ) (front : List Token) (t : Token) → is_sign t.kind ≡ true → follows_string (pieces text 0 (front ++ t ∷ []) []) ≡ false
follows_none text front t e =
    let is = goes_not_on t.kind e in
    let before = pieces text 0 front [] in
    ap follows_string (pieces-last text 0 front t [])
    ∙ (ap (λ b. if b then follows_string before else is_quoted t.kind) is.not_trivia ∙ is.not_quoted)
