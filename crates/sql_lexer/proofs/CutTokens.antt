-- Tokens are cut one behind the other, and their list is accepted.
use Rattle.std.proofs.Common.{◌≡◌, ◌∙◌, ℕ, zero, suc, ◌+◌, ◌-◌, ◌<◌, ◌≤◌, List, [], ◌∷◌, ◌++◌, length, take, drop, get_or, length-drop, zero-add, ⊎_elim, arith, ap, sym, refl, subst}
use Rattle.std.specs.Prelude.{IsUtf8, IsCharBoundary, Ok}
use Rattle.std.specs.List.{HoldsAt}
use Rattle.std.proofs.lemmas.Bool.{cases_lt}
use Rattle.std.proofs.lemmas.List.{take_rest, drop_all, drop-drop, append_assoc, append-nil}
use Rattle.std.proofs.lemmas.List.Sums.{sum_by-cons}
use Rattle.std.proofs.lemmas.Str.{IsUtf8-drop, IsCharBoundary-from_rest}
use Rattle.squawk_tokens.specs.declared.token.Token.{Token}
use Rattle.squawk_tokens.specs.AcceptedTokens.{IsGoodToken, AreAcceptedTokens, start_of}
use Rattle.squawk_tokens.specs.TokenRules.{MeetsKind}
use Rattle.sql_lexer.specs.Pushes.{Pushes}
use Rattle.sql_lexer.specs.Tokens.{tokens_by}
use Rattle.sql_lexer.proofs.Fits.{Fits}

-- A way to cut: the token in front at a place, and the place behind it. A place may reach to a byte of the text, where
-- a character begins or the text ends; then the token in front fits.
pub record Cutter (P : Type 0) : Type 0 where
  pub token : P → List ℕ → Token
  pub next : P → List ℕ → P
  pub reach : P → ℕ
  pub fits : (place : P) (text : List ℕ) → IsUtf8 text → IsCharBoundary text (reach place) → 0 < length text → Fits text (token place text)
  pub reaches : (place : P) (text : List ℕ) → IsUtf8 text → IsCharBoundary text (reach place) → 0 < length text
      → IsCharBoundary (drop (token place text).len text) (reach (next place text))

-- the tokens from a place on
abbrev pub cut_from : {P : Type 0} → Cutter P → P → List ℕ → List Token
cut_from cutter place text = tokens_by cutter.token cutter.next place 0 text

-- ---- the first token and the others

behind : {P : Type 0} (cutter : Cutter P) (place : P) (n : ℕ) (text : List ℕ)
    → tokens_by cutter.token cutter.next place n text ≡ cut_from cutter place (drop n text)
behind cutter place zero text = refl
behind cutter place (suc n) [] = refl
behind cutter place (suc n) (b ∷ rest) = behind cutter place n rest

pub cut_first : {P : Type 0} (cutter : Cutter P) (place : P) (text : List ℕ) → 0 < length text → 0 < (cutter.token place text).len
    → cut_from cutter place text ≡ cutter.token place text ∷ cut_from cutter (cutter.next place text) (drop (cutter.token place text).len text)
cut_first cutter place [] some nonempty = absurd (omega arith)
cut_first cutter place (b ∷ rest) some nonempty =
    let found = cutter.token place (b ∷ rest) in
    let then = cutter.next place (b ∷ rest) in
    let next : found.len ≡ suc (found.len - 1) = omega (arith, nonempty) in
    ap (λ others. found ∷ others) (behind cutter then (found.len - 1) rest ∙ ap (λ n. cut_from cutter then (drop n (b ∷ rest))) (sym next))

-- a place of a text
pub record IsAt {P : Type 0} (cutter : Cutter P) (place : P) (text : List ℕ) (at : ℕ) : Type 0 where
  pub utf8 : IsUtf8 text
  pub boundary : IsCharBoundary text at
  pub reach : IsCharBoundary (drop at text) (cutter.reach place)

-- the token there: it is good, and the others stand behind it
pub record IsCutAt {P : Type 0} (cutter : Cutter P) (place : P) (text : List ℕ) (at : ℕ) : Type 0 where
  pub good : IsGoodToken text at (cutter.token place (drop at text))
  pub behind : IsAt cutter (cutter.next place (drop at text)) text (at + (cutter.token place (drop at text)).len)
  pub tokens : cut_from cutter place (drop at text)
      ≡ cutter.token place (drop at text) ∷ cut_from cutter (cutter.next place (drop at text)) (drop (at + (cutter.token place (drop at text)).len) text)

good_at : (text : List ℕ) (at : ℕ) (token : Token) → at ≤ length text → Fits (drop at text) token → IsGoodToken text at token
good_at text at token le fits =
    let place : at + token.len - at ≡ token.len = omega arith in
    record {
      nonempty = fits.nonempty;
      boundary = IsCharBoundary-from_rest text at token.len le fits.boundary;
      kind = subst (λ n. MeetsKind (take n (drop at text)) token.kind) (sym place) fits.kind;
    }

pub cut_at : {P : Type 0} (cutter : Cutter P) (place : P) (text : List ℕ) (at : ℕ) → IsAt cutter place text at → at < length text
    → IsCutAt cutter place text at
cut_at cutter place text at is lt =
    let rest = drop at text in
    let token = cutter.token place rest in
    let then = cutter.next place rest in
    let some : 0 < length rest = omega (arith, length-drop at text) in
    let utf8 = IsUtf8-drop text at is.utf8 is.boundary in
    let fits = cutter.fits place rest utf8 is.reach some in
    let le : at ≤ length text = omega arith in
    let good = good_at text at token le fits in
    let moved = drop-drop token.len at text in
    record {
      good = good;
      behind = record {
        utf8 = is.utf8;
        boundary = good.boundary;
        reach = subst (λ others. IsCharBoundary others (cutter.reach then)) moved (cutter.reaches place rest utf8 is.reach some);
      };
      tokens = cut_first cutter place rest some fits.nonempty ∙ ap (λ others. token ∷ cut_from cutter then others) moved;
    }

-- ---- a list that is accepted

-- each token is good where the one before it ends, and the last one ends where the text does
abbrev AreGoodFrom : List ℕ → ℕ → List Token → Type 0
AreGoodFrom text at [] = at ≡ length text
AreGoodFrom text at (token ∷ tokens) = IsGoodToken text at token × AreGoodFrom text (at + token.len) tokens

no_more : {P : Type 0} (cutter : Cutter P) (place : P) (text : List ℕ) (at : ℕ) → IsCharBoundary text at → length text ≤ at
    → AreGoodFrom text at (cut_from cutter place (drop at text))
no_more cutter place text at boundary le =
    let end : at ≡ length text = omega (arith, boundary.0) in
    subst (λ rest. AreGoodFrom text at (cut_from cutter place rest)) (sym (drop_all at text le)) end

-- of a text with at most so many bytes left
good_from : {P : Type 0} (cutter : Cutter P) (left : ℕ) (place : P) (text : List ℕ) (at : ℕ) → IsAt cutter place text at → length text ≤ at + left
    → AreGoodFrom text at (cut_from cutter place (drop at text))
good_from cutter zero place text at is enough = no_more cutter place text at is.boundary (omega arith)
good_from cutter (suc left) place text at is enough =
    ⊎_elim
    (λ lt.
    let here = cut_at cutter place text at is lt in
    let token = cutter.token place (drop at text) in
    let others = good_from cutter left (cutter.next place (drop at text)) text (at + token.len) here.behind (omega (arith, here.good.nonempty)) in
    subst (AreGoodFrom text at) (sym here.tokens) (here.good, others))
    (λ le. no_more cutter place text at is.boundary le)
    (cases_lt at (length text))

-- where token i starts in a list that starts at a place
start_behind : (token : Token) (tokens : List Token) (at i : ℕ) → at + token.len + start_of tokens i ≡ at + start_of (token ∷ tokens) (suc i)
start_behind token tokens at i = omega (arith, sum_by-cons (λ (t : Token). t.len) token (take i tokens))

each_good : (text : List ℕ) (tokens : List Token) (at : ℕ) → AreGoodFrom text at tokens → (i : ℕ) → i < length tokens → HoldsAt (IsGoodToken text (at + start_of tokens i)) tokens i
each_good text [] at good i lt = absurd (omega arith)
each_good text (token ∷ tokens) at good zero lt =
    let place : at ≡ at + start_of (token ∷ tokens) 0 = omega arith in
    λ d. subst (λ start. IsGoodToken text start token) place good.0
each_good text (token ∷ tokens) at good (suc i) lt =
    let others = each_good text tokens (at + token.len) good.1 i (omega arith) in
    λ d. subst (λ start. IsGoodToken text start (get_or tokens i d)) (start_behind token tokens at i) (others d)

ends_with_text : (text : List ℕ) (tokens : List Token) (at : ℕ) → AreGoodFrom text at tokens → at + start_of tokens (length tokens) ≡ length text
ends_with_text text [] at good = omega (arith, good)
ends_with_text text (token ∷ tokens) at good = sym (start_behind token tokens at (length tokens)) ∙ ends_with_text text tokens (at + token.len) good.1

pub accepted_from : {P : Type 0} (cutter : Cutter P) (place : P) (text : List ℕ) → IsAt cutter place text 0 → length text ≤ 4294967295
    → AreAcceptedTokens text (cut_from cutter place text)
accepted_from cutter place text is short =
    let tokens = cut_from cutter place text in
    let good = good_from cutter (length text) place text 0 is (omega arith) in
    record {
      short = short;
      good = λ i lt. subst (λ start. HoldsAt (IsGoodToken text start) tokens i) (zero-add (start_of tokens i)) (each_good text tokens 0 good i lt);
      whole = sym (zero-add (start_of tokens (length tokens))) ∙ ends_with_text text tokens 0 good;
    }

-- ---- a loop that cuts one token after the other

-- these are the tokens before a place
pub record HasCut {P : Type 0} (cutter : Cutter P) (front : P) (text : List ℕ) (place : P) (at : ℕ) (cut : List Token) : Type 0 where
  pub is : IsAt cutter place text at
  pub tokens : cut ++ cut_from cutter place (drop at text) ≡ cut_from cutter front text

pub cut_none : {P : Type 0} (cutter : Cutter P) (front : P) (text : List ℕ) → IsAt cutter front text 0 → HasCut cutter front text front 0 []
cut_none cutter front text is = record { is = is; tokens = refl }

pub cut_one : {P : Type 0} (cutter : Cutter P) (front : P) (text : List ℕ) (place : P) (at : ℕ) (cut : List Token)
    → HasCut cutter front text place at cut → at < length text
    → HasCut cutter front text (cutter.next place (drop at text)) (at + (cutter.token place (drop at text)).len) (cut ++ cutter.token place (drop at text) ∷ [])
cut_one cutter front text place at cut has lt =
    let here = cut_at cutter place text at has.is lt in
    let token = cutter.token place (drop at text) in
    let others = cut_from cutter (cutter.next place (drop at text)) (drop (at + token.len) text) in
    record {
      is = here.behind;
      tokens = append_assoc cut (token ∷ []) others ∙ ap (λ rest. cut ++ rest) (sym here.tokens) ∙ has.tokens;
    }

pub cut_all : {P : Type 0} (cutter : Cutter P) (front : P) (text : List ℕ) (place : P) (at : ℕ) (cut : List Token)
    → HasCut cutter front text place at cut → length text ≤ at → cut ≡ cut_from cutter front text
cut_all cutter front text place at cut has le =
    sym (append-nil cut) ∙ ap (λ rest. cut ++ cut_from cutter place rest) (sym (drop_all at text le)) ∙ has.tokens

-- the token at a place stands behind them now, and the place goes on
pub record HasStepped {P : Type 0} (cutter : Cutter P) (front : P) (text : List ℕ) (at : ℕ) (more : List Token) (found : Token) (next : P) : Type 0 where
  pub some : 0 < found.len
  pub within : at + found.len ≤ length text
  pub has : HasCut cutter front text next (at + found.len) more

-- what is left of a text from a place on, as a slice of it
abbrev pub left_at : List ℕ → ℕ → List ℕ
left_at text at = take (length text - at) (drop at text)

pub stepped : {P : Type 0} (cutter : Cutter P) (front : P) (text : List ℕ) (place : P) (at : ℕ) (cut more : List Token) (found : Token) (next : P)
    → HasCut cutter front text place at cut → at < length text
    → Pushes cut (cutter.token place (left_at text at)) more (Ok found) → next ≡ cutter.next place (left_at text at)
    → HasStepped cutter front text at more found next
stepped cutter front text place at cut more found next has lt (grown, same) goes_on =
    let rest = take_rest text at in
    let token = cutter.token place (drop at text) in
    let then = cutter.next place (drop at text) in
    let good = (cut_at cutter place text at has.is lt).good in
    let long : found.len ≡ token.len = ap (λ (t : Token). t.len) (same ∙ ap (cutter.token place) rest) in
    let grew : more ≡ cut ++ token ∷ [] = grown ∙ ap (λ others. cut ++ cutter.token place others ∷ []) rest in
    let later : next ≡ then = goes_on ∙ ap (cutter.next place) rest in
    record {
      some = omega (arith, good.nonempty, long);
      within = omega (arith, good.boundary.0, long);
      has = subst (λ n. HasCut cutter front text next (at + n) more) (sym long)
          (subst (λ p. HasCut cutter front text p (at + token.len) more) (sym later)
          (subst (HasCut cutter front text then (at + token.len)) (sym grew) (cut_one cutter front text place at cut has lt)));
    }
