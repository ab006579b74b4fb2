-- The tokens of a text: each is the first token of what is left.
use Rattle.std.proofs.Common.{◌≡◌, ◌∙◌, ℕ, zero, suc, ◌-◌, ◌<◌, ◌≤◌, List, [], ◌∷◌, length, drop, ap, refl, sym, subst}
use Rattle.std.specs.Prelude.{IsUtf8, Ok}
use Rattle.std.proofs.lemmas.Str.{IsUtf8-drop, IsCharBoundary-start}
use Rattle.squawk_tokens.specs.declared.token.Token.{Token}
use Rattle.squawk_tokens.specs.AcceptedTokens.{AreAcceptedTokens}
use Rattle.sql_lexer.specs.Pushes.{Pushes}
use Rattle.sql_lexer.specs.Tokens.{first_token, tokens_behind, tokens_by, tokens_of}
use Rattle.sql_lexer.proofs.CutTokens.{Cutter, HasCut, HasStepped, IsAt, accepted_from, cut_all, cut_first, cut_none, left_at, stepped}
use Rattle.sql_lexer.proofs.FirstFits.{first_token_fits}

-- every place is the same
abbrev pub plain : Cutter (Unit {0})
plain = record {
  token = λ place text. first_token text;
  next = λ place text. place;
  reach = λ place. 0;
  fits = λ place text utf8 reach some. first_token_fits text utf8 some;
  reaches = λ place text utf8 reach some.
      let len = (first_token text).len in
      IsCharBoundary-start (drop len text) (IsUtf8-drop text len utf8 (first_token_fits text utf8 some).boundary);
}

same_tokens : (n : ℕ) (text : List ℕ) → tokens_by plain.token plain.next tt n text ≡ tokens_behind n text
same_tokens n [] = refl
same_tokens (suc n) (b ∷ rest) = same_tokens n rest
same_tokens zero (b ∷ rest) = ap (λ others. first_token (b ∷ rest) ∷ others) (same_tokens ((first_token (b ∷ rest)).len - 1) rest)

-- the first token, and the others
pub text_first : (text : List ℕ) → IsUtf8 text → 0 < length text
    → tokens_of text ≡ first_token text ∷ tokens_of (drop (first_token text).len text)
text_first text utf8 some =
    let found = first_token text in
    sym (same_tokens 0 text)
    ∙ (cut_first plain tt text some (first_token_fits text utf8 some).nonempty ∙ ap (λ others. found ∷ others) (same_tokens 0 (drop found.len text)))

front : (text : List ℕ) → IsUtf8 text → IsAt plain tt text 0
front text utf8 = record { utf8 = utf8; boundary = IsCharBoundary-start text utf8; reach = IsCharBoundary-start text utf8 }

pub tokens_accepted : (text : List ℕ) → IsUtf8 text → length text ≤ 4294967295 → AreAcceptedTokens text (tokens_of text)
tokens_accepted text utf8 short = subst (AreAcceptedTokens text) (same_tokens 0 text) (accepted_from plain tt text (front text utf8) short)

-- ---- the loop that cuts them

abbrev pub HasCutText : List ℕ → ℕ → List Token → Type 0
HasCutText text at cut = HasCut plain tt text tt at cut

pub has_cut_none : (text : List ℕ) → IsUtf8 text → HasCutText text 0 []
has_cut_none text utf8 = cut_none plain tt text (front text utf8)

pub has_cut_all : (text : List ℕ) (at : ℕ) (cut : List Token) → HasCutText text at cut → length text ≤ at → cut ≡ tokens_of text
has_cut_all text at cut has le = cut_all plain tt text tt at cut has le ∙ same_tokens 0 text

-- the token at a place stands behind them now
pub text_stepped : (text : List ℕ) (at : ℕ) (cut more : List Token) (found : Token) → HasCutText text at cut → at < length text
    → Pushes cut (first_token (left_at text at)) more (Ok found) → HasStepped plain tt text at more found tt
text_stepped text at cut more found has lt push = stepped plain tt text tt at cut more found tt has lt push refl
