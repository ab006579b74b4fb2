-- Words, a token further.
use Rattle.std.specs.Prelude.{◌≡◌, ℕ, ◌+◌, ◌<◌, true, false, List, [], ◌∷◌, ◌++◌, length, get_or}
use Rattle.std.proofs.Common.{sym, subst}
use Rattle.std.proofs.lemmas.Option.{slice_get-get_or}
use Rattle.squawk_tokens.specs.AcceptedTokens.{AreAcceptedTokens, IsGoodToken, start_of}
use Rattle.squawk_tokens.specs.declared.token.Token.{Token}
use Rattle.rule_text.specs.declared.word.Word.{Word}
use Rattle.rule_text.specs.Words.{AreWords, IsWordOf, is_trivia}
use Rattle.rule_text.specs.Words.AreWords.{trivia, word}

pub good_at : {text : List ℕ} {tokens : List Token} {at : ℕ} (i : ℕ) (d : Token) → AreAcceptedTokens text tokens → i < length tokens
    → at ≡ start_of tokens i → IsGoodToken text at (get_or tokens i d)
good_at {text} {tokens} {at} i d accepted within e =
    subst (λ (k : ℕ). IsGoodToken text k (get_or tokens i d)) (sym e) (accepted.good i within d)

pub trivia_next : {text : List ℕ} {tokens : List Token} {i : ℕ} {ws vs : List Word} (d : Token) → AreWords text tokens i ws → i < length tokens
    → is_trivia (get_or tokens i d).kind ≡ true → vs ≡ ws → AreWords text tokens (i + 1) vs
trivia_next {text} {tokens} {i} {ws} {vs} d v within is e =
    subst (λ (l : List Word). AreWords text tokens (i + 1) l) (sym e) (trivia v (slice_get-get_or tokens i d within) is)

pub word_next : {text : List ℕ} {tokens : List Token} {i at : ℕ} {ws vs : List Word} {one : Word} (d : Token) → AreWords text tokens i ws
    → i < length tokens → at ≡ start_of tokens i → is_trivia (get_or tokens i d).kind ≡ false → IsWordOf text at (get_or tokens i d) one
    → vs ≡ ws ++ one ∷ [] → AreWords text tokens (i + 1) vs
word_next {text} {tokens} {i} {at} {ws} {vs} {one} d v within begins is w e =
    let there : IsWordOf text (start_of tokens i) (get_or tokens i d) one = subst (λ (k : ℕ). IsWordOf text k (get_or tokens i d) one) begins w in
    subst (λ (l : List Word). AreWords text tokens (i + 1) l) (sym e) (word v (slice_get-get_or tokens i d within) is there)
