-- Where the words of looks end.
use Rattle.std.specs.Prelude.{◌≡◌, ℕ, ◌+◌, ◌<◌, ◌≤◌, true, List}
use Rattle.std.proofs.Common.{ap, arith, refl, subst, sym}
use Rattle.rule_parts.specs.declared.Part.{Part}
use Rattle.rule_text.specs.declared.word.Word.{Word}
use Rattle.rule_text.specs.Written.{MoreTokens, OneToken, Tokens, is_token, sort_at}
use Rattle.rule_text.specs.Written.MoreTokens.{next_token, no_token}
use Rattle.rule_text.specs.Written.OneToken.{of_class, of_kind}
use Rattle.rule_text.specs.Written.Tokens.{some_tokens}
use Rattle.rule_text.proofs.Reading.{word_sort}

pub token_goes : {ws : List Word} {i j : ℕ} {ps : List Part} → OneToken ws i j ps → i < j
token_goes (of_kind w) = omega arith
token_goes (of_class w) = omega arith

pub same_token : {ws : List Word} {i j k : ℕ} {ps qs : List Part} → OneToken ws i j ps → OneToken ws i k qs → j ≡ k
same_token (of_kind v) (of_kind w) = refl
same_token (of_kind v) (of_class w) = refl
same_token (of_class v) (of_kind w) = refl
same_token (of_class v) (of_class w) = refl

begins : {ws : List Word} {i j : ℕ} {ps : List Part} → OneToken ws i j ps → is_token (sort_at ws i) ≡ true
begins (of_kind w) = ap is_token (word_sort w)
begins (of_class w) = ap is_token (word_sort w)

pub same_more_tokens : {ws : List Word} {i j k : ℕ} {ps qs : List Part} → MoreTokens ws i j ps → MoreTokens ws i k qs → j ≡ k
same_more_tokens (no_token n) (no_token m) = refl
same_more_tokens (no_token n) (next_token v w) = let h = begins v in cc
same_more_tokens (next_token v w) (no_token n) = let h = begins v in cc
same_more_tokens {ws} (next_token v w) (next_token {k = k} {qs = qs} x y) =
    same_more_tokens w (subst (λ (n : ℕ). MoreTokens ws n k qs) (sym (same_token v x)) y)

pub same_tokens : {ws : List Word} {i j k : ℕ} {ps qs : List Part} → Tokens ws i j ps → Tokens ws i k qs → j ≡ k
same_tokens {ws} (some_tokens e v w f) (some_tokens {k = k} {qs = qs} g x y h) =
    ap (λ (n : ℕ). n + 1) (same_more_tokens w (subst (λ (n : ℕ). MoreTokens ws n k qs) (sym (same_token v x)) y))

more_tokens_go : {ws : List Word} {i j : ℕ} {ps : List Part} → MoreTokens ws i j ps → i ≤ j
more_tokens_go (no_token n) = omega arith
more_tokens_go (next_token v w) = let h = token_goes v in let k = more_tokens_go w in omega (arith, h, k)

pub tokens_go : {ws : List Word} {i j : ℕ} {ps : List Part} → Tokens ws i j ps → i ≤ j
tokens_go (some_tokens e v w f) = let h = token_goes v in let k = more_tokens_go w in omega (arith, h, k)
