-- How looks are read.
use Rattle.std.specs.Prelude.{◌≡◌, ℕ, ◌+◌, true, false, List, [], ◌∷◌, Result, ⊤}
use Rattle.std.proofs.Common.{arith}
use Rattle.rule_parts.specs.declared.Part.{Part}
use Rattle.rule_parts.specs.declared.Name.{Name}
use Rattle.rule_text.specs.declared.error.WordError.{WordError}
use Rattle.rule_text.specs.declared.reader.Reader.{Reader}
use Rattle.rule_text.specs.declared.word.Word.{Word}
use Rattle.rule_text.specs.declared.word.Sort.{Sort}
use Rattle.rule_text.specs.declared.word.Sort.TheVariants as sorts
use Rattle.rule_text.specs.Reading.{Decides, One, Reads, Takes, behind_one, only}
use Rattle.rule_text.specs.Reading.One.{one}
use Rattle.rule_text.specs.Written.{MoreTokens, OneToken, Tokens, is_end, is_token, sort_at}
use Rattle.rule_text.specs.Written.MoreTokens.{next_token, no_token}
use Rattle.rule_text.specs.Written.Tokens.{some_tokens}
use Rattle.rule_text.proofs.Decisions.Then.{both}
use Rattle.rule_text.proofs.Decisions.Sole.{sole}
use Rattle.rule_text.proofs.Decisions.{Leads, Sole, Splits, Then, behind, decides_as, leads_more}
use Rattle.rule_text.proofs.Leaves.{sort_back}
use Rattle.rule_text.proofs.LookEnds.{same_token}
use Rattle.rule_text.proofs.Reading.{reads_as, reads_before, reads_both}

-- a word that is a token
pub token_decided : {a b : Reader} {r : Result ⊤ WordError} {part : Part} → OneToken a.words.now a.at (a.at + 1) (part ∷ [])
    → Decides (only part) a b r → Decides OneToken a b r
token_decided {a} {part = part} v d = decides_as d (λ r. reads_as r (λ ps o. along o)) (λ m. absurd (m.no (a.at + 1) (part ∷ []) one))
  where
    along : {k : ℕ} {ps : List Part} → One part a.at k ps → OneToken a.words.now a.at k ps
    along one = v

-- a word that is a token isn't the end
pub token_is : (s : Sort) → is_token s ≡ true → is_end s ≡ false
token_is s e = grind arith

tokens_split : {ws : List Word} {i : ℕ} → is_token (sort_at ws i) ≡ true → Splits OneToken MoreTokens MoreTokens ws i
tokens_split e k rs (no_token n) = cc
tokens_split e k rs (next_token v w) = both v w

pub tokens_lead : {a b c : Reader} → Leads MoreTokens MoreTokens a b → is_token (sort_at b.words.now b.at) ≡ true → Reads OneToken b c
    → Leads MoreTokens MoreTokens a c
tokens_lead p there r = leads_more p r (λ k ps qs u v. next_token u v) (tokens_split there) (λ j k ps qs v w. same_token v w)

pub some_split : {ws : List Word} {i : ℕ} → Splits (behind_one OneToken) (Then MoreTokens (Sole sorts.CloseParen)) Tokens ws i
some_split k rs (some_tokens f v w g) = both {qs = []} v (both w (sole g))

pub tokens_read : {a b c d e : Reader} {first last : Name} → Takes sorts.OpenParen first a b → Reads OneToken b c → Reads MoreTokens c d
    → Takes sorts.CloseParen last d e → Reads Tokens a e
tokens_read {a} {b} {c} {d} begins first further close =
    let r : Reads (λ ws i k ps. sort_at ws k ≡ sorts.CloseParen → Tokens ws i (k + 1) ps) a d
    = reads_both (behind begins.bumps first) further (λ ps qs v w. some_tokens begins.sort_is v w) in
    reads_before r close.bumps (λ ps v. v (sort_back d.at r.words close.sort_is))
