-- What words that hold no others write, from reader to reader.
use Rattle.std.specs.Prelude.{◌≡◌, ◌≢◌, ℕ, ◌+◌, Bool, true, false, List, []}
use Rattle.std.proofs.Common.{sym, subst, refl, arith}
use Rattle.rule_parts.specs.declared.Part.TheVariants as parts
use Rattle.rule_parts.specs.declared.Name.{Name}
use Rattle.rule_text.specs.declared.reader.Reader.{Reader}
use Rattle.rule_text.specs.declared.word.Word.{Word}
use Rattle.rule_text.specs.declared.word.Sort.{Sort}
use Rattle.rule_text.specs.declared.word.Sort.TheVariants as sorts
use Rattle.rule_text.specs.Reading.{Adds, Bumps, Gives, IsMissed, Reads, Takes, behind_one}
use Rattle.rule_text.specs.Written.{Arrow, Guarding, IsAfterBars, Kinds, MoreKinds, OneKind, Separated, begins_item, is_end, is_sign, sort_at}
use Rattle.rule_text.specs.Written.Arrow.{arrow}
use Rattle.rule_text.specs.Written.Guarding.{guarded}
use Rattle.rule_text.specs.Written.Kinds.{one_kind, some_kinds}
use Rattle.rule_text.specs.Written.MoreKinds.{last_kind, next_kind}
use Rattle.rule_text.specs.Written.OneKind.{kind}
use Rattle.rule_text.specs.Written.Separated.{by_comma, by_token}
use Rattle.rule_text.proofs.Decisions.Then.{both}
use Rattle.rule_text.proofs.Decisions.Sole.{sole}
use Rattle.rule_text.proofs.Decisions.Stop.{stop}
use Rattle.rule_text.proofs.Decisions.{Leads, Sole, Splits, Stop, Then, behind, leads_more}
use Rattle.rule_text.proofs.Reading.{Over, over_more, over_one, reads_before, reads_both, reads_part, sort_from, word_from, word_sort}
use Rattle.rule_text.proofs.Same.{same_kind}

-- ---- words

pub sort_back : {ws vs : List Word} (i : ℕ) {sort : Sort} → vs ≡ ws → sort_at vs i ≡ sort → sort_at ws i ≡ sort
sort_back {ws} {vs} i {sort} e s = subst (λ (x : List Word). sort_at x i ≡ sort) e s

pub sort_not_back : {ws vs : List Word} (i : ℕ) {sort : Sort} → vs ≡ ws → sort_at vs i ≢ sort → sort_at ws i ≢ sort
sort_not_back {ws} {vs} i {sort} e n s = n (subst (λ (x : List Word). sort_at x i ≡ sort) (sym e) s)

pub still_sort : {ws vs : List Word} {i j : ℕ} {sort : Sort} → ws ≡ vs → j ≡ i → sort_at ws i ≡ sort → sort_at vs j ≡ sort
still_sort {ws} {vs} {i} {j} {sort} e f s = subst (λ (k : ℕ). sort_at vs k ≡ sort) (sym f) (sort_back i e s)

-- it isn't the end there either
pub still_there : {ws vs : List Word} {i j : ℕ} → vs ≡ ws → j ≡ i → is_end (sort_at ws i) ≡ false → is_end (sort_at vs j) ≡ false
still_there {ws} {vs} {i} {j} e f h = subst (λ (k : ℕ). is_end (sort_at vs k) ≡ false) (sym f) (subst (λ (x : List Word). is_end (sort_at x i) ≡ false) (sym e) h)

pub still_after_bars : {ws vs : List Word} (i : ℕ) → vs ≡ ws → IsAfterBars vs i → IsAfterBars ws i
still_after_bars i e n ordered = sort_not_back i e (n ordered)

pub after_bars_at : {ws vs : List Word} {i j : ℕ} → ws ≡ vs → j ≡ i → IsAfterBars ws i → IsAfterBars vs j
after_bars_at {ws} {vs} {i} {j} e f n = subst (λ (k : ℕ). IsAfterBars vs k) (sym f) (still_after_bars i e n)

-- what is told of a word, where the words are others
pub told_back : {ws vs : List Word} (P : Sort → Bool) (i : ℕ) {v : Bool} → vs ≡ ws → P (sort_at vs i) ≡ v → P (sort_at ws i) ≡ v
told_back {ws} {vs} P i {v} e h = subst (λ (x : List Word). P (sort_at x i) ≡ v) e h

pub told_at : {ws vs : List Word} {i j : ℕ} (P : Sort → Bool) {v : Bool} → ws ≡ vs → j ≡ i → P (sort_at ws i) ≡ v → P (sort_at vs j) ≡ v
told_at {ws} {vs} {i} {j} P {v} e f h = subst (λ (k : ℕ). P (sort_at vs k) ≡ v) (sym f) (told_back P i e h)

-- ---- single words

-- something that no words give
pub gives_none : {X : Type 0} {N : List Word → ℕ → ℕ → X → Type 0} {x : X} (a : Reader) → N a.words.now a.at a.at x → Gives N x a a
gives_none a n = record { words = refl; parts = refl; ends = λ h. h; given = n }

pub gives_over : {X : Type 0} {N : List Word → ℕ → ℕ → X → Type 0} {x : X} {n : ℕ} {a b : Reader} → Over n a b → N a.words.now a.at (a.at + n) x → Gives N x a b
gives_over {X} {N} {x} {n} {a} {b} o g = record {
  words = o.words;
  parts = o.parts;
  ends = λ _. o.ends;
  given = subst (λ (k : ℕ). N a.words.now a.at k x) o.at g;
}

pub over_taken : {a b c : Reader} {sort : Sort} {name : Name} → Bumps a b → Takes sort name b c → Over 2 a c
over_taken bumps takes = over_more (over_one bumps) takes.bumps

pub separator_read : {a b c : Reader} {name : Name} → sort_at a.words.now a.at ≡ sorts.Percent → Bumps a b → Takes sorts.Kind name b c → Gives Separated name a c
separator_read there bumps takes = gives_over (over_taken bumps takes) (by_token there (word_from (over_one bumps) takes.word))

pub no_separator : {ws : List Word} {i : ℕ} → sort_at ws i ≡ sorts.Percent → sort_at ws (i + 1) ≢ sorts.Kind → IsMissed Separated ws i
no_separator {ws} {i} e n = record { no = no }
  where
    no : (j : ℕ) (name : Name) → Separated ws i j name → ⊥
    no j name (by_comma m c) = m e
    no j name (by_token f w) = n (word_sort w)

pub guard_read : {a b c d : Reader} {name : Name} → sort_at a.words.now a.at ≡ sorts.At → Bumps a b → Takes sorts.Call name b c
    → Adds (parts.Guarded name) c d → Reads Guarding a d
guard_read there bumps takes adds = reads_part (over_taken bumps takes) adds (guarded there (word_from (over_one bumps) takes.word))

pub arrow_read : {a b c d e : Reader} {greater name : Name} → sort_at a.words.now a.at ≡ sorts.Equals → Bumps a b → Takes sorts.Greater greater b c
    → Takes sorts.Kind name c d → Adds (parts.Becomes name) d e → Reads Arrow a e
arrow_read there bumps greater takes adds =
    let two = over_taken bumps greater in
    reads_part (over_more two takes.bumps) adds (arrow there (sort_from (over_one bumps) greater.sort_is) (word_from two takes.word))

pub kind_read : {a b c : Reader} {name : Name} → Takes sorts.Kind name a b → Adds (parts.Kind name) b c → Reads OneKind a c
kind_read takes adds = reads_part (over_one takes.bumps) adds (kind takes.word)

-- ---- kinds

pub more_kinds_split : {ws : List Word} {i : ℕ} → sort_at ws i ≡ sorts.Or → Splits (behind_one OneKind) MoreKinds MoreKinds ws i
more_kinds_split e k rs (last_kind n) = absurd (n e)
more_kinds_split e k rs (next_kind f v w) = both v w

pub more_kinds_lead : {a b c d : Reader} → Leads MoreKinds MoreKinds a b → sort_at b.words.now b.at ≡ sorts.Or → Bumps b c → Reads OneKind c d
    → Leads MoreKinds MoreKinds a d
more_kinds_lead p there bumps r =
    leads_more p (behind bumps r) (λ k ps qs u v. next_kind there u v) (more_kinds_split there) (λ j k ps qs v w. same_kind v w)

pub kinds_split : {ws : List Word} {i : ℕ} → sort_at ws i ≡ sorts.OpenParen → Splits (behind_one OneKind) (Then MoreKinds (Sole sorts.CloseParen)) Kinds ws i
kinds_split e k rs (one_kind n v) = absurd (n e)
kinds_split e k rs (some_kinds f v w g) = both {qs = []} v (both w (sole g))

pub one_kind_split : {ws : List Word} {i : ℕ} → sort_at ws i ≢ sorts.OpenParen → Splits OneKind Stop Kinds ws i
one_kind_split n k rs (one_kind m v) = both v stop
one_kind_split n k rs (some_kinds e v w f) = absurd (n e)

pub kinds_read : {a b c d : Reader} {name : Name} → sort_at a.words.now a.at ≡ sorts.OpenParen → Reads (behind_one OneKind) a b → Reads MoreKinds b c
    → Takes sorts.CloseParen name c d → Reads Kinds a d
kinds_read {a} {b} {c} there first further close =
    let r : Reads (λ ws i k ps. sort_at ws k ≡ sorts.CloseParen → Kinds ws i (k + 1) ps) a c = reads_both first further (λ ps qs v w. some_kinds there v w) in
    reads_before r close.bumps (λ ps v. v (sort_back c.at r.words close.sort_is))

-- ---- words that aren't the end

pub item_is : (s : Sort) → begins_item s ≡ true → is_end s ≡ false
item_is s e = grind arith

pub sign_is : (s : Sort) {t : Sort} → s ≡ t → is_sign t ≡ true → is_end s ≡ false
sign_is s e f = grind arith
