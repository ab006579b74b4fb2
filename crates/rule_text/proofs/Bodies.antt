-- What the words of rules write, from reader to reader.
use Rattle.std.specs.Prelude.{◌≡◌, ◌≢◌, ℕ, ◌+◌, ◌-◌, ◌≤◌, Bool, true, false, Some, List, ◌∷◌, ◌++◌, length, Result, ⊤}
use Rattle.std.proofs.Common.{subst, ap, ◌∙◌, refl, arith}
use Rattle.rule_parts.specs.declared.Part.{Part}
use Rattle.rule_parts.specs.declared.Part.TheVariants as parts
use Rattle.rule_text.specs.declared.body.Level.{Level}
use Rattle.rule_text.specs.declared.error.WordError.{WordError}
use Rattle.rule_text.specs.declared.reader.Reader.{Reader}
use Rattle.rule_text.specs.declared.word.Word.{Word}
use Rattle.rule_text.specs.declared.word.Sort.{Sort}
use Rattle.rule_text.specs.declared.word.Sort.TheVariants as sorts
use Rattle.rule_text.specs.Reading.{Bumps, Decides, IsMissed, Operates, Reads, Wraps, behind_one, written_as}
use Rattle.rule_text.specs.Rules.{Body as bodies, MoreOperators, Operator, first_level, floor_of, is_level, next_level}
use Rattle.rule_text.specs.Rules.MoreOperators.{no_operator, operator}
use Rattle.rule_text.specs.Rules.Operator.{prefix, tail}
use Rattle.rule_text.specs.Written.{IsAfterBars, Written as forms, bar, begins_guard, sort_at}
use Rattle.rule_text.specs.Written.Form.{alternative, arm, arms, items}
use Rattle.rule_text.proofs.Leaves.{sort_back, still_after_bars, told_back}
use Rattle.rule_text.proofs.Decisions.{Leads, Splits, Stop, behind, decides_as, leads_more, miss_first, written_in}
use Rattle.rule_text.proofs.Reading.{reads_around, reads_as, reads_both, reads_none}
use Rattle.rule_text.proofs.Decisions.Stop.{stop}
use Rattle.rule_text.proofs.Decisions.Then.{both}
use Rattle.rule_text.proofs.Same.{bars, differ, one_bar, same, unlike}
use Rattle.rule_text.proofs.SameRules.{no_choice, no_level, no_operators, no_slash, one_level, same_operator}

-- ---- operators

prefix_split : {ws : List Word} {level : Level} {i : ℕ} → sort_at ws i ≢ sorts.Operand → Splits (written_as (arm true) (floor_of level)) Stop (Operator level) ws i
prefix_split n k rs (prefix m v) = both v stop
prefix_split n k rs (tail e v) = absurd (n e)

pub prefix_decided : {a b : Reader} {r : Result ⊤ WordError} {floor : ℕ} {level : Level} → floor ≡ floor_of level → sort_at a.words.now a.at ≢ sorts.Operand
    → Decides (written_as (arm true) floor) a b r → Decides (Operator level) a b r
prefix_decided {a} {b} {r} e n d =
    decides_as (subst (λ (f : ℕ). Decides (written_as (arm true) f) a b r) e d) (λ q. reads_as q (λ ps v. prefix n v)) (λ m. miss_first (prefix_split n) m)

pub tail_read : {a b c d : Reader} {floor start size : ℕ} {level : Level} → floor ≡ floor_of level → sort_at a.words.now a.at ≡ sorts.Operand → Bumps a b
    → Reads (written_as items floor) b c → start ≡ length b.parts.items → size ≡ length c.parts.items - start
    → Wraps start (parts.Tail level.number level.association size) c d → Reads (Operator level) a d
tail_read {a} {b} {c} {level = level} e there bumps r from sized wraps =
    let inner : Reads (behind_one (written_as items (floor_of level))) a c =
    behind bumps (subst (λ (f : ℕ). Reads (written_as items f) b c) e r) in
    reads_around (λ n. parts.Tail level.number level.association n) inner (from ∙ ap (λ (l : List Part). length l) bumps.parts) sized wraps
    (λ ps v. tail there v)

operators_split : {ws : List Word} {level next : Level} {i : ℕ} → next_level (sort_at ws i) level ≡ Some next
    → Splits (behind_one (Operator next)) (MoreOperators next) (MoreOperators level) ws i
operators_split {ws} {level} {next} {i} e k rs (no_operator f) = absurd (no_level (sort_at ws i) level e f)
operators_split {ws} {level} {next} {i} e k rs (operator {j = j} {ps = ps} {qs = qs} f v w) =
    let is = one_level (sort_at ws i) level f e in
    both (subst (λ (l : Level). Operator l ws (i + 1) j ps) is v) (subst (λ (l : Level). MoreOperators l ws j k qs) is w)

pub level_lead : {a b c d : Reader} {level next : Level} → Leads (MoreOperators level) (MoreOperators first_level) a b
    → next_level (sort_at b.words.now b.at) level ≡ Some next → Bumps b c → Reads (Operator next) c d
    → Leads (MoreOperators next) (MoreOperators first_level) a d
level_lead p e bumps r = leads_more p (behind bumps r) (λ k ps qs u v. operator e u v) (operators_split e) (λ j k ps qs v w. same_operator v w)

-- a level is the one before it, or the next
pub level_after : (s : Sort) (level : Level) {next : Level} → next_level s level ≡ Some next → next.number ≤ level.number + 1
level_after s level e = grind arith

-- ---- bodies

no_arms : {ws : List Word} {j k : ℕ} {ps : List Part} (ordered : Bool) → sort_at ws j ≡ bar ordered → IsMissed (written_as (arms true ordered) 0) ws j
    → forms ws 0 (arms true false) j k ps → is_level (sort_at ws k) ≡ true → ⊥
no_arms {k = k} {ps = ps} false e m v l = m.no k ps v
no_arms true e m v l = no_slash e v l

pub miss_body_arms : {ws : List Word} {i j : ℕ} {ps : List Part} (ordered : Bool) → forms ws 0 (alternative true) i j ps → sort_at ws j ≡ bar ordered
    → IsMissed (written_as (arms true ordered) 0) ws j → IsMissed bodies ws i
miss_body_arms {ws} {i} {j} ordered v e m = record { no = no }
  where
    no : (k : ℕ) (rs : List Part) → bodies ws i k rs → ⊥
    no k rs (bodies.only_one g w n l) = unlike ws (bar ordered) (same w v) (n ordered) e
    no k rs (bodies.one_of {j = p} {qs = qs} {ordered = o} (forms.one w) f x l) =
        let y = subst (λ (b : Bool). forms ws 0 (arms true b) p k qs) (one_bar ws o ordered (same w v) f e) x in
        m.no k qs (subst (λ (n : ℕ). forms ws 0 (arms true ordered) n k qs) (same w v) y)
    no k rs (bodies.operators {k = l} {qs = qs} (forms.one w) x f y) =
        no_arms ordered e m (subst (λ (n : ℕ). forms ws 0 (arms true false) n l qs) (same w v) x) f

-- where operators should come
pub miss_body_levels : {ws : List Word} {i j k : ℕ} {ps qs : List Part} → forms ws 0 (alternative true) i j ps → forms ws 0 (arms true false) j k qs
    → is_level (sort_at ws k) ≡ true → IsMissed (MoreOperators first_level) ws k → IsMissed bodies ws i
miss_body_levels {ws} {i} {j} {k} {ps} {qs} v rest e m = record { no = no }
  where
    no : (l : ℕ) (rs : List Part) → bodies ws i l rs → ⊥
    no l rs (bodies.only_one g w n f) = no_operators n f (subst (λ (n : ℕ). forms ws 0 (arms true false) n k qs) (same v w) rest) e
    no l rs (bodies.one_of {ordered = o} (forms.one w) f x g) =
        no_choice o f x g (subst (λ (n : ℕ). forms ws 0 (arms true false) n k qs) (same v w) rest) e
    no l rs (bodies.operators {k = p} {qs = os} {rs = ts} (forms.one w) x f y) =
        let ends = same (subst (λ (n : ℕ). forms ws 0 (arms true false) n p os) (same w v) x) rest in
        m.no l ts (subst (λ (n : ℕ). MoreOperators first_level ws n l ts) ends y)

pub miss_body_ordered : {ws : List Word} {i j k : ℕ} {ps qs : List Part} {ordered : Bool} → ordered ≡ true → forms ws 0 (alternative true) i j ps
    → sort_at ws j ≡ bar ordered → forms ws 0 (arms true ordered) j k qs → is_level (sort_at ws k) ≡ true → IsMissed bodies ws i
miss_body_ordered {ws} {i} {j} {k} {ps} {qs} {ordered} is v at_bar arms_of g = record { no = no }
  where
    e : sort_at ws j ≡ sorts.Slash
    e = at_bar ∙ ap bar is

    rest : forms ws 0 (arms true true) j k qs
    rest = subst (λ (o : Bool). forms ws 0 (arms true o) j k qs) is arms_of

    no : (l : ℕ) (rs : List Part) → bodies ws i l rs → ⊥
    no l rs (bodies.only_one g w n f) = unlike ws sorts.Slash (same w v) (n true) e
    no l rs (bodies.one_of {j = p} {qs = os} {ordered = o} (forms.one w) f x h) =
        let y = subst (λ (b : Bool). forms ws 0 (arms true b) p l os) (one_bar ws o true (same w v) f e) x in
        differ (λ n. is_level (sort_at ws n)) (same rest (subst (λ (n : ℕ). forms ws 0 (arms true true) n l os) (same w v) y)) g h
    no l rs (bodies.operators {k = n} {qs = os} (forms.one w) x f y) = no_slash e (subst (λ (m : ℕ). forms ws 0 (arms true false) m n os) (same w v) x) f

-- a guard or look in front of the only alternative
pub miss_body_sole : {ws : List Word} {i j : ℕ} {ps : List Part} → begins_guard (sort_at ws i) ≡ true → forms ws 0 (alternative true) i j ps
    → IsAfterBars ws j → is_level (sort_at ws j) ≡ false → IsMissed bodies ws i
miss_body_sole {ws} {i} {j} begins v bars ends = record { no = no }
  where
    no : (k : ℕ) (rs : List Part) → bodies ws i k rs → ⊥
    no k rs (bodies.only_one g w n f) = cc
    no k rs (bodies.one_of {ordered = o} (forms.one w) f x l) = unlike ws (bar o) (same v w) (bars o) f
    no k rs (bodies.operators {k = l} {qs = qs} (forms.one w) x f y) =
        no_operators bars ends (subst (λ (n : ℕ). forms ws 0 (arms true false) n l qs) (same w v) x) f

pub only_one_read : {a b : Reader} → begins_guard (sort_at a.words.now a.at) ≡ false → Reads (written_as (alternative true) 0) a b → IsAfterBars b.words.now b.at
    → is_level (sort_at b.words.now b.at) ≡ false → Reads bodies a b
only_one_read {b = b} g r bars ends = reads_as r (λ ps v. bodies.only_one g v (still_after_bars b.at r.words bars) (told_back is_level b.at r.words ends))

-- the arms after the first one, as they stand in all the words
pub rest_read : {a b c d : Reader} {start : ℕ} {part : Part} {ordered : Bool} → Reads (written_as (alternative true) 0) a b → Wraps start part b c
    → (r : Reads (written_as (arms true ordered) 0) c d) → forms a.words.now 0 (arms true ordered) b.at d.at r.parts
rest_read {a} {b} {c} {d} {ordered = ordered} first wraps r =
    subst (λ (n : ℕ). forms a.words.now 0 (arms true ordered) n d.at r.parts) wraps.at (written_in (wraps.words ∙ first.words) r)

-- no further operand
pub no_operand_more : {b : Reader} → IsAfterBars b.words.now b.at → Reads (written_as (arms true false) 0) b b
no_operand_more {b} n = reads_none b (forms.last (n false))

pub one_of_read : {a b c d : Reader} {start size : ℕ} {ordered : Bool} → Reads (written_as (arm true) 0) a b → sort_at b.words.now b.at ≡ bar ordered
    → Reads (written_as (arms true ordered) 0) b c → is_level (sort_at c.words.now c.at) ≡ false
    → start ≡ length a.parts.items → size ≡ length c.parts.items - start → Wraps start (parts.Choice size ordered) c d → Reads bodies a d
one_of_read {a} {b} {c} {ordered = ordered} first there rest ends from sized wraps =
    let ended = told_back is_level c.at (rest.words ∙ first.words) ends in
    let joined : Reads (λ ws i j qs. bodies ws i j (parts.Choice (length qs) ordered ∷ qs)) a c =
    reads_both first rest (λ ps qs v w. bodies.one_of v (sort_back b.at first.words there) w ended) in
    reads_around (λ n. parts.Choice n ordered) joined from sized wraps (λ ps v. v)

pub operators_read : {a b c d : Reader} {start : ℕ} → Reads (written_as (arm true) 0) a b → Reads (written_as (arms true false) 0) b c
    → is_level (sort_at c.words.now c.at) ≡ true → start ≡ length a.parts.items → Operates start c d → Reads bodies a d
operators_read {a} {b} {c} first rest begins from o =
    let begun = told_back is_level c.at (rest.words ∙ first.words) begins in
    let operands : Reads (λ ws i k qs. (l : ℕ) (rs : List Part) → MoreOperators first_level ws k l rs → bodies ws i l (parts.Operators (length (qs ++ rs)) ∷ qs ++ rs)) a c
    = reads_both first rest (λ ps qs v w l rs x. bodies.operators v w begun x) in
    let joined : Reads (λ ws i j qs. bodies ws i j (parts.Operators (length qs) ∷ qs)) a o.between =
    reads_both operands o.reads (λ ps qs v w. v o.between.at qs w) in
    reads_around (λ n. parts.Operators n) joined from refl o.wraps (λ ps v. v)
