-- What the words of an expression write, from reader to reader.
use Rattle.std.specs.Prelude.{◌≡◌, ◌≢◌, ℕ, ◌+◌, ◌-◌, Bool, true, false, List, [], ◌∷◌, ◌++◌, drop, length, Result, ⊤}
use Rattle.std.proofs.Common.{sym, subst, ap, ◌∙◌, refl}
use Rattle.rule_parts.specs.declared.Part.{Part}
use Rattle.rule_parts.specs.declared.Part.TheVariants as parts
use Rattle.rule_parts.specs.declared.Name.{Name}
use Rattle.rule_text.specs.declared.error.WordError.{WordError}
use Rattle.rule_text.specs.declared.reader.Reader.{Reader}
use Rattle.rule_text.specs.declared.word.Word.{Word}
use Rattle.rule_text.specs.declared.word.Sort.{Sort}
use Rattle.rule_text.specs.declared.word.Sort.TheVariants as sorts
use Rattle.rule_text.specs.Reading.{Bumps, Decides, Gives, IsMissed, One, Reads, Takes, Wraps, behind_one, of_word, only, written_as}
use Rattle.rule_text.specs.Reading.One.{one as one_word}
use Rattle.rule_text.specs.Written.{Arrow, Form, Greedy, Guarding, IsAfterBars, Separated, Written, as_node, bar, begins_guard, begins_item, is_sign, names_kind, sign_part, sort_at}
use Rattle.rule_text.specs.Written.Form.{alternative, alternatives, arm, arms, atom, item, items, sequence}
use Rattle.rule_text.specs.Written.{Written as forms}
use Rattle.rule_text.proofs.Decisions.Then.{both}
use Rattle.rule_text.proofs.Decisions.Sole.{sole}
use Rattle.rule_text.proofs.Decisions.Stop.{stop}
use Rattle.rule_text.proofs.Decisions.{Leads, Sole, Splits, Stop, behind, decides_as, leads_more}
use Rattle.rule_text.proofs.Reading.{drop_all, longer_by, reads_around, reads_as, reads_before, reads_both, reads_with}
use Rattle.rule_text.proofs.Same.{one_bar, same, same_separated, unlike}
use Rattle.rule_text.proofs.Leaves.{sort_back}

-- ---- atoms

pub arrow_split : {ws : List Word} {floor i : ℕ} → Splits Arrow Stop (written_as (atom sorts.Equals) floor) ws i
arrow_split k rs (forms.becomes v) = both v stop

pub group_split : {ws : List Word} {floor i : ℕ}
    → Splits (behind_one (written_as alternatives floor)) (Sole sorts.CloseParen) (written_as (atom sorts.OpenParen) floor) ws i
group_split k rs (forms.group v e) = both v (sole e)

pub group_read : {a b c : Reader} {name : Name} {floor : ℕ} → Reads (behind_one (written_as alternatives floor)) a b → Takes sorts.CloseParen name b c
    → Reads (written_as (atom sorts.OpenParen) floor) a c
group_read {b = b} r close = reads_before r close.bumps (λ ps v. forms.group v (sort_back b.at r.words close.sort_is))

-- after the arguments of a list
pub data ListEnd (ws : List Word) (i : ℕ) : ℕ → List Part → Type 0 where
  list_end : {k : ℕ} {separator : Name} → Separated ws i k separator → sort_at ws k ≡ sorts.CloseBrace → ListEnd ws i (k + 1) []

pub list_split : {ws : List Word} {floor i : ℕ}
    → Splits (behind_one (written_as alternatives floor)) ListEnd (written_as (atom sorts.OpenBrace) floor) ws i
list_split k rs (forms.list v s e) = both v (list_end s e)

pub miss_separator : {ws : List Word} {i : ℕ} → IsMissed Separated ws i → IsMissed ListEnd ws i
miss_separator {ws} {i} m = record { no = no }
  where
    no : (k : ℕ) (rs : List Part) → ListEnd ws i k rs → ⊥
    no _ _ (list_end {k = k} {separator = x} s e) = m.no k x s

pub miss_brace : {ws : List Word} {i j : ℕ} {name : Name} → Separated ws i j name → sort_at ws j ≢ sorts.CloseBrace → IsMissed ListEnd ws i
miss_brace {ws} {i} {j} s n = record { no = no }
  where
    no : (k : ℕ) (rs : List Part) → ListEnd ws i k rs → ⊥
    no _ _ (list_end t e) = n (subst (λ (k : ℕ). sort_at ws k ≡ sorts.CloseBrace) (same_separated t s) e)

pub list_read : {a b c d e : Reader} {close separator : Name} {start size floor : ℕ}
    → Reads (behind_one (written_as alternatives floor)) a b → Gives Separated separator b c → Takes sorts.CloseBrace close c d
    → start ≡ length a.parts.items → size ≡ length d.parts.items - start → Wraps start (parts.List size separator) d e
    → Reads (written_as (atom sorts.OpenBrace) floor) a e
list_read {a} {b} {c} {d} {e} {close} {separator} {start} {size} {floor} r separates takes from sized wraps =
    let words : c.words.now ≡ a.words.now = separates.words ∙ r.words in
    let is_added : d.parts.items ≡ a.parts.items ++ r.parts = takes.bumps.parts ∙ (separates.parts ∙ r.added) in
    let inner : Reads (λ ws i k ps. Written ws floor alternatives (i + 1) b.at ps) a d = record {
      words = takes.bumps.words ∙ words;
      parts = r.parts;
      added = is_added;
      longer = longer_by a.parts.items r.parts d.parts.items is_added;
      ends = λ _. takes.bumps.ends;
      written = r.written;
    } in
    let named : Separated a.words.now b.at c.at separator = subst (λ (x : List Word). Separated x b.at c.at separator) r.words separates.given in
    reads_around (λ n. parts.List n separator) inner from sized wraps
    (λ ps v. subst (λ (m : ℕ). Written a.words.now floor (atom sorts.OpenBrace) a.at m (parts.List (length ps) separator ∷ ps)) (sym takes.bumps.at)
    (forms.list v named (sort_back c.at words takes.sort_is)))

-- a word that is a part
pub one_read : {a b : Reader} {part : Part} {form : Form} {floor : ℕ} → Written a.words.now floor form a.at (a.at + 1) (part ∷ [])
    → Reads (only part) a b → Reads (written_as form floor) a b
one_read {a} {b} {part} {form} {floor} v r = reads_as r (λ ps o. along o)
  where
    along : {k : ℕ} {ps : List Part} → One part a.at k ps → Written a.words.now floor form a.at k ps
    along one_word = v

pub one_as : {a b : Reader} {r : Result ⊤ WordError} {part : Part} {form : Form} {floor : ℕ} → Written a.words.now floor form a.at (a.at + 1) (part ∷ [])
    → Decides (only part) a b r → Decides (written_as form floor) a b r
one_as {a} {part = part} v d = decides_as d (λ r. one_read v r) (λ m. absurd (m.no (a.at + 1) (part ∷ []) one_word))

-- an atom that begins with a word of this sort
pub atom_decided : {a b : Reader} {r : Result ⊤ WordError} {sort : Sort} {floor : ℕ} → sort_at a.words.now a.at ≡ sort
    → Decides (written_as (atom sort) floor) a b r → Decides (of_word floor) a b r
atom_decided {a} {b} {sort = sort} {floor = floor} there d =
    decides_as d (λ r. reads_as r (λ ps v. subst (λ (s : Sort). Written a.words.now floor (atom s) a.at b.at ps) (sym there) v))
    (λ m. record { no = λ k ps v. m.no k ps (subst (λ (s : Sort). Written a.words.now floor (atom s) a.at k ps) there v) })

pub no_atom : {ws : List Word} {floor i k : ℕ} {s : Sort} {ps : List Part} → s ≢ sorts.Kind → s ≢ sorts.Class → s ≢ sorts.Call → s ≢ sorts.Operand
    → s ≢ sorts.Equals → s ≢ sorts.Tilde → s ≢ sorts.OpenParen → s ≢ sorts.OpenBrace → Written ws floor (atom s) i k ps → ⊥
no_atom n1 n2 n3 n4 n5 n6 n7 n8 (forms.token w) = n1 refl
no_atom n1 n2 n3 n4 n5 n6 n7 n8 (forms.class w) = n2 refl
no_atom n1 n2 n3 n4 n5 n6 n7 n8 (forms.call w) = n3 refl
no_atom n1 n2 n3 n4 n5 n6 n7 n8 (forms.operand h) = n4 refl
no_atom n1 n2 n3 n4 n5 n6 n7 n8 (forms.becomes v) = n5 refl
no_atom n1 n2 n3 n4 n5 n6 n7 n8 (forms.is v) = n6 refl
no_atom n1 n2 n3 n4 n5 n6 n7 n8 (forms.group v e) = n7 refl
no_atom n1 n2 n3 n4 n5 n6 n7 n8 (forms.list v s e) = n8 refl

-- ---- items

pub signed_read : {a b c d e : Reader} {start size floor : ℕ} {sign : Sort} {greedy : Bool} → Reads (of_word floor) a b → sort_at b.words.now b.at ≡ sign
    → is_sign sign ≡ true → Bumps b c → Gives Greedy greedy c d → start ≡ length a.parts.items → size ≡ length b.parts.items - start
    → Wraps start (sign_part sign size greedy) d e → Reads (written_as item floor) a e
signed_read {a} {b} {c} {d} {e} {start} {size} {floor} {sign} {greedy} r there marks bumps g from sized wraps =
    let words : c.words.now ≡ a.words.now = bumps.words ∙ r.words in
    let same_parts : d.parts.items ≡ b.parts.items = g.parts ∙ bumps.parts in
    let at_sign : sort_at a.words.now b.at ≡ sign = sort_back b.at r.words there in
    let given : Greedy a.words.now (b.at + 1) d.at greedy = subst (λ (n : ℕ). Greedy a.words.now n d.at greedy) bumps.at
    (subst (λ (x : List Word). Greedy x c.at d.at greedy) words g.given) in
    let inner : Reads (λ ws i k ps. Written ws floor item i k (sign_part sign (length ps) greedy ∷ ps)) a d = record {
      words = g.words ∙ words;
      parts = r.parts;
      added = same_parts ∙ r.added;
      longer = longer_by a.parts.items r.parts d.parts.items (same_parts ∙ r.added);
      ends = λ _. g.ends bumps.ends;
      written = subst (λ (s : Sort). Written a.words.now floor item a.at d.at (sign_part s (length r.parts) greedy ∷ r.parts)) at_sign
          (forms.signed r.written (ap is_sign at_sign ∙ marks) given);
    } in
    reads_around (λ n. sign_part sign n greedy) inner from (sized ∙ ap (λ (l : List Part). length l - start) (sym same_parts)) wraps (λ ps v. v)

pub items_split : {ws : List Word} {floor i : ℕ} → begins_item (sort_at ws i) ≡ true → Splits (written_as item floor) (written_as items floor) (written_as items floor) ws i
items_split b k rs (forms.none e) = cc
items_split b k rs (forms.more v w) = both v w

pub items_lead : {a b c : Reader} {floor : ℕ} → Leads (written_as items floor) (written_as items floor) a b → begins_item (sort_at b.words.now b.at) ≡ true
    → Reads (written_as item floor) b c → Leads (written_as items floor) (written_as items floor) a c
items_lead p begins r = leads_more p r (λ k ps qs u v. forms.more u v) (items_split begins) (λ j k ps qs v w. same v w)

pub guard_split : {ws : List Word} {floor i : ℕ} {of_rule : Bool}
    → Splits Guarding (written_as (sequence of_rule) floor) (written_as (alternative of_rule) floor) ws i
guard_split k rs (forms.guarded g v) = both g v

-- ---- alternatives

unnoded : (of_rule : Bool) → of_rule ≡ false → (ps : List Part) → as_node of_rule ps ≡ ps
unnoded true e ps = cc
unnoded false e ps = refl

unnamed : (of_rule : Bool) (ps : List Part) → names_kind ps ≡ false → as_node of_rule ps ≡ ps
unnamed true ps e = rw e refl
unnamed false ps e = refl

noded : (of_rule : Bool) → of_rule ≡ true → (ps : List Part) → names_kind ps ≡ true → as_node of_rule ps ≡ parts.Node (length ps) ∷ ps
noded true f ps e = rw e refl
noded false f ps e = cc

named : (xs ys : List Part) {zs : List Part} {start : ℕ} {flag v : Bool} → zs ≡ xs ++ ys → start ≡ length xs → flag ≡ names_kind (drop start zs) → flag ≡ v
    → names_kind ys ≡ v
named xs ys {zs} {start} {flag} {v} e from told is =
    let rest : drop start zs ≡ ys = ap (λ (n : ℕ). drop n zs) from ∙ (ap (λ (l : List Part). drop (length xs) l) e ∙ drop_all xs ys) in
    sym (ap names_kind rest) ∙ (sym told ∙ is)

pub group_read_as : {a b : Reader} {floor : ℕ} {of_rule : Bool} → Reads (written_as items floor) a b → of_rule ≡ false
    → Reads (written_as (sequence of_rule) floor) a b
group_read_as {a} {b} {floor} {of_rule} r e =
    reads_as r (λ ps v. subst (λ (l : List Part). Written a.words.now floor (sequence of_rule) a.at b.at l) (unnoded of_rule e ps) (forms.all v))

pub plain_read : {a b : Reader} {start floor : ℕ} {of_rule flag : Bool} → Reads (written_as items floor) a b → start ≡ length a.parts.items
    → flag ≡ names_kind (drop start b.parts.items) → flag ≡ false → Reads (written_as (sequence of_rule) floor) a b
plain_read {a} {b} {start} {floor} {of_rule} r from told is =
    reads_as (reads_with (λ ps. names_kind ps ≡ false) r (named a.parts.items r.parts r.added from told is))
    (λ ps v. subst (λ (l : List Part). Written a.words.now floor (sequence of_rule) a.at b.at l) (unnamed of_rule ps v.1) (forms.all v.0))

pub node_read : {a b c : Reader} {start size floor : ℕ} {of_rule flag : Bool} → Reads (written_as items floor) a b → start ≡ length a.parts.items
    → of_rule ≡ true → flag ≡ names_kind (drop start b.parts.items) → flag ≡ true → size ≡ length b.parts.items - start
    → Wraps start (parts.Node size) b c → Reads (written_as (sequence of_rule) floor) a c
node_read {a} {b} {c} {start} {size} {floor} {of_rule} r from rules told is sized wraps =
    reads_around (λ n. parts.Node n) (reads_with (λ ps. names_kind ps ≡ true) r (named a.parts.items r.parts r.added from told is)) from sized wraps
    (λ ps v. subst (λ (l : List Part). Written a.words.now floor (sequence of_rule) a.at b.at l) (noded of_rule rules ps v.1) (forms.all v.0))

pub arm_read : {a b c : Reader} {start size floor : ℕ} {of_rule : Bool} → Reads (written_as (alternative of_rule) floor) a b
    → start ≡ length a.parts.items → size ≡ length b.parts.items - start → Wraps start (parts.Arm size) b c → Reads (written_as (arm of_rule) floor) a c
arm_read r from sized wraps = reads_around (λ n. parts.Arm n) r from sized wraps (λ ps v. forms.one v)

pub choice_read : {a b c d : Reader} {start size floor : ℕ} {ordered : Bool} → Reads (written_as (arm false) floor) a b
    → sort_at b.words.now b.at ≡ bar ordered → Reads (written_as (arms false ordered) floor) b c
    → start ≡ length a.parts.items → size ≡ length c.parts.items - start → Wraps start (parts.Choice size ordered) c d
    → Reads (written_as alternatives floor) a d
choice_read {a} {b} {c} {d} {start} {size} {floor} {ordered} first there rest from sized wraps =
    let joined : Reads (λ ws i k qs. Written ws floor alternatives i k (parts.Choice (length qs) ordered ∷ qs)) a c =
    reads_both first rest (λ ps qs v w. forms.choice v (sort_back b.at first.words there) w) in
    reads_around (λ n. parts.Choice n ordered) joined from sized wraps (λ ps v. v)

pub arms_split : {ws : List Word} {floor i : ℕ} {of_rule ordered : Bool} → sort_at ws i ≡ bar ordered
    → Splits (behind_one (written_as (arm of_rule) floor)) (written_as (arms of_rule ordered) floor) (written_as (arms of_rule ordered) floor) ws i
arms_split e k rs (forms.last n) = absurd (n e)
arms_split e k rs (forms.next f v w) = both v w

pub arms_lead : {a b c d : Reader} {floor : ℕ} {of_rule ordered : Bool}
    → Leads (written_as (arms of_rule ordered) floor) (written_as (arms of_rule ordered) floor) a b → sort_at b.words.now b.at ≡ bar ordered → Bumps b c
    → Reads (written_as (arm of_rule) floor) c d → Leads (written_as (arms of_rule ordered) floor) (written_as (arms of_rule ordered) floor) a d
arms_lead p there bumps r = leads_more p (behind bumps r) (λ k ps qs u v. forms.next there u v) (arms_split there) (λ j k ps qs v w. same v w)

-- a guard or look in front of the only alternative
pub miss_sole_arm : {ws : List Word} {floor i j : ℕ} {ps : List Part} → begins_guard (sort_at ws i) ≡ true → Written ws floor (alternative false) i j ps
    → IsAfterBars ws j → IsMissed (written_as alternatives floor) ws i
miss_sole_arm {ws} {floor} {i} {j} begins v bars = record { no = no }
  where
    no : (k : ℕ) (rs : List Part) → Written ws floor alternatives i k rs → ⊥
    no k rs (forms.alone g w f) = cc
    no k rs (forms.choice {ordered = o} (forms.one w) f x) = absurd (unlike ws (bar o) (same v w) (bars o) f)

pub miss_arms : {ws : List Word} {floor i j : ℕ} {ps : List Part} (ordered : Bool) → Written ws floor (alternative false) i j ps → sort_at ws j ≡ bar ordered
    → IsMissed (written_as (arms false ordered) floor) ws j → IsMissed (written_as alternatives floor) ws i
miss_arms {ws} {floor} {i} {j} ordered v e m = record { no = no }
  where
    no : (k : ℕ) (rs : List Part) → Written ws floor alternatives i k rs → ⊥
    no k rs (forms.alone g w f) = absurd (unlike ws (bar ordered) (same w v) (f ordered) e)
    no k rs (forms.choice {j = l} {qs = qs} {ordered = o} (forms.one w) f x) =
        let is = one_bar ws o ordered (same w v) f e in
        m.no k qs (subst (λ (b : Bool). Written ws floor (arms false b) j k qs) is (subst (λ (n : ℕ). Written ws floor (arms false o) n k qs) (same w v) x))
