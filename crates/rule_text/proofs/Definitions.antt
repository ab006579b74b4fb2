-- What the words of classes and rules write, from reader to reader.
use Rattle.std.specs.Prelude.{◌≡◌, ◌≢◌, ℕ, ◌+◌, ◌-◌, ◌<◌, ◌≤◌, false, List, [], ◌∷◌, ◌++◌, length, Result, ⊤}
use Rattle.std.proofs.Common.{sym, subst, ap, ◌∙◌, refl, arith}
use Rattle.rule_parts.specs.declared.Name.{Name}
use Rattle.rule_parts.specs.declared.Part.{Part}
use Rattle.rule_parts.specs.declared.Part.TheVariants as parts
use Rattle.rule_text.specs.declared.error.WordError.{WordError}
use Rattle.rule_text.specs.declared.reader.Reader.{Reader}
use Rattle.rule_text.specs.declared.word.Word.{Word}
use Rattle.rule_text.specs.declared.word.Sort.{Sort}
use Rattle.rule_text.specs.declared.word.Sort.TheVariants as sorts
use Rattle.rule_text.specs.Reading.{Adds, Bumps, Decides, Gives, IsMissed, Reads, Takes, Wraps, of_first}
use Rattle.rule_text.specs.Rules.{Body, Called, Definition as definitions, Guards, Head, Member, Members, RuleHead, Rules, Texts}
use Rattle.rule_text.specs.Rules.Head.{head}
use Rattle.rule_text.specs.Rules.Member.{given, kind, other, without}
use Rattle.rule_text.specs.Rules.Members.{becomes, member, no_member}
use Rattle.rule_text.specs.Rules.RuleHead.{rule_head}
use Rattle.rule_text.specs.Rules.Rules.{no_rule, one_more}
use Rattle.rule_text.specs.Rules.Texts.{no_text, text}
use Rattle.rule_text.specs.Written.{Arrow, IsWord, is_end, sort_at}
use Rattle.rule_text.specs.Written.Arrow.{arrow}
use Rattle.rule_text.proofs.Leaves.{gives_over, over_taken, sort_back}
use Rattle.rule_text.proofs.Decisions.{Leads, Splits, Stop, decides_as, leads_more, miss_first}
use Rattle.rule_text.proofs.Reading.{longer_by, over_more, over_one, reads_around, reads_as, reads_one, reads_part, sort_from, word_from, word_sort}
use Rattle.rule_text.proofs.Decisions.Stop.{stop}
use Rattle.rule_text.proofs.Decisions.Then.{both}
use Rattle.rule_text.proofs.SameRules.{no_equals, same_called, same_definition, same_head, same_rule_head}

-- ---- members

-- a word that is a member isn't the end
pub member_is : {ws : List Word} {i : ℕ} {part : Part} → Member ws i part → is_end (sort_at ws i) ≡ false
member_is (kind w) = ap is_end (word_sort w)
member_is (other w) = ap is_end (word_sort w)
member_is (given w) = ap is_end (word_sort w)
member_is (without e) = ap is_end e

pub data OneMember (ws : List Word) (i : ℕ) : ℕ → List Part → Type 0 where
  one_member : {part : Part} → Member ws i part → OneMember ws i (i + 1) (part ∷ [])

same_member : {ws : List Word} {i j k : ℕ} {ps qs : List Part} → OneMember ws i j ps → OneMember ws i k qs → j ≡ k
same_member (one_member v) (one_member w) = refl

members_split : {ws : List Word} {i : ℕ} {part : Part} → Member ws i part → Splits OneMember Members Members ws i
members_split {part = part} v k rs (no_member n m) = absurd (n part v)
members_split v k rs (member w x) = both (one_member w) x
members_split v k rs (becomes (arrow e f w)) = absurd (no_equals v e)

joined : {ws : List Word} {i j k : ℕ} {ps qs : List Part} → OneMember ws i j ps → Members ws j k qs → Members ws i k (ps ++ qs)
joined (one_member v) w = member v w

pub member_lead : {a b c d : Reader} {part : Part} → Leads Members Members a b → Member b.words.now b.at part → Adds part b c → Bumps c d
    → Leads Members Members a d
member_lead p there adds bumps =
    leads_more p (reads_one adds bumps (one_member there)) (λ k ps qs u v. joined u v) (members_split there) (λ j k ps qs v w. same_member v w)

arrow_split : {ws : List Word} {i : ℕ} → sort_at ws i ≡ sorts.Equals → Splits Arrow Stop Members ws i
arrow_split e k rs (no_member n m) = absurd (m e)
arrow_split e k rs (member v w) = absurd (no_equals v e)
arrow_split e k rs (becomes v) = both v stop

pub becomes_decided : {a b : Reader} {r : Result ⊤ WordError} → sort_at a.words.now a.at ≡ sorts.Equals → Decides Arrow a b r → Decides Members a b r
becomes_decided there d = decides_as d (λ r. reads_as r (λ ps v. becomes v)) (λ m. miss_first (arrow_split there) m)

-- ---- texts

pub data OneText (ws : List Word) (i : ℕ) : ℕ → List Part → Type 0 where
  one_text : {name : Name} → IsWord ws i sorts.Call name → OneText ws i (i + 1) (parts.Token name ∷ [])

same_text : {ws : List Word} {i j k : ℕ} {ps qs : List Part} → OneText ws i j ps → OneText ws i k qs → j ≡ k
same_text (one_text v) (one_text w) = refl

texts_split : {ws : List Word} {i : ℕ} → sort_at ws i ≡ sorts.Call → Splits OneText Texts Texts ws i
texts_split e k rs (no_text n) = absurd (n e)
texts_split e k rs (text w v) = both (one_text w) v

text_joined : {ws : List Word} {i j k : ℕ} {ps qs : List Part} → OneText ws i j ps → Texts ws j k qs → Texts ws i k (ps ++ qs)
text_joined (one_text v) w = text v w

pub text_lead : {a b c d : Reader} {name : Name} → Leads Texts Texts a b → IsWord b.words.now b.at sorts.Call name → Adds (parts.Token name) b c → Bumps c d
    → Leads Texts Texts a d
text_lead p there adds bumps =
    leads_more p (reads_one adds bumps (one_text there)) (λ k ps qs u v. text_joined u v) (texts_split (word_sort there)) (λ j k ps qs v w. same_text v w)

-- ---- heads

pub head_read : {a b c d : Reader} {name equals : Name} {sort : Sort} → Bumps a b → Takes sort name b c → Takes sorts.Equals equals c d
    → Gives (Head sort) name a d
head_read bumps named equals =
    let two = over_taken bumps named in
    gives_over (over_more two equals.bumps) (head (word_from (over_one bumps) named.word) (sort_from two equals.sort_is))

pub no_name : {ws : List Word} {i : ℕ} {sort : Sort} → sort_at ws (i + 1) ≢ sort → IsMissed (Head sort) ws i
no_name {ws} {i} {sort} n = record { no = no }
  where
    no : (j : ℕ) (name : Name) → Head sort ws i j name → ⊥
    no _ name (head w e) = n (word_sort w)

-- what is read after some words, as it stands where they begin
pub from_start : {W : List Word → ℕ → ℕ → List Part → Type 0} {a b c : Reader} → b.words.now ≡ a.words.now → b.parts.items ≡ a.parts.items
    → (a.at ≤ length a.words.now → b.at ≤ length b.words.now) → Reads (λ ws i j ps. W a.words.now a.at j ps) b c → Reads W a c
from_start {W} {a} {b} {c} words same ends r = record {
  words = r.words ∙ words;
  parts = r.parts;
  added = r.added ∙ ap (λ (l : List Part). l ++ r.parts) same;
  longer = longer_by a.parts.items r.parts c.parts.items (r.added ∙ ap (λ (l : List Part). l ++ r.parts) same);
  ends = λ h. r.ends (ends h);
  written = r.written;
}

-- a part after a name and =, around what is read after them
pub headed : {V W : List Word → ℕ → ℕ → List Part → Type 0} {N : List Word → ℕ → ℕ → Name → Type 0} {a b c d : Reader} {start size : ℕ} {name : Name}
    (part : ℕ → Part) → Gives N name a b → Reads V b c → start ≡ length b.parts.items → size ≡ length c.parts.items - start → Wraps start (part size) c d
    → ((ps : List Part) → N a.words.now a.at b.at name → V a.words.now b.at c.at ps → W a.words.now a.at c.at (part (length ps) ∷ ps)) → Reads W a d
headed {V} {W} {N} {a} {b} {c} part g r from sized wraps f =
    let inner : Reads (λ ws i j ps. W a.words.now a.at j ps) b _ = reads_around part r from sized wraps
    (λ ps v. f ps g.given (subst (λ (x : List Word). V x b.at c.at ps) g.words v)) in
    from_start g.words g.parts g.ends inner

-- ---- definitions

pub miss_members : {ws : List Word} {i j : ℕ} {name : Name} → Head sorts.Class ws i j name → IsMissed Members ws j → IsMissed (definitions sorts.ClassOf) ws i
miss_members {ws} {i} {j} h m = record { no = no }
  where
    no : (k : ℕ) (rs : List Part) → definitions sorts.ClassOf ws i k rs → ⊥
    no k rs (definitions.class_of {ps = ps} g v) = m.no k ps (subst (λ (n : ℕ). Members ws n k ps) (same_head g h) v)

pub miss_texts : {ws : List Word} {i j : ℕ} {name : Name} → Head sorts.Class ws i j name → IsMissed Texts ws j → IsMissed (definitions sorts.WordsOf) ws i
miss_texts {ws} {i} {j} h m = record { no = no }
  where
    no : (k : ℕ) (rs : List Part) → definitions sorts.WordsOf ws i k rs → ⊥
    no k rs (definitions.words_of {ps = ps} g v) = m.no k ps (subst (λ (n : ℕ). Texts ws n k ps) (same_head g h) v)

pub miss_guards : {a b : Reader} {name : Name} → Gives (Head sorts.Call) name a b → ((first next : Name) → Guards b.words.now b.at first next → ⊥)
    → IsMissed (definitions sorts.GuardOf) a.words.now a.at
miss_guards {a} {b} h n = record { no = no }
  where
    no : (k : ℕ) (rs : List Part) → definitions sorts.GuardOf a.words.now a.at k rs → ⊥
    no _ rs (definitions.guard_of {first = first} {next = next} g v) =
        n first next (subst (λ (x : List Word). Guards x b.at first next) (sym h.words)
        (subst (λ (j : ℕ). Guards a.words.now j first next) (same_head g h.given) v))

pub guard_read : {a b c d e f g : Reader} {name first next opens closes : Name} → Gives (Head sorts.Call) name a b → Takes sorts.OpenParen opens b c
    → Takes sorts.Class first c d → Takes sorts.CloseParen closes d e → Takes sorts.Class next e f → Adds (parts.Guard name first next) f g
    → Reads (definitions sorts.GuardOf) a g
guard_read {a} {b} {name = name} {first = first} {next = next} h opens one closes last adds =
    let over1 = over_one opens.bumps in
    let over2 = over_more over1 one.bumps in
    let over3 = over_more over2 closes.bumps in
    let guards : Guards b.words.now b.at first next = record {
      begins = opens.sort_is;
      one = word_from over1 one.word;
      ends = sort_from over2 closes.sort_is;
      other = word_from over3 last.word;
    } in
    let inner : Reads (λ ws i j ps. definitions sorts.GuardOf a.words.now a.at j ps) b _ = reads_part (over_more over3 last.bumps) adds
    (definitions.guard_of h.given (subst (λ (x : List Word). Guards x b.at first next) h.words guards)) in
    from_start h.words h.parts h.ends inner

pub rule_head_read : {a b c d : Reader} {name message equals : Name} → IsWord a.words.now a.at sorts.Rule name → Bumps a b → Gives (Called name) message b c
    → Takes sorts.Equals equals c d → Gives (RuleHead name) message a d
rule_head_read {a} {b} {c} {d} {name} {message} w bumps called equals =
    let words : c.words.now ≡ a.words.now = called.words ∙ bumps.words in
    let named : Called name a.words.now (a.at + 1) c.at message = subst (λ (k : ℕ). Called name a.words.now k c.at message) bumps.at
    (subst (λ (x : List Word). Called name x b.at c.at message) bumps.words called.given) in
    record {
      words = equals.bumps.words ∙ words;
      parts = equals.bumps.parts ∙ (called.parts ∙ bumps.parts);
      ends = λ _. equals.bumps.ends;
      given = subst (λ (k : ℕ). RuleHead name a.words.now a.at k message) (sym equals.bumps.at) (rule_head w named (sort_back c.at words equals.sort_is));
    }

pub miss_rule_equals : {a b c : Reader} {name message : Name} → Bumps a b → Gives (Called name) message b c → sort_at c.words.now c.at ≢ sorts.Equals
    → IsMissed (definitions sorts.Rule) a.words.now a.at
miss_rule_equals {a} {b} {c} {name} {message} bumps called n = record { no = no }
  where
    named : Called name a.words.now (a.at + 1) c.at message
    named = subst (λ (k : ℕ). Called name a.words.now k c.at message) bumps.at
        (subst (λ (x : List Word). Called name x b.at c.at message) bumps.words called.given)

    no : (k : ℕ) (rs : List Part) → definitions sorts.Rule a.words.now a.at k rs → ⊥
    no k rs (definitions.rule (rule_head w d e) v) =
        n (subst (λ (x : List Word). sort_at x c.at ≡ sorts.Equals) (sym (called.words ∙ bumps.words))
        (subst (λ (j : ℕ). sort_at a.words.now j ≡ sorts.Equals) (same_called d named) e))

pub miss_body : {ws : List Word} {i j : ℕ} {name message : Name} → RuleHead name ws i j message → IsMissed Body ws j → IsMissed (definitions sorts.Rule) ws i
miss_body {ws} {i} {j} h m = record { no = no }
  where
    no : (k : ℕ) (rs : List Part) → definitions sorts.Rule ws i k rs → ⊥
    no k rs (definitions.rule {ps = ps} g v) = m.no k ps (subst (λ (n : ℕ). Body ws n k ps) (same_rule_head g h) v)

-- a definition that begins with a word of this sort
pub first_decided : {a b : Reader} {r : Result ⊤ WordError} {sort : Sort} → sort_at a.words.now a.at ≡ sort → Decides (definitions sort) a b r
    → Decides of_first a b r
first_decided {a} {b} there d =
    decides_as d (λ r. reads_as r (λ ps v. subst (λ (s : Sort). definitions s a.words.now a.at b.at ps) (sym there) v))
    (λ m. record { no = λ k ps v. m.no k ps (subst (λ (s : Sort). definitions s a.words.now a.at k ps) there v) })

pub no_definition : {ws : List Word} {i k : ℕ} {s : Sort} {ps : List Part} → s ≢ sorts.ClassOf → s ≢ sorts.WordsOf → s ≢ sorts.GuardOf → s ≢ sorts.Rule
    → definitions s ws i k ps → ⊥
no_definition n1 n2 n3 n4 (definitions.class_of h v) = n1 refl
no_definition n1 n2 n3 n4 (definitions.words_of h v) = n2 refl
no_definition n1 n2 n3 n4 (definitions.guard_of h v) = n3 refl
no_definition n1 n2 n3 n4 (definitions.rule h v) = n4 refl

rules_split : {ws : List Word} {i : ℕ} → i < length ws → Splits of_first Rules Rules ws i
rules_split h k rs (no_rule g) = absurd (omega (arith, h, g))
rules_split h k rs (one_more v w) = both v w

pub rule_lead : {a b c : Reader} → Leads Rules Rules a b → b.at < length b.words.now → Reads of_first b c → Leads Rules Rules a c
rule_lead p here r = leads_more p r (λ k ps qs u v. one_more u v) (rules_split here) (λ j k ps qs v w. same_definition v w)
