-- What may come after some words, and what calls decide, one after another.
use Rattle.std.specs.Prelude.{◌≡◌, ◌≢◌, ℕ, ◌+◌, List, [], ◌++◌, Result, Ok, Err, IfErr, IfOk, IsErr, IsErrAnd, OnErr, OnOk, ⊤}
use Rattle.std.proofs.Common.{sym, subst, append_assoc}
use Rattle.rule_parts.specs.declared.Part.{Part}
use Rattle.rule_text.specs.declared.reader.Reader.{Reader}
use Rattle.rule_text.specs.declared.word.Word.{Word}
use Rattle.rule_text.specs.declared.word.Sort.{Sort}
use Rattle.rule_text.specs.declared.error.WordError.{WordError}
use Rattle.rule_text.specs.declared.error.WordError.TheVariants.{Expected, Memory, TooDeep}
use Rattle.rule_text.specs.Reading.{Bumps, Caused, Decides, IsMemory, IsMissed, Reads}
use Rattle.rule_text.specs.Written.{sort_at}
use Rattle.rule_text.proofs.Reading.{reads_as, reads_behind, reads_both, reads_none}

-- ---- what may come

-- some words are U, and others after them V
pub data Then (U V : List Word → ℕ → ℕ → List Part → Type 0) (ws : List Word) (i k : ℕ) (rs : List Part) : Type 0 where
  both : {j : ℕ} {ps qs : List Part} → U ws i j ps → V ws j k qs → Then U V ws i k rs

-- a word of a sort, whatever comes after it; anything
pub data Sole (sort : Sort) (ws : List Word) (i : ℕ) : ℕ → List Part → Type 0 where
  sole : {j : ℕ} → sort_at ws i ≡ sort → Sole sort ws i j []

pub data Stop (ws : List Word) (i : ℕ) : ℕ → List Part → Type 0 where
  stop : {j : ℕ} → Stop ws i j []

abbrev pub Splits : (U V W : List Word → ℕ → ℕ → List Part → Type 0) → List Word → ℕ → Type 0
Splits U V W ws i = (k : ℕ) (rs : List Part) → W ws i k rs → Then U V ws i k rs

abbrev pub EndsOnce : (List Word → ℕ → ℕ → List Part → Type 0) → List Word → ℕ → Type 0
EndsOnce U ws i = (j k : ℕ) (ps qs : List Part) → U ws i j ps → U ws i k qs → j ≡ k

pub miss_sole : {ws : List Word} {i : ℕ} {sort : Sort} → sort_at ws i ≢ sort → IsMissed (Sole sort) ws i
miss_sole {ws} {i} {sort} n = record { no = no }
  where
    no : (j : ℕ) (ps : List Part) → Sole sort ws i j ps → ⊥
    no j _ (sole e) = n e

module _ {U V W : List Word → ℕ → ℕ → List Part → Type 0} {ws : List Word} {i : ℕ} where
  pub miss_first : Splits U V W ws i → IsMissed U ws i → IsMissed W ws i
  miss_first split m = record { no = λ k rs w. no k rs (split k rs w) }
    where
      no : (k : ℕ) (rs : List Part) → Then U V ws i k rs → ⊥
      no k rs (both {j = j} {ps = ps} u v) = m.no j ps u

  pub miss_rest : {j : ℕ} {ps : List Part} → Splits U V W ws i → EndsOnce U ws i → U ws i j ps → IsMissed V ws j → IsMissed W ws i
  miss_rest {j} {ps} split once u m = record { no = λ k rs w. no k rs (split k rs w) }
    where
      no : (k : ℕ) (rs : List Part) → Then U V ws i k rs → ⊥
      no k rs (both {j = l} {ps = os} {qs = qs} x v) = m.no k qs (subst (λ (n : ℕ). V ws n k qs) (once l j os ps x u) v)

-- What V says from j on, W says from i on, with parts in front; where V says nothing, W doesn't.
pub record Onward (V W : List Word → ℕ → ℕ → List Part → Type 0) (ws : List Word) (i j : ℕ) (ps : List Part) : Type 0 where
  pub goes : (k : ℕ) (qs : List Part) → V ws j k qs → W ws i k (ps ++ qs)
  pub back : IsMissed V ws j → IsMissed W ws i

abbrev pub Leads : (V W : List Word → ℕ → ℕ → List Part → Type 0) → Reader → Reader → Type 0
Leads V W a b = Reads (λ ws i j ps. Onward V W ws i j ps) a b

pub leads_none : {V : List Word → ℕ → ℕ → List Part → Type 0} (a : Reader) → Leads V V a a
leads_none a = reads_none a (record { goes = λ k qs v. v; back = λ m. m })

-- one more: U, and then V
pub leads_more : {U V W X : List Word → ℕ → ℕ → List Part → Type 0} {a b c : Reader} → Leads W X a b → Reads U b c
    → ((k : ℕ) (ps qs : List Part) → U b.words.now b.at c.at ps → V b.words.now c.at k qs → W b.words.now b.at k (ps ++ qs))
    → Splits U V W b.words.now b.at → EndsOnce U b.words.now b.at → Leads V X a c
leads_more {U} {V} {W} {X} {a} {b} {c} p r join split once =
    let step : Leads V W b c = reads_as r (λ ps u. record { goes = λ k qs v. join k ps qs u v; back = λ m. miss_rest split once u m }) in
    reads_both p step (λ ps qs v w. record {
      goes = λ k rs u. subst (λ (l : List Part). X a.words.now a.at k l) (sym (append_assoc ps qs rs)) (v.goes k (qs ++ rs) (w.goes k rs u));
      back = λ m. v.back (w.back m);
    })

pub leads_end : {V W : List Word → ℕ → ℕ → List Part → Type 0} {a b c : Reader} → Leads V W a b → Reads V b c → Reads W a c
leads_end {c = c} p q = reads_both p q (λ ps qs v w. v.goes c.at qs w)

-- what was read after some words, as it stands in them
pub written_in : {V : List Word → ℕ → ℕ → List Part → Type 0} {a b : Reader} {ws : List Word} → a.words.now ≡ ws → (r : Reads V a b) → V ws a.at b.at r.parts
written_in {V} {a} {b} e r = subst (λ (x : List Word). V x a.at b.at r.parts) e r.written

pub missed_from : {X : Type 0} {V : List Word → ℕ → ℕ → X → Type 0} {i : ℕ} {ws vs : List Word} → vs ≡ ws → IsMissed V vs i → IsMissed V ws i
missed_from {X} {V} {i} e m = subst (λ (x : List Word). IsMissed V x i) e m

pub missed_at : {X : Type 0} {V : List Word → ℕ → ℕ → X → Type 0} {i j : ℕ} {ws vs : List Word} → vs ≡ ws → i ≡ j → IsMissed V vs i → IsMissed V ws j
missed_at {X} {V} {i} {j} {ws} e f m = subst (λ (k : ℕ). IsMissed V ws k) f (missed_from e m)

pub leads_back : {V W : List Word → ℕ → ℕ → List Part → Type 0} {a b : Reader} → Leads V W a b → IsMissed V b.words.now b.at → IsMissed W a.words.now a.at
leads_back p m = p.written.back (missed_from p.words m)

-- ---- results

pub if_ok : {T E : Type 0} {P Q : T → Type 0} (r : Result T E) → ((x : T) → P x → Q x) → IfOk r P → IfOk r Q
if_ok (Ok x) f p = f x p
if_ok (Err e) f p = tt

pub on_ok : {T E : Type 0} {P Q : Type 0} (r : Result T E) → (P → Q) → OnOk r P → OnOk r Q
on_ok (Ok x) f p = f p
on_ok (Err e) f p = tt

pub errs : {T E : Type 0} {P : Type 0} (r : Result T E) → P → OnErr r P
errs (Ok x) p = tt
errs (Err e) p = p

pub on_err : {T E : Type 0} {P Q : Type 0} (r : Result T E) → (P → Q) → OnErr r P → OnErr r Q
on_err (Ok x) f p = tt
on_err (Err e) f p = f p

caused_by : {P Q : Type 0} (e : WordError) → (P → Q) → Caused P e → Caused Q e
caused_by (Expected what at) f p = f p
caused_by (TooDeep at) f p = tt
caused_by (Memory reason) f p = tt

caused : {P : Type 0} (e : WordError) → P → Caused P e
caused (Expected what at) p = p
caused (TooDeep at) p = tt
caused (Memory reason) p = tt

spared : (P : Type 0) (e : WordError) → IsMemory e → Caused P e
spared P (Expected what at) m = absurd m
spared P (TooDeep at) m = absurd m
spared P (Memory reason) m = tt

pub read : {W : List Word → ℕ → ℕ → List Part → Type 0} {a b : Reader} → Reads W a b → Decides W a b (Ok tt)
read r = record { reads = r; refuses = tt }

pub refused : {W : List Word → ℕ → ℕ → List Part → Type 0} {a b : Reader} {e : WordError} → IsMissed W a.words.now a.at → Decides W a b (Err e)
refused {e = e} m = record { reads = tt; refuses = caused e m }

pub refused_as : {V W : List Word → ℕ → ℕ → List Part → Type 0} {a b c d : Reader} {e : WordError} → Decides V a b (Err e)
    → (IsMissed V a.words.now a.at → IsMissed W c.words.now c.at) → Decides W c d (Err e)
refused_as {e = e} p f = record { reads = tt; refuses = caused_by e f p.refuses }

-- an error is passed on
pub exits : {W : List Word → ℕ → ℕ → List Part → Type 0} {a b : Reader} {r : Result ⊤ WordError} → IsErr r → IsMissed W a.words.now a.at → Decides W a b r
exits {r = Ok x} g m = cc
exits {r = Err x} g m = refused m

pub exits_as : {V W : List Word → ℕ → ℕ → List Part → Type 0} {a b c d : Reader} {r : Result ⊤ WordError} {e : WordError} → Decides V a b (Err e)
    → IsErr r × IsErrAnd r (λ x. x ≡ e) → (IsMissed V a.words.now a.at → IsMissed W c.words.now c.at) → Decides W c d r
exits_as {r = Ok x} p g f = absurd g.1
exits_as {V} {W} {a} {b} {c} {d} {r = Err x} p g f = subst (λ (y : WordError). Decides W c d (Err y)) (sym g.1) (refused_as p f)

-- a part is added or put in front, if there is memory
pub decides_by : {P : Type 0} {W : List Word → ℕ → ℕ → List Part → Type 0} {a b : Reader} (r : Result ⊤ WordError) → OnOk r P → IfErr r IsMemory
    → (P → Reads W a b) → Decides W a b r
decides_by (Ok x) p m f = record { reads = f p; refuses = tt }
decides_by (Err e) p m f = record { reads = tt; refuses = spared _ e m }

pub decides_of : {P M : Type 0} {W : List Word → ℕ → ℕ → List Part → Type 0} {a b : Reader} (r : Result ⊤ WordError) → OnOk r P → IfErr r (Caused M)
    → (P → Reads W a b) → (M → IsMissed W a.words.now a.at) → Decides W a b r
decides_of (Ok x) p m f g = record { reads = f p; refuses = tt }
decides_of (Err e) p m f g = record { reads = tt; refuses = caused_by e g m }

pub decides_as : {V W : List Word → ℕ → ℕ → List Part → Type 0} {a b c d : Reader} {r : Result ⊤ WordError} → Decides V a b r
    → (Reads V a b → Reads W c d) → (IsMissed V a.words.now a.at → IsMissed W c.words.now c.at) → Decides W c d r
decides_as {r = Ok x} d f g = record { reads = f d.reads; refuses = tt }
decides_as {r = Err e} d f g = refused_as d g

-- one and then another
pub decides_then : {U V W : List Word → ℕ → ℕ → List Part → Type 0} {a b c : Reader} {r : Result ⊤ WordError} → Reads U a b → Decides V b c r
    → ((ps qs : List Part) → U a.words.now a.at b.at ps → V a.words.now b.at c.at qs → W a.words.now a.at c.at (ps ++ qs))
    → Splits U V W a.words.now a.at → EndsOnce U a.words.now a.at → Decides W a c r
decides_then p d join split once = decides_as d (λ q. reads_both p q join) (λ m. miss_rest split once p.written (missed_from p.words m))

-- the same from the word in front
pub behind : {V : List Word → ℕ → ℕ → List Part → Type 0} {a b c : Reader} → Bumps a b → Reads V b c → Reads (λ ws i j ps. V ws (i + 1) j ps) a c
behind bumps r = reads_behind bumps r (λ ps v. v)

pub leads_decides : {V W : List Word → ℕ → ℕ → List Part → Type 0} {a b c : Reader} {r : Result ⊤ WordError} → Leads V W a b → Decides V b c r → Decides W a c r
leads_decides p d = decides_as d (λ q. leads_end p q) (λ m. leads_back p m)
