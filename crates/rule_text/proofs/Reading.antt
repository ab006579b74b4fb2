-- From reader to reader: what is read by calls one after another.
use Rattle.std.specs.Prelude.{◌≡◌, ◌≢◌, ℕ, ◌+◌, ◌-◌, ◌<◌, ◌≤◌, false, List, [], ◌∷◌, ◌++◌, length, take, drop}
use Rattle.std.specs.List.{insert}
use Rattle.std.proofs.Common.{suc, zero, sym, subst, ap, ◌∙◌, refl, arith, append_assoc, length-append}
use Rattle.rule_parts.specs.declared.Part.{Part}
use Rattle.rule_parts.specs.declared.Name.{Name}
use Rattle.rule_text.specs.declared.reader.Reader.{Reader}
use Rattle.rule_text.specs.declared.word.Word.{Word}
use Rattle.rule_text.specs.declared.word.Sort.{Sort}
use Rattle.rule_text.specs.Reading.{Adds, Bumps, Reads, Wraps}
use Rattle.rule_text.specs.Written.{IsWord, is_end, sort_at, sort_of_word}

-- where a word isn't the end, it is a word
pub within : (ws : List Word) (i : ℕ) → is_end (sort_at ws i) ≡ false → i < length ws
within [] i e = cc
within (w ∷ ws) zero e = omega arith
within (w ∷ ws) (suc i) e = let h = within ws i e in omega (arith, h)

pub word_sort : {ws : List Word} {i : ℕ} {sort : Sort} {name : Name} → IsWord ws i sort name → sort_at ws i ≡ sort
word_sort w = ap sort_of_word w.is

append_none : (xs : List Part) → xs ++ [] ≡ xs
append_none [] = refl
append_none (x ∷ xs) = ap (λ (l : List Part). x ∷ l) (append_none xs)

take_all : (xs ys : List Part) → take (length xs) (xs ++ ys) ≡ xs
take_all [] ys = refl
take_all (x ∷ xs) ys = ap (λ (l : List Part). x ∷ l) (take_all xs ys)

pub drop_all : (xs ys : List Part) → drop (length xs) (xs ++ ys) ≡ ys
drop_all [] ys = refl
drop_all (x ∷ xs) ys = drop_all xs ys

inserted : (xs ys : List Part) (part : Part) → insert (xs ++ ys) (length xs) part ≡ xs ++ part ∷ ys
inserted xs ys part = rw (take_all xs ys, drop_all xs ys) refl

added_size : (xs ys zs : List Part) → zs ≡ xs ++ ys → length zs - length xs ≡ length ys
added_size xs ys zs e = omega (arith, ap length e, length-append xs ys)

pub longer_by : (xs ys zs : List Part) → zs ≡ xs ++ ys → length xs ≤ length zs
longer_by xs ys zs e = omega (arith, ap length e, length-append xs ys)

pub still_within : {ws vs : List Word} {i j : ℕ} → vs ≡ ws → j ≡ i → i ≤ length ws → j ≤ length vs
still_within e f h = omega (arith, ap length e)

module _ {V : List Word → ℕ → ℕ → List Part → Type 0} where
  -- nothing is read
  pub reads_none : (a : Reader) → V a.words.now a.at a.at [] → Reads V a a
  reads_none a v = record { words = refl; parts = []; added = sym (append_none a.parts.items); longer = omega arith; ends = λ h. h; written = v }

  -- one word more
  pub reads_one : {a b : Reader} {part : Part} → Adds part a b → {c : Reader} → Bumps b c → V a.words.now a.at (a.at + 1) (part ∷ []) → Reads V a c
  reads_one {a} {b} {part} adds {c} bumps v = record {
    words = bumps.words ∙ adds.words;
    parts = part ∷ [];
    added = bumps.parts ∙ adds.parts;
    longer = longer_by a.parts.items (part ∷ []) c.parts.items (bumps.parts ∙ adds.parts);
    ends = λ _. bumps.ends;
    written = subst (λ (m : ℕ). V a.words.now a.at m (part ∷ [])) (sym (bumps.at ∙ ap (λ (m : ℕ). m + 1) adds.at)) v;
  }

module _ {V W : List Word → ℕ → ℕ → List Part → Type 0} where
  -- what is read as one form is read as another
  pub reads_as : {a b : Reader} → Reads V a b → ((ps : List Part) → V a.words.now a.at b.at ps → W a.words.now a.at b.at ps) → Reads W a b
  reads_as r f = record { words = r.words; parts = r.parts; added = r.added; longer = r.longer; ends = r.ends; written = f r.parts r.written }

  -- a word in front of it
  pub reads_behind : {a b c : Reader} → Bumps a b → Reads V b c
      → ((ps : List Part) → V a.words.now (a.at + 1) c.at ps → W a.words.now a.at c.at ps) → Reads W a c
  reads_behind {a} {b} {c} bumps r f = record {
    words = r.words ∙ bumps.words;
    parts = r.parts;
    added = r.added ∙ ap (λ (l : List Part). l ++ r.parts) bumps.parts;
    longer = subst (λ (l : List Part). length l ≤ length c.parts.items) bumps.parts r.longer;
    ends = λ _. r.ends bumps.ends;
    written = f r.parts (subst (λ (m : ℕ). V a.words.now m c.at r.parts) bumps.at
        (subst (λ (x : List Word). V x b.at c.at r.parts) bumps.words r.written));
  }

  -- a word after it
  pub reads_before : {a b c : Reader} → Reads V a b → Bumps b c
      → ((ps : List Part) → V a.words.now a.at b.at ps → W a.words.now a.at (b.at + 1) ps) → Reads W a c
  reads_before {a} {b} {c} r bumps f = record {
    words = bumps.words ∙ r.words;
    parts = r.parts;
    added = bumps.parts ∙ r.added;
    longer = longer_by a.parts.items r.parts c.parts.items (bumps.parts ∙ r.added);
    ends = λ _. bumps.ends;
    written = subst (λ (m : ℕ). W a.words.now a.at m r.parts) (sym bumps.at) (f r.parts r.written);
  }

  -- a part around it
  pub reads_around : {a b c : Reader} {start size : ℕ} (part : ℕ → Part) → Reads V a b
      → start ≡ length a.parts.items → size ≡ length b.parts.items - start → Wraps start (part size) b c
      → ((ps : List Part) → V a.words.now a.at b.at ps → W a.words.now a.at b.at (part (length ps) ∷ ps)) → Reads W a c
  reads_around {a} {b} {c} {start} {size} part r from sized wraps f =
      let n : size ≡ length r.parts = sized ∙ (ap (λ (n : ℕ). length b.parts.items - n) from ∙ added_size a.parts.items r.parts b.parts.items r.added) in
      let is : c.parts.items ≡ a.parts.items ++ part (length r.parts) ∷ r.parts = wraps.parts
      ∙ (ap (λ (n : ℕ). insert b.parts.items start (part n)) n
      ∙ (ap (λ (n : ℕ). insert b.parts.items n (part (length r.parts))) from
      ∙ (ap (λ (l : List Part). insert l (length a.parts.items) (part (length r.parts))) r.added
      ∙ inserted a.parts.items r.parts (part (length r.parts))))) in
      record {
        words = wraps.words ∙ r.words;
        parts = part (length r.parts) ∷ r.parts;
        added = is;
        longer = longer_by a.parts.items (part (length r.parts) ∷ r.parts) c.parts.items is;
        ends = λ h. still_within wraps.words wraps.at (r.ends h);
        written = subst (λ (m : ℕ). W a.words.now a.at m (part (length r.parts) ∷ r.parts)) (sym wraps.at) (f r.parts r.written);
      }

-- what is known of the parts that were added
pub reads_with : {V : List Word → ℕ → ℕ → List Part → Type 0} {a b : Reader} (P : List Part → Type 0) → (r : Reads V a b) → P r.parts
    → Reads (λ ws i j ps. V ws i j ps × P ps) a b
reads_with P r p = record { words = r.words; parts = r.parts; added = r.added; longer = r.longer; ends = r.ends; written = (r.written, p) }

-- one and then another
pub reads_both : {U V W : List Word → ℕ → ℕ → List Part → Type 0} {a b c : Reader} → Reads U a b → Reads V b c
    → ((ps qs : List Part) → U a.words.now a.at b.at ps → V a.words.now b.at c.at qs → W a.words.now a.at c.at (ps ++ qs)) → Reads W a c
reads_both {U} {V} {W} {a} {b} {c} p q f =
    let is : c.parts.items ≡ a.parts.items ++ (p.parts ++ q.parts) = q.added
    ∙ (ap (λ (l : List Part). l ++ q.parts) p.added ∙ append_assoc a.parts.items p.parts q.parts) in
    record {
      words = q.words ∙ p.words;
      parts = p.parts ++ q.parts;
      added = is;
      longer = longer_by a.parts.items (p.parts ++ q.parts) c.parts.items is;
      ends = λ h. q.ends (p.ends h);
      written = f p.parts q.parts p.written (subst (λ (x : List Word). V x b.at c.at q.parts) p.words q.written);
    }

-- ---- words gone over

pub record Over (n : ℕ) (a b : Reader) : Type 0 where
  pub words : b.words.now ≡ a.words.now
  pub parts : b.parts.items ≡ a.parts.items
  pub at : a.at + n ≡ b.at
  pub ends : b.at ≤ length b.words.now

pub over_one : {a b : Reader} → Bumps a b → Over 1 a b
over_one bumps = record { words = bumps.words; parts = bumps.parts; at = sym bumps.at; ends = bumps.ends }

pub over_more : {n : ℕ} {a b c : Reader} → Over n a b → Bumps b c → Over (n + 1) a c
over_more o bumps = record {
  words = bumps.words ∙ o.words;
  parts = bumps.parts ∙ o.parts;
  at = omega (arith, o.at, bumps.at);
  ends = bumps.ends;
}

-- what a word is, from where the words begin
pub sort_from : {n : ℕ} {a b : Reader} {sort : Sort} → Over n a b → sort_at b.words.now b.at ≡ sort → sort_at a.words.now (a.at + n) ≡ sort
sort_from {n} {a} {b} {sort} o e =
    subst (λ (k : ℕ). sort_at a.words.now k ≡ sort) (sym o.at) (subst (λ (x : List Word). sort_at x b.at ≡ sort) o.words e)

pub word_from : {n : ℕ} {a b : Reader} {sort : Sort} {name : Name} → Over n a b → IsWord b.words.now b.at sort name
    → IsWord a.words.now (a.at + n) sort name
word_from {n} {a} {b} {sort} {name} o w =
    subst (λ (k : ℕ). IsWord a.words.now k sort name) (sym o.at) (subst (λ (x : List Word). IsWord x b.at sort name) o.words w)

pub sort_not_from : {n : ℕ} {a b : Reader} {sort : Sort} → Over n a b → sort_at b.words.now b.at ≢ sort → sort_at a.words.now (a.at + n) ≢ sort
sort_not_from {n} {a} {b} {sort} o m e =
    m (subst (λ (k : ℕ). sort_at b.words.now k ≡ sort) o.at (subst (λ (x : List Word). sort_at x (a.at + n) ≡ sort) (sym o.words) e))

-- words that are a part
pub reads_part : {W : List Word → ℕ → ℕ → List Part → Type 0} {n : ℕ} {a b c : Reader} {part : Part} → Over n a b → Adds part b c
    → W a.words.now a.at (a.at + n) (part ∷ []) → Reads W a c
reads_part {W} {n} {a} {b} {c} {part} o adds v =
    let is : c.parts.items ≡ a.parts.items ++ part ∷ [] = adds.parts ∙ ap (λ (l : List Part). l ++ part ∷ []) o.parts in
    record {
      words = adds.words ∙ o.words;
      parts = part ∷ [];
      added = is;
      longer = longer_by a.parts.items (part ∷ []) c.parts.items is;
      ends = λ _. still_within adds.words adds.at o.ends;
      written = subst (λ (k : ℕ). W a.words.now a.at k (part ∷ [])) (o.at ∙ sym adds.at) v;
    }
