-- From where an index is reached, and who owns it.
use Rattle.std.proofs.Common.{◌≡◌, ◌≢◌, ◌∙◌, ℕ, zero, suc, ◌+◌, ◌-◌, ◌<◌, ◌≤◌, ◌||◌, ◌&&◌, Bool, true, false, Some, None, Option, List, [], ◌∷◌, ◌++◌, length, length-append, get_or, set, refl, sym, ap, arith, if◌then◌else◌}
use Rattle.std.proofs.Math.Bool.{and-false, and-true, or-false, or-true}
use Rattle.std.proofs.lemmas.Bool.{false_from_ne_true}
use Rattle.squawk_output.specs.declared.event.Event.{Event}
use Rattle.squawk_output.specs.declared.event.Event.TheVariants.{Start, Finish}
use Rattle.squawk_output.specs.EventLog.{Lands, LinksLead, Log, linked_index, leads, reaches}
use Rattle.squawk_output.specs.Draft.{Item}
use Rattle.squawk_output.proofs.Gathered.{gathered, least, least_owner, reaches-itself}
use Rattle.squawk_output.proofs.Groups.{gathered-moved}
use Rattle.squawk_output.proofs.Erased.{leads-same}
use Rattle.squawk_output.proofs.Links.{is_start_at-within}
use Rattle.squawk_output.proofs.Peel.{least-same}

pub not_both : (b : Bool) → b ≡ true → b ≡ false → ⊥
not_both b e h = absurd (cc)

-- ---- reaching

leads-both : (link : Option ℕ) (p q : ℕ → Bool) (R : Type 0) → leads link p ≡ true → leads link q ≡ true → ((n : ℕ) → p n ≡ true → q n ≡ true → R) → R
leads-both None p q R a b go = absurd (cc)
leads-both (Some n) p q R a b go = go n a b

-- of two indices that one reaches, the nearer reaches the farther
reaches-between : (log : Log) (i m j : ℕ) → reaches log i m ≡ true → reaches log i j ≡ true → m ≤ j → reaches log m j ≡ true
reaches-between [] i m j a b le = absurd (cc)
reaches-between (x ∷ xs) zero zero j a b le = b
reaches-between (x ∷ xs) zero (suc m) zero a b le = absurd (omega arith)
reaches-between (x ∷ xs) zero (suc m) (suc j) a b le =
    leads-both (linked_index x) (λ n. reaches xs n m) (λ n. reaches xs n j) (reaches xs m j ≡ true) a b (λ n c d. reaches-between xs n m j c d (omega arith))
reaches-between (x ∷ xs) (suc i) zero j a b le = absurd (cc)
reaches-between (x ∷ xs) (suc i) (suc m) zero a b le = absurd (cc)
reaches-between (x ∷ xs) (suc i) (suc m) (suc j) a b le = reaches-between xs i m j a b (omega arith)

-- an event without a link reaches itself alone
reaches-alone : (log : Log) (m j : ℕ) (d : Event) → linked_index (get_or log m d) ≡ None → reaches log m j ≡ true → j ≡ m
reaches-alone [] m j d none h = absurd (cc)
reaches-alone (x ∷ xs) zero zero d none h = refl
reaches-alone (x ∷ xs) zero (suc j) d none h = let there = rw none at h in absurd (cc)
reaches-alone (x ∷ xs) (suc m) zero d none h = absurd (cc)
reaches-alone (x ∷ xs) (suc m) (suc j) d none h = ap suc (reaches-alone xs m j d none h)

-- ---- one event more at the end

reaches-push : (log : Log) (x : Event) (i j : ℕ) → j < length log → reaches (log ++ x ∷ []) i j ≡ reaches log i j
reaches-push [] x i j lt = absurd (omega arith)
reaches-push (y ∷ ys) x zero zero lt = refl
reaches-push (y ∷ ys) x zero (suc j) lt = leads-same (linked_index y) (λ n. reaches (ys ++ x ∷ []) n j) (λ n. reaches ys n j) (λ n. reaches-push ys x n j (omega arith))
reaches-push (y ∷ ys) x (suc i) zero lt = refl
reaches-push (y ∷ ys) x (suc i) (suc j) lt = reaches-push ys x i j (omega arith)

leads-nowhere : (y : Event) (ys : Log) (p : ℕ → Bool) → Lands y ys → ((n : ℕ) → n < length ys → p n ≡ false) → leads (linked_index y) p ≡ false
leads-nowhere (Start kind None) ys p lands none = refl
leads-nowhere (Start kind (Some distance)) ys p lands none = none (distance - 1) (is_start_at-within ys (distance - 1) lands.1)
leads-nowhere event ys p lands none = refl

-- no link leads there
pub reaches-last : (log : Log) (x : Event) (i : ℕ) → LinksLead log → i < length log → reaches (log ++ x ∷ []) i (length log) ≡ false
reaches-last [] x i links lt = absurd (omega arith)
reaches-last (y ∷ ys) x zero links lt = leads-nowhere y ys (λ n. reaches (ys ++ x ∷ []) n (length ys)) links.0 (λ n k. reaches-last ys x n links.1 k)
reaches-last (y ∷ ys) x (suc i) links lt = reaches-last ys x i links.1 (omega arith)

-- ---- a new link, from an index that had none

leads-or : (link : Option ℕ) (p q r : ℕ → Bool) (s : Bool) → ((n : ℕ) → p n ≡ (q n || (r n && s))) → leads link p ≡ (leads link q || (leads link r && s))
leads-or None p q r s same = refl
leads-or (Some n) p q r s same = same n

-- what reaches the index reaches also what the link leads to
reaches-linked : (log : Log) (m c d : ℕ) (y z : Event) → c ≡ m + suc d → linked_index (get_or log m z) ≡ None → linked_index y ≡ Some d → m < length log → (i j : ℕ)
    → reaches (set log m y) i j ≡ (reaches log i j || (reaches log i m && reaches log c j))
reaches-linked [] m c d y z far none some lt i j = absurd (omega arith)
reaches-linked (x ∷ xs) m zero d y z far none some lt i j = absurd (omega arith)
reaches-linked (x ∷ xs) zero (suc c) d y z far none some lt zero zero = refl
reaches-linked (x ∷ xs) zero (suc c) d y z far none some lt zero (suc j) = let same : c ≡ d = omega arith in rw (none, some, same) refl
reaches-linked (x ∷ xs) zero (suc c) d y z far none some lt (suc i) zero = refl
reaches-linked (x ∷ xs) zero (suc c) d y z far none some lt (suc i) (suc j) = sym (or-false (reaches xs i j))
reaches-linked (x ∷ xs) (suc m) (suc c) d y z far none some lt zero zero = refl
reaches-linked (x ∷ xs) (suc m) (suc c) d y z far none some lt zero (suc j) =
    leads-or (linked_index x) (λ n. reaches (set xs m y) n j) (λ n. reaches xs n j) (λ n. reaches xs n m) (reaches xs c j)
    (λ n. reaches-linked xs m c d y z (omega arith) none some (omega arith) n j)
reaches-linked (x ∷ xs) (suc m) (suc c) d y z far none some lt (suc i) zero = sym (and-false (reaches xs i m))
reaches-linked (x ∷ xs) (suc m) (suc c) d y z far none some lt (suc i) (suc j) = reaches-linked xs m c d y z (omega arith) none some (omega arith) i j

-- ---- the same link

reaches-kept : (log : Log) (m : ℕ) (y d : Event) → linked_index y ≡ linked_index (get_or log m d) → (i j : ℕ) → reaches (set log m y) i j ≡ reaches log i j
reaches-kept [] m y d e i j = refl
reaches-kept (x ∷ xs) zero y d e zero zero = refl
reaches-kept (x ∷ xs) zero y d e zero (suc j) = ap (λ link. leads link (λ n. reaches xs n j)) e
reaches-kept (x ∷ xs) zero y d e (suc i) zero = refl
reaches-kept (x ∷ xs) zero y d e (suc i) (suc j) = refl
reaches-kept (x ∷ xs) (suc m) y d e zero zero = refl
reaches-kept (x ∷ xs) (suc m) y d e zero (suc j) = leads-same (linked_index x) (λ n. reaches (set xs m y) n j) (λ n. reaches xs n j) (λ n. reaches-kept xs m y d e n j)
reaches-kept (x ∷ xs) (suc m) y d e (suc i) zero = refl
reaches-kept (x ∷ xs) (suc m) y d e (suc i) (suc j) = reaches-kept xs m y d e i j

pub owner-kept : (log : Log) (m : ℕ) (y d : Event) → linked_index y ≡ linked_index (get_or log m d) → (j : ℕ) → least_owner (set log m y) j ≡ least_owner log j
owner-kept log m y d e j = least-same (λ i. reaches (set log m y) i j) (λ i. reaches log i j) j (λ i. reaches-kept log m y d e i j)

-- ---- the least

least-most : (p : ℕ → Bool) (n : ℕ) → least p n ≤ n
least-most p zero = omega arith
least-most p (suc n) = cases (p 0) (least (λ i. p (suc i)) n) (least-most (λ i. p (suc i)) n)
  where
    cases : (b : Bool) (k : ℕ) → k ≤ n → (if b then 0 else suc k) ≤ suc n
    cases true k le = omega arith
    cases false k le = omega arith

least-passes : (p : ℕ → Bool) (n : ℕ) → p n ≡ true → p (least p n) ≡ true
least-passes p zero here = here
least-passes p (suc n) here = cases (p 0) refl (least (λ i. p (suc i)) n) (least-passes (λ i. p (suc i)) n here)
  where
    cases : (b : Bool) → p 0 ≡ b → (k : ℕ) → p (suc k) ≡ true → p (if b then 0 else suc k) ≡ true
    cases true e k h = e
    cases false e k h = h

below_cases : (p : ℕ → Bool) (b : Bool) (k i : ℕ) → b ≡ p 0 → ((i : ℕ) → i < k → p (suc i) ≡ false) → i < (if b then 0 else suc k) → p i ≡ false
below_cases p true k i e none lt = absurd (omega arith)
below_cases p false k zero e none lt = sym e
below_cases p false k (suc i) e none lt = none i (omega arith)

least-below : (p : ℕ → Bool) (n i : ℕ) → i < least p n → p i ≡ false
least-below p zero i lt = absurd (omega arith)
least-below p (suc n) i lt = below_cases p (p 0) (least (λ i. p (suc i)) n) i refl (least-below (λ i. p (suc i)) n) lt

least-is : (p : ℕ → Bool) (n k : ℕ) → k ≤ n → p k ≡ true → ((i : ℕ) → i < k → p i ≡ false) → least p n ≡ k
least-is p zero k le here none = omega arith
least-is p (suc n) zero le here none = rw here refl
least-is p (suc n) (suc k) le here none =
    rw (none 0 (omega arith)) (ap suc (least-is (λ i. p (suc i)) n k (omega arith) here (λ i lt. none (suc i) (omega arith))))

-- ---- owners

pub owner-most : (log : Log) (j : ℕ) → least_owner log j ≤ j
owner-most log j = least-most (λ i. reaches log i j) j

owner-reaches : (log : Log) (j : ℕ) → j < length log → reaches log (least_owner log j) j ≡ true
owner-reaches log j lt = least-passes (λ i. reaches log i j) j (reaches-itself log j lt)

pub owner-below : (log : Log) (j i : ℕ) → i < least_owner log j → reaches log i j ≡ false
owner-below log j i lt = least-below (λ i. reaches log i j) j i lt

-- what has no link is the farthest of those that its owner has
pub farthest : (log : Log) (m j : ℕ) (d : Event) → linked_index (get_or log m d) ≡ None → m < j → j < length log → least_owner log j ≢ least_owner log m
farthest log m j d none lt within same =
    let there = owner-reaches log j within in
    let here = owner-reaches log m (omega arith) in
    let alone = reaches-alone log m j d none (reaches-between log (least_owner log m) m j here (rw same at there) (omega arith)) in
    omega (arith, alone, lt)

pub owner-push : (log : Log) (x : Event) (j : ℕ) → j < length log → least_owner (log ++ x ∷ []) j ≡ least_owner log j
owner-push log x j lt = least-same (λ i. reaches (log ++ x ∷ []) i j) (λ i. reaches log i j) j (λ i. reaches-push log x i j lt)

-- the last one owns itself
pub owner-last : (log : Log) (x : Event) → LinksLead log → least_owner (log ++ x ∷ []) (length log) ≡ length log
owner-last log x links =
    least-is (λ i. reaches (log ++ x ∷ []) i (length log)) (length log) (length log) (omega arith)
    (reaches-itself (log ++ x ∷ []) (length log) (omega (arith, length-append log (x ∷ [])))) (λ i lt. reaches-last log x i links lt)

-- a new link from m to c, where neither had one
module _ (log : Log) (m c d : ℕ) (y : Event) (far : c ≡ m + suc d) (none : linked_index (get_or log m Finish) ≡ None) (ends : linked_index (get_or log c Finish) ≡ None)
    (some : linked_index y ≡ Some d) (within : c < length log) where
  m_within : m < length log
  m_within = omega (arith, far, within)

  pub owner-elsewhere : (j : ℕ) → j ≢ c → least_owner (set log m y) j ≡ least_owner log j
  owner-elsewhere j ne =
      let away = false_from_ne_true (reaches log c j) (λ h. ne (reaches-alone log c j Finish ends h)) in
      least-same (λ i. reaches (set log m y) i j) (λ i. reaches log i j) j
      (λ i. reaches-linked log m c d y Finish far none some m_within i j ∙ rw (away, and-false, or-false) refl)

  either_reaches : (i : ℕ) → reaches (set log m y) i c ≡ (reaches log i c || reaches log i m)
  either_reaches i = reaches-linked log m c d y Finish far none some m_within i c ∙ rw (reaches-itself log c within, and-true) refl

  -- c comes to the owner of m where that is the lesser
  pub owner-joins : least_owner log m < least_owner log c → least_owner (set log m y) c ≡ least_owner log m
  owner-joins lt =
      least-is (λ i. reaches (set log m y) i c) c (least_owner log m) (omega (arith, owner-most log m, far))
      (either_reaches (least_owner log m) ∙ rw (owner-reaches log m m_within) (or-true (reaches log (least_owner log m) c)))
      (λ i h. either_reaches i ∙ rw (owner-below log c i (omega arith), owner-below log m i h) refl)

  -- and else stays
  pub owner-remains : least_owner log c < least_owner log m → least_owner (set log m y) c ≡ least_owner log c
  owner-remains lt =
      least-is (λ i. reaches (set log m y) i c) c (least_owner log c) (owner-most log c) (either_reaches (least_owner log c) ∙ rw (owner-reaches log c within) refl)
      (λ i h. either_reaches i ∙ rw (owner-below log c i h, owner-below log m i (omega arith)) refl)

  -- the items of c come to stand directly before those of m
  pub gathered-joined : least_owner log m < least_owner log c → (items edited : ℕ → List Item) → edited m ≡ items c ++ items m → edited c ≡ []
      → ((j : ℕ) → j < length log → j ≢ c → j ≢ m → edited j ≡ items j) → gathered (least_owner (set log m y)) items (length log) ≡ gathered (least_owner log) edited (length log)
  gathered-joined lt items edited =
      gathered-moved (least_owner log) (least_owner (set log m y)) items edited m c (length log) (omega (arith, far)) within (owner-joins lt) owner-elsewhere
      (λ j lo hi. farthest log m j Finish none lo hi)
