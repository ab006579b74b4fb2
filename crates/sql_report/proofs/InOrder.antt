-- The errors of parts, one after another, are in the order of their places.
use Rattle.std.proofs.Common.{◌≡◌, ◌∙◌, ℕ, ◌+◌, ◌-◌, ◌^◌, min, ◌<◌, ◌≤◌, ◌==◌, nat_lt, not, ◌&&◌, Bool, true, false, cond, List, [], ◌∷◌, ◌++◌, length, map, take, drop, get_or, append_assoc, ◌⊎◌, inl, inr, arith, ap, refl, sym, subst, length-append}
use Rattle.std.specs.Prelude.{All, filter}
use Rattle.std.specs.List.{flat_map}
use Rattle.std.specs.List.Sorted.{IsPermutation, IsSortedByKey, ties}
use Rattle.std.specs.Ordering.{is_lt, nat_cmp}
use Rattle.std.specs.declared.cmp.Ordering.TheVariants.{Less, Equal, Greater}
use Rattle.std.proofs.lemmas.Bool.{cases_lt, le-ltb, lt-ltb}
use Rattle.std.proofs.lemmas.Grind.{flat_map-append}
use Rattle.std.proofs.lemmas.List.{append-nil, get_or-append-add, get_or-map, get_or_append_left, length-map, map-append}
use Rattle.std.proofs.lemmas.List.Elements.{All-append, All-cons, All-head, All-nil, All-tail, filter-append}
use Rattle.std.proofs.lemmas.List.Sorted.{All-permutation, IsPermutation-append, IsPermutation-append_comm, IsPermutation-map, IsPermutation-refl, IsPermutation-trans}
use Rattle.std.proofs.lemmas.Map.Keys.{ge_from_not_lt}
use Rattle.squawk_table.specs.declared.shortcuts.str_step.OwnedStep.{OwnedStep}
use Rattle.squawk_table.specs.declared.shortcuts.str_step.OwnedStep.TheVariants as sent
use Rattle.squawk_tokens.specs.LexicalErrors.{LexicalError, shifted}
use Rattle.sql_grammar.specs.Parts.{moved_by}
use Rattle.sql_grammar.specs.ReadParts.{AreBefore, ErrorsBelow}
use Rattle.sql_report.specs.ErrorLines.{HasShown, error_texts, moved_finding}
use Rattle.sql_report.specs.Findings.{AreInOrder, Told, all_told, told, told_in, told_lexical}
use Rattle.sql_report.specs.declared.errors.ErrorLines.{ErrorLines}
use Rattle.sql_report.specs.declared.finding_list.Finding.{Finding}

-- ---- places

abbrev place_of : Finding → ℕ
place_of finding = finding.at

abbrev before : Finding → Finding → Bool
before x y = is_lt (nat_cmp (place_of x) (place_of y))

by_cases : (a b : Bool) → is_lt (cond a Less (cond b Equal Greater)) ≡ a
by_cases true b = refl
by_cases false true = refl
by_cases false false = refl

before_is : (a b : ℕ) → is_lt (nat_cmp a b) ≡ nat_lt a b
before_is a b = by_cases (nat_lt a b) (a == b)

-- of two of which the second stands first, neither ties
never_ties : (x y : Finding) → y.at < x.at → ties before x y ≡ false
never_ties x y lt = ap (λ b. not (before x y) && not b) (before_is y.at x.at ∙ lt-ltb y.at x.at lt) ∙ both (not (before x y))
  where
    both : (b : Bool) → (b && not true) ≡ false
    both true = refl
    both false = refl

ties_after : (x y : Finding) → x.at < y.at → ties before x y ≡ false
ties_after x y lt = ap (λ b. not b && not (before y x)) (before_is x.at y.at ∙ lt-ltb x.at y.at lt)

none_kept : (p : Finding → Bool) (xs : List Finding) → All (λ x. p x ≡ false) xs → filter p xs ≡ []
none_kept p [] h = refl
none_kept p (x ∷ xs) h = ap (λ b. cond b (x ∷ filter p xs) (filter p xs)) (All-head (λ x. p x ≡ false) x xs h) ∙ none_kept p xs (All-tail (λ x. p x ≡ false) x xs h)

pub all_weaker : {P Q : Finding → Type 0} (xs : List Finding) → ((x : Finding) → P x → Q x) → All P xs → All Q xs
all_weaker xs f h = λ i d lt. f (get_or xs i d) (h i d lt)

-- ---- moved

module _ (n : ℕ) where
  abbrev moved : Finding → Finding
  moved = moved_finding n

  abbrev moved_told : Told → Told
  moved_told t = record t { at = n + t.at }

  moved_past : (xs : List Finding) → All (λ f. n ≤ f.at) (map moved xs)
  moved_past [] = All-nil (λ f. n ≤ f.at)
  moved_past (x ∷ xs) = All-cons (λ f. n ≤ f.at) (moved x) (map moved xs) (omega arith) (moved_past xs)

  filter_moved : (p q : Finding → Bool) → ((f : Finding) → p (moved f) ≡ q f) → (xs : List Finding) → filter p (map moved xs) ≡ map moved (filter q xs)
  filter_moved p q same [] = refl
  filter_moved p q same (x ∷ xs) = cases (p (moved x)) (q x) (same x) (filter_moved p q same xs)
    where
      cases : (b c : Bool) → b ≡ c → filter p (map moved xs) ≡ map moved (filter q xs)
          → cond b (moved x ∷ filter p (map moved xs)) (filter p (map moved xs)) ≡ map moved (cond c (x ∷ filter q xs) (filter q xs))
      cases b true e rest = ap (λ b. cond b (moved x ∷ filter p (map moved xs)) (filter p (map moved xs))) e ∙ ap (λ xs. moved x ∷ xs) rest
      cases b false e rest = ap (λ b. cond b (moved x ∷ filter p (map moved xs)) (filter p (map moved xs))) e ∙ rest

  told_moved : (xs : List Finding) → map told (map moved xs) ≡ map moved_told (map told xs)
  told_moved [] = refl
  told_moved (x ∷ xs) = ap (λ ts. told (moved x) ∷ ts) (told_moved xs)

  lexical_moved : (es : List LexicalError) → map moved_told (map told_lexical es) ≡ map told_lexical (map (shifted n) es)
  lexical_moved [] = refl
  lexical_moved (e ∷ es) = ap (λ ts. told_lexical (shifted n e) ∷ ts) (lexical_moved es)

  sent_moved : (steps : List OwnedStep) → map moved_told (flat_map told_in steps) ≡ flat_map told_in (map (moved_by n) steps)
  sent_moved [] = refl
  sent_moved (sent.Token kind text ∷ steps) = sent_moved steps
  sent_moved (sent.Enter kind ∷ steps) = sent_moved steps
  sent_moved (sent.Exit ∷ steps) = sent_moved steps
  sent_moved (sent.Error text pos ∷ steps) = ap (λ ts. told_in (sent.Error text (n + pos)) ++ ts) (sent_moved steps)

  lt_moved : (a b : ℕ) → n ≤ a → nat_lt a (n + b) ≡ nat_lt (a - n) b
  lt_moved a b le = elim (cases_lt (a - n) b) [
    | inl lt ↦ lt-ltb a (n + b) (omega (arith, lt, le)) ∙ sym (lt-ltb (a - n) b lt)
    | inr past ↦ le-ltb a (n + b) (omega (arith, past, le)) ∙ sym (le-ltb (a - n) b past)
  ]

  moved_lt : (a b : ℕ) → n ≤ a → nat_lt (n + b) a ≡ nat_lt b (a - n)
  moved_lt a b le = elim (cases_lt b (a - n)) [
    | inl lt ↦ lt-ltb (n + b) a (omega (arith, lt, le)) ∙ sym (lt-ltb b (a - n) lt)
    | inr past ↦ le-ltb (n + b) a (omega (arith, past, le)) ∙ sym (le-ltb b (a - n) past)
  ]

  abbrev back : Finding → Finding
  back x = record x { at = x.at - n }

  ties_moved : (x : Finding) → n ≤ x.at → (y : Finding) → ties before x (moved y) ≡ ties before (back x) y
  ties_moved x le y =
      let here : before x (moved y) ≡ before (back x) y = before_is x.at (n + y.at) ∙ (lt_moved x.at y.at le ∙ sym (before_is (x.at - n) y.at)) in
      let there : before (moved y) x ≡ before y (back x) = before_is (n + y.at) x.at ∙ (moved_lt x.at y.at le ∙ sym (before_is y.at (x.at - n))) in
      ap (λ b. not b && not (before (moved y) x)) here ∙ ap (λ b. not (before (back x) y) && not b) there

-- ---- told of a list

module _ (P : Told → Type 0) where
  told_all : (xs : List Finding) → All P (map told xs) → All (λ f. P (told f)) xs
  told_all [] h = All-nil (λ f. P (told f))
  told_all (x ∷ xs) h = All-cons (λ f. P (told f)) x xs (All-head P (told x) (map told xs) h) (told_all xs (All-tail P (told x) (map told xs) h))

abbrev is_below : ℕ → Told → Type 0
is_below n t = t.at < n

lexical_below : (n : ℕ) (es : List LexicalError) → All (λ e. e.start < n) es → All (is_below n) (map told_lexical es)
lexical_below n [] h = All-nil (is_below n)
lexical_below n (e ∷ es) h =
    All-cons (is_below n) (told_lexical e) (map told_lexical es) (All-head (λ e. e.start < n) e es h) (lexical_below n es (All-tail (λ e. e.start < n) e es h))

sent_below : (n : ℕ) (steps : List OwnedStep) → ErrorsBelow n steps → All (is_below n) (flat_map told_in steps)
sent_below n [] h = All-nil (is_below n)
sent_below n (sent.Token kind text ∷ steps) h = sent_below n steps h
sent_below n (sent.Enter kind ∷ steps) h = sent_below n steps h
sent_below n (sent.Exit ∷ steps) h = sent_below n steps h
sent_below n (sent.Error text pos ∷ steps) h = All-cons (is_below n) _ (flat_map told_in steps) h.0 (sent_below n steps h.1)

gathered_below : (n : ℕ) (es : List LexicalError) (steps : List OwnedStep) (f : List Finding) (o : AreInOrder (all_told es steps) f) → All (λ e. e.start < n) es → ErrorsBelow n steps
    → All (λ f. f.at < n) o.gathered
gathered_below n es steps f o lexical errors =
    told_all (is_below n) o.gathered
    (subst (All (is_below n)) (sym o.tell)
    (All-append (is_below n) (map told_lexical es) (flat_map told_in steps) (lexical_below n es lexical) (sent_below n steps errors)))

-- findings stand where the errors do
pub in_order_below : (n : ℕ) (es : List LexicalError) (steps : List OwnedStep) (f : List Finding) → AreInOrder (all_told es steps) f → All (λ e. e.start < n) es → ErrorsBelow n steps
    → All (λ f. f.at < n) f
in_order_below n es steps f o lexical errors = All-permutation (λ f. f.at < n) o.gathered f o.same (gathered_below n es steps f o lexical errors)

-- ---- two parts

-- the findings of a list in two
record Halves (a b : List Told) (g : List Finding) : Type 0 where
  front : List Finding
  rest : List Finding
  all : g ≡ front ++ rest
  tells : map told front ≡ a
  tell_rest : map told rest ≡ b

halves : (a b : List Told) (g : List Finding) → map told g ≡ a ++ b → Halves a b g
halves [] b g same = record { front = []; rest = g; all = refl; tells = refl; tell_rest = same }
halves (t ∷ a) b [] same = absurd (omega (arith, ap length same))
halves (t ∷ a) b (f ∷ g) same =
    let others = halves a b g (ap (drop 1) same) in
    record {
      front = f ∷ others.front;
      rest = others.rest;
      all = ap (λ xs. f ∷ xs) others.all;
      tells = ap (λ xs. told f ∷ xs) others.tells ∙ ap (λ xs. xs ++ a) (ap (take 1) same);
      tell_rest = others.tell_rest;
    }

module _ (n : ℕ) (e1 e2 : List LexicalError) (s1 s2 : List OwnedStep) (f1 f2 : List Finding) (o1 : AreInOrder (all_told e1 s1) f1) (o2 : AreInOrder (all_told e2 s2) f2)
    (stand : AreBefore n e1 s1) where
  abbrev m2 : List Finding
  m2 = map (moved n) f2

  h1 : Halves (map told_lexical e1) (flat_map told_in s1) o1.gathered
  h1 = halves (map told_lexical e1) (flat_map told_in s1) o1.gathered o1.tell

  h2 : Halves (map told_lexical e2) (flat_map told_in s2) o2.gathered
  h2 = halves (map told_lexical e2) (flat_map told_in s2) o2.gathered o2.tell

  abbrev l1 : List Finding
  l1 = h1.front

  abbrev t1 : List Finding
  t1 = h1.rest

  abbrev l2 : List Finding
  l2 = map (moved n) h2.front

  abbrev t2 : List Finding
  t2 = map (moved n) h2.rest

  abbrev gathered : List Finding
  gathered = (l1 ++ l2) ++ (t1 ++ t2)

  tell : map told gathered ≡ all_told (e1 ++ map (shifted n) e2) (s1 ++ map (moved_by n) s2)
  tell =
      let lexical : map told l2 ≡ map told_lexical (map (shifted n) e2) = told_moved n h2.front ∙ (ap (map (moved_told n)) h2.tells ∙ lexical_moved n e2) in
      let steps : map told t2 ≡ flat_map told_in (map (moved_by n) s2) = told_moved n h2.rest ∙ (ap (map (moved_told n)) h2.tell_rest ∙ sent_moved n s2) in
      let left : map told (l1 ++ l2) ≡ map told_lexical (e1 ++ map (shifted n) e2) =
      map-append told l1 l2
      ∙ (ap (λ xs. xs ++ map told l2) h1.tells ∙ (ap (λ xs. map told_lexical e1 ++ xs) lexical ∙ sym (map-append told_lexical e1 (map (shifted n) e2)))) in
      let right : map told (t1 ++ t2) ≡ flat_map told_in (s1 ++ map (moved_by n) s2) =
      map-append told t1 t2
      ∙ (ap (λ xs. xs ++ map told t2) h1.tell_rest ∙ (ap (λ xs. flat_map told_in s1 ++ xs) steps ∙ sym (flat_map-append told_in s1 (map (moved_by n) s2)))) in
      map-append told (l1 ++ l2) (t1 ++ t2) ∙ (ap (λ xs. xs ++ map told (t1 ++ t2)) left ∙ ap (λ xs. map told_lexical (e1 ++ map (shifted n) e2) ++ xs) right)

  -- the middle two change places
  same : IsPermutation gathered (f1 ++ m2)
  same =
      let middle : IsPermutation (l2 ++ t1) (t1 ++ l2) = IsPermutation-append_comm l2 t1 in
      let left : gathered ≡ l1 ++ ((l2 ++ t1) ++ t2) = append_assoc l1 l2 (t1 ++ t2) ∙ ap (λ xs. l1 ++ xs) (sym (append_assoc l2 t1 t2)) in
      let right : l1 ++ ((t1 ++ l2) ++ t2) ≡ (l1 ++ t1) ++ (l2 ++ t2) = ap (λ xs. l1 ++ xs) (append_assoc t1 l2 t2) ∙ sym (append_assoc l1 t1 (l2 ++ t2)) in
      let first : IsPermutation (l1 ++ t1) f1 = subst (λ g. IsPermutation g f1) h1.all o1.same in
      let second : IsPermutation (l2 ++ t2) m2 =
      subst (λ xs. IsPermutation xs m2) (ap (map (moved n)) h2.all ∙ map-append (moved n) h2.front h2.rest) (IsPermutation-map (moved n) o2.gathered f2 o2.same) in
      let swapped : IsPermutation (l1 ++ ((l2 ++ t1) ++ t2)) (l1 ++ ((t1 ++ l2) ++ t2)) =
      IsPermutation-append l1 l1 ((l2 ++ t1) ++ t2) ((t1 ++ l2) ++ t2) (IsPermutation-refl l1) (IsPermutation-append (l2 ++ t1) (t1 ++ l2) t2 t2 middle (IsPermutation-refl t2)) in
      subst (λ xs. IsPermutation xs (f1 ++ m2)) (sym left)
      (IsPermutation-trans (l1 ++ ((l2 ++ t1) ++ t2)) (l1 ++ ((t1 ++ l2) ++ t2)) (f1 ++ m2) swapped
      (subst (λ xs. IsPermutation xs (f1 ++ m2)) (sym right) (IsPermutation-append (l1 ++ t1) f1 (l2 ++ t2) m2 first second)))

  below : All (λ f. f.at < n) f1
  below = in_order_below n e1 s1 f1 o1 stand.lexical stand.sent_errors

  below_halves : All (λ f. f.at < n) (l1 ++ t1)
  below_halves = subst (All (λ f. f.at < n)) h1.all (gathered_below n e1 s1 f1 o1 stand.lexical stand.sent_errors)

  sorted : IsSortedByKey place_of nat_cmp (f1 ++ m2)
  sorted k d low high = elim (cases_lt (k + 1) (length f1)) [
    | inl lt ↦
        ap (λ y. before y (get_or (f1 ++ m2) k d)) (get_or_append_left f1 m2 d (k + 1) lt)
        ∙ (ap (before (get_or f1 (k + 1) d)) (get_or_append_left f1 m2 d k (omega (arith, lt))) ∙ o1.sorted k d low lt)
    | inr past ↦ later (k + 1 - length f1) (omega (arith, past, high, length-append f1 m2)) (omega (arith, past)) (cases_lt k (length f1))
  ]
    where
      not_less : (x y : Finding) → y.at ≤ x.at → before x y ≡ false
      not_less x y le = before_is x.at y.at ∙ le-ltb x.at y.at le

      at_second : (j : ℕ) → j < length m2 → get_or (f1 ++ m2) (length f1 + j) d ≡ moved n (get_or f2 j d)
      at_second j lt = get_or-append-add f1 m2 j d ∙ get_or-map (moved n) f2 j d d (omega (arith, lt, length-map f2 (moved n)))

      later : (j : ℕ) → j < length m2 → k + 1 ≡ length f1 + j → (k < length f1) ⊎ (length f1 ≤ k) → before (get_or (f1 ++ m2) (k + 1) d) (get_or (f1 ++ m2) k d) ≡ false
      later j lt place (inl first) =
          let y : get_or (f1 ++ m2) (k + 1) d ≡ moved n (get_or f2 j d) = ap (λ i. get_or (f1 ++ m2) i d) place ∙ at_second j lt in
          let x : get_or (f1 ++ m2) k d ≡ get_or f1 k d = get_or_append_left f1 m2 d k first in
          ap (λ f. before f (get_or (f1 ++ m2) k d)) y
          ∙ (ap (before (moved n (get_or f2 j d))) x ∙ not_less (moved n (get_or f2 j d)) (get_or f1 k d) (omega (arith, below k d first)))
      later j lt place (inr second) =
          let i = j - 1 in
          let next : j ≡ i + 1 = omega (arith, place, second) in
          let here : k ≡ length f1 + i = omega (arith, place, second) in
          let y : get_or (f1 ++ m2) (k + 1) d ≡ moved n (get_or f2 (i + 1) d) = ap (λ i. get_or (f1 ++ m2) i d) place ∙ (at_second j lt ∙ ap (λ m. moved n (get_or f2 m d)) next) in
          let x : get_or (f1 ++ m2) k d ≡ moved n (get_or f2 i d) = ap (λ i. get_or (f1 ++ m2) i d) here ∙ at_second i (omega (arith, lt)) in
          let up = ge_from_not_lt (get_or f2 (i + 1) d).at (get_or f2 i d).at (o2.sorted i d (omega arith) (omega (arith, next, lt, length-map f2 (moved n)))) in
          ap (λ f. before f (get_or (f1 ++ m2) k d)) y
          ∙ (ap (before (moved n (get_or f2 (i + 1) d))) x ∙ not_less (moved n (get_or f2 (i + 1) d)) (moved n (get_or f2 i d)) (omega (arith, up)))

  module _ (x : Finding) where
    abbrev t : Finding → Bool
    t = ties before x

    kept : filter t gathered ≡ (filter t l1 ++ filter t l2) ++ (filter t t1 ++ filter t t2)
    kept =
        filter-append t (l1 ++ l2) (t1 ++ t2)
        ∙ (ap (λ xs. xs ++ filter t (t1 ++ t2)) (filter-append t l1 l2) ∙ ap (λ xs. (filter t l1 ++ filter t l2) ++ xs) (filter-append t t1 t2))

    -- before the second part
    first : x.at < n → filter t (f1 ++ m2) ≡ filter t gathered
    first lt =
        let none : (xs : List Finding) → filter t (map (moved n) xs) ≡ [] =
        λ xs. none_kept t (map (moved n) xs) (all_weaker {P = λ f. n ≤ f.at} {Q = λ f. t f ≡ false} (map (moved n) xs) (λ y le. ties_after x y (omega (arith, le, lt))) (moved_past n xs)) in
        let left : filter t (f1 ++ m2) ≡ filter t l1 ++ filter t t1 =
        filter-append t f1 m2
        ∙ (ap (λ xs. filter t f1 ++ xs) (none f2) ∙ (append-nil (filter t f1) ∙ (o1.stable x ∙ (ap (filter t) h1.all ∙ filter-append t l1 t1)))) in
        let right : filter t gathered ≡ filter t l1 ++ filter t t1 =
        kept
        ∙ (ap (λ xs. (filter t l1 ++ xs) ++ (filter t t1 ++ filter t t2)) (none h2.front)
        ∙ (ap (λ xs. xs ++ (filter t t1 ++ filter t t2)) (append-nil (filter t l1))
        ∙ (ap (λ xs. filter t l1 ++ (filter t t1 ++ xs)) (none h2.rest) ∙ ap (λ xs. filter t l1 ++ xs) (append-nil (filter t t1))))) in
        left ∙ sym right

    -- in it
    second : n ≤ x.at → filter t (f1 ++ m2) ≡ filter t gathered
    second le =
        let none : (xs : List Finding) → All (λ f. f.at < n) xs → filter t xs ≡ [] =
        λ xs low. none_kept t xs (all_weaker {P = λ f. f.at < n} {Q = λ f. t f ≡ false} xs (λ y lt. never_ties x y (omega (arith, lt, le))) low) in
        let u = ties before (back n x) in
        let moved_kept : (xs : List Finding) → filter t (map (moved n) xs) ≡ map (moved n) (filter u xs) = filter_moved n t u (ties_moved n x le) in
        let low : filter t l1 ++ filter t t1 ≡ [] = sym (filter-append t l1 t1) ∙ none (l1 ++ t1) below_halves in
        let none1 : filter t l1 ≡ [] = nil-left (filter t l1) (filter t t1) low in
        let none2 : filter t t1 ≡ [] = ap (λ xs. xs ++ filter t t1) (sym none1) ∙ low in
        let left : filter t (f1 ++ m2) ≡ map (moved n) (filter u f2) = filter-append t f1 m2 ∙ (ap (λ xs. xs ++ filter t m2) (none f1 below) ∙ moved_kept f2) in
        let both : map (moved n) (filter u f2) ≡ filter t l2 ++ filter t t2 =
        ap (map (moved n)) (o2.stable (back n x) ∙ (ap (filter u) h2.all ∙ filter-append u h2.front h2.rest))
        ∙ (map-append (moved n) (filter u h2.front) (filter u h2.rest)
        ∙ (ap (λ xs. xs ++ map (moved n) (filter u h2.rest)) (sym (moved_kept h2.front)) ∙ ap (λ xs. filter t l2 ++ xs) (sym (moved_kept h2.rest)))) in
        left
        ∙ (both
        ∙ sym (kept ∙ (ap (λ xs. (xs ++ filter t l2) ++ (filter t t1 ++ filter t t2)) none1 ∙ ap (λ xs. filter t l2 ++ (xs ++ filter t t2)) none2)))
      where
        nil-left : (xs ys : List Finding) → xs ++ ys ≡ [] → xs ≡ []
        nil-left [] ys e = refl
        nil-left (x ∷ xs) ys e = absurd (omega (arith, ap length e))

  pub in_order : AreInOrder (all_told (e1 ++ map (shifted n) e2) (s1 ++ map (moved_by n) s2)) (f1 ++ m2)
  in_order = record {
    gathered = gathered;
    tell = tell;
    same = same;
    sorted = sorted;
    stable = λ x. elim (cases_lt x.at n) [ inl lt ↦ first x lt | inr le ↦ second x le ];
  }

-- ---- what is shown

-- the errors of a part after others
pub shows_more : (script given : List ℕ) (old new : ErrorLines) (n : ℕ) (errors lexical : List LexicalError) (done inner steps : List OwnedStep) (kind : ℕ) (findings : List Finding)
    → AreInOrder (all_told lexical steps) findings → steps ≡ sent.Enter kind ∷ inner ++ sent.Exit ∷ [] → AreBefore n errors done → HasShown script given errors done old
    → new.name ≡ old.name → new.lines.items ≡ old.lines.items ++ error_texts old.name.now script (map (moved_finding n) findings)
    → ((n : ℕ) → old.count ≡ min n (2 ^ 64 - 1) → new.count ≡ min (n + length findings) (2 ^ 64 - 1)) → HasShown script given (errors ++ map (shifted n) lexical) (done ++ map (moved_by n) inner) new
shows_more script given old new n errors lexical done inner steps kind findings order is stand shown name lines count =
    let told_inner : flat_map told_in steps ≡ flat_map told_in inner =
    ap (flat_map told_in) is ∙ (flat_map-append told_in inner (sent.Exit ∷ []) ∙ append-nil (flat_map told_in inner)) in
    let order_inner : AreInOrder (all_told lexical inner) findings = subst (λ ts. AreInOrder (map told_lexical lexical ++ ts) findings) told_inner order in
    let more = map (moved_finding n) findings in
    let before = shown.count in
    record {
      findings = shown.findings ++ more;
      in_order = in_order n errors lexical done inner shown.findings findings shown.in_order order_inner stand;
      lines = ap (λ l. given ++ l) lines
          ∙ (sym (append_assoc given old.lines.items (error_texts old.name.now script more))
          ∙ (ap (λ l. l ++ error_texts old.name.now script more) shown.lines
          ∙ (sym (flat_map-append _ shown.findings more) ∙ ap (λ name. error_texts name.now script (shown.findings ++ more)) (sym name))));
      count = omega (arith, count (length shown.findings) before, length-append shown.findings more, length-map findings (moved_finding n));
    }
