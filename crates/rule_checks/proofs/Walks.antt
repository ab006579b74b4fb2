-- Walks over rows beside one another.
use Rattle.std.proofs.Common.{◌≡◌, ℕ, ◌<◌, ◌≤◌, ◌⊎◌, ◌++◌, ◌∷◌, [], inl, inr, List, refl, subst, arith}
use Rattle.std.specs.Prelude.{Contains, ◌↔◌}
use Rattle.std.proofs.lemmas.List.Elements.{Contains-append_left, Contains-push, Contains-push_cases}
use Rattle.rule_grammar.specs.declared.part.Part.{Part}
use Rattle.rule_checks.specs.Rows.{First, here, past, next_at}

first_within : {rows : List Part} {passes : ℕ → Type 0} {end k m : ℕ} → First rows passes end k m → k < end
first_within (here within) = within
first_within (past within passed rest) = within

first_cases : {rows : List Part} {passes : ℕ → Type 0} {end k m : ℕ} → First rows passes end k m
    → (k ≡ m) ⊎ (passes k × First rows passes end (next_at rows k) m)
first_cases (here within) = inl refl
first_cases (past within passed rest) = inr (passed, rest)

-- A walk has come from one row to another: what it passes from there it passes in all, and of the rest all is done.
pub record Passed (rows : List Part) (passes : ℕ → Type 0) (start end at : ℕ) (done : ℕ → Type 0) : Type 0 where
  pub goes_on : (m : ℕ) → First rows passes end at m → First rows passes end start m
  pub rest : (m : ℕ) → First rows passes end start m → First rows passes end at m ⊎ done m

module _ (rows : List Part) (passes : ℕ → Type 0) (start end : ℕ) where
  pub passed_none : {done : ℕ → Type 0} → Passed rows passes start end start done
  passed_none = record { goes_on = λ m walk. walk; rest = λ m walk. inl walk }

  pub passed_more : {done more : ℕ → Type 0} {at next : ℕ} → Passed rows passes start end at done → next ≡ next_at rows at
      → at < end → passes at → ((m : ℕ) → done m → more m) → more at → Passed rows passes start end next more
  passed_more {done} {more} {at} {next} passed is within passes_at grows at_done = rw is record {
    goes_on = λ m walk. passed.goes_on m (past within passes_at walk);
    rest = λ m walk. elim (passed.rest m walk) [
      | inl left ↦ elim (first_cases left) [ inl same ↦ inr (subst more same at_done) | inr further ↦ inl further.1 ]
      | inr before ↦ inr (grows m before)
    ];
  }

  -- All that a walk passes is done at its end, or where nothing more is passed.
  pub passed_all : {done : ℕ → Type 0} {at : ℕ} → Passed rows passes start end at done
      → end ≤ at → (m : ℕ) → First rows passes end start m → done m
  passed_all passed past_end m walk = elim (passed.rest m walk) [
    | inl left ↦ let within = first_within left in absurd (omega arith)
    | inr before ↦ before
  ]

  pub passed_stops : {done more : ℕ → Type 0} {at : ℕ} → Passed rows passes start end at done
      → ¬ passes at → ((m : ℕ) → done m → more m) → more at → (m : ℕ) → First rows passes end start m → more m
  passed_stops {more = more} passed stops grows at_done m walk = elim (passed.rest m walk) [
    | inl left ↦ elim (first_cases left) [ inl same ↦ subst more same at_done | inr further ↦ absurd (stops further.0) ]
    | inr before ↦ grows m before
  ]

-- A walk has listed those with a property of what it passed.
pub record Listed (rows : List Part) (passes P : ℕ → Type 0) (start end at : ℕ) (list : List ℕ) : Type 0 where
  pub listed : (m : ℕ) → Contains list m → First rows passes end start m × P m
  pub passed : Passed rows passes start end at (λ m. P m → Contains list m)

module _ (rows : List Part) (passes P : ℕ → Type 0) (start end : ℕ) where
  pub listed_none : Listed rows passes P start end start []
  listed_none = record { listed = λ m in_none. absurd (let within = in_none.1 in omega arith); passed = passed_none rows passes start end }

  listed_push : {at : ℕ} (list : List ℕ) → Listed rows passes P start end at list → at < end → P at
      → (m : ℕ) → Contains (list ++ at ∷ []) m → First rows passes end start m × P m
  listed_push {at} list l within p m contained = elim (Contains-push_cases list at m contained) [
    | inl before ↦ l.listed m before
    | inr same ↦ subst (λ (n : ℕ). First rows passes end start n × P n) same (l.passed.goes_on at (here within), p)
  ]

  still : (at : ℕ) (list : List ℕ) (m : ℕ) → (P m → Contains list m) → P m → Contains (list ++ at ∷ []) m
  still at list m contained p = Contains-append_left list (at ∷ []) m (contained p)

  pub listed_more : {at next : ℕ} (list longer : List ℕ) → Listed rows passes P start end at list → longer ≡ list ++ at ∷ []
      → next ≡ next_at rows at → at < end → passes at → P at → Listed rows passes P start end next longer
  listed_more {at} {next} list longer l longer_is is within passes_at p = rw longer_is record {
    listed = listed_push list l within p;
    passed = passed_more rows passes start end l.passed is within passes_at (still at list) (λ _. Contains-push list at);
  }

  pub listed_over : {at next : ℕ} (list : List ℕ) → Listed rows passes P start end at list
      → next ≡ next_at rows at → at < end → passes at → ¬ P at → Listed rows passes P start end next list
  listed_over {at} {next} list l is within passes_at not_p = record {
    listed = l.listed;
    passed = passed_more rows passes start end l.passed is within passes_at (λ m contained. contained) (λ p. absurd (not_p p));
  }

  pub listed_all : {at : ℕ} (list : List ℕ) → Listed rows passes P start end at list → end ≤ at
      → (m : ℕ) → Contains list m ↔ (First rows passes end start m × P m)
  listed_all list l past_end m = (l.listed m, λ walk. passed_all rows passes start end l.passed past_end m walk.0 walk.1)

  pub listed_stops : {at : ℕ} (list longer : List ℕ) → Listed rows passes P start end at list → longer ≡ list ++ at ∷ []
      → at < end → ¬ passes at → P at → (m : ℕ) → Contains longer m ↔ (First rows passes end start m × P m)
  listed_stops {at} list longer l longer_is within stops p m = rw longer_is
      (listed_push list l within p m, λ walk. passed_stops rows passes start end l.passed stops (still at list) (λ _. Contains-push list at) m walk.0 walk.1)
