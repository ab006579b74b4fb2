-- Calls that are made one after another: each is admitted where the markers stand after those before it.
use Rattle.std.proofs.Common.{◌≡◌, ◌∙◌, ◌⊎◌, inl, inr, ℕ, ◌+◌, ◌<◌, ◌≤◌, Bool, false, List, [], ◌∷◌, ◌++◌, length, get_or, take, position, Some, None, sym, ap, IsTrue, arith, below_more}
use Rattle.std.specs.List.{position_or_len}
use Rattle.std.proofs.lemmas.Bool.{cases_lt}
use Rattle.std.proofs.lemmas.Grind.{common_steps}
use Rattle.std.proofs.lemmas.List.{get_or_past, take_all, take_more}
use Rattle.std.proofs.lemmas.List.Elements.{at_read}
use Rattle.std.proofs.lemmas.List.Quantifiers.{position-Some}
use Rattle.std.proofs.lemmas.List.Sums.{fails_before_first}
use Rattle.squawk_script.specs.Accepted.{AreGoodBelow, IsAccepted, IsFirstOpen, IsGoodAt, is_open, may_follow}
use Rattle.squawk_script.specs.Slots.{is_admitted, is_status_open, advanced, status_at}
use Rattle.squawk_script.specs.declared.call.Call.{Call}
use Rattle.squawk_script.specs.declared.status.Status.{Status}
use Rattle.squawk_script.specs.declared.status.Status.TheVariants as status
use Rattle.squawk_script.proofs.Statuses.{AreStatusesOf, admitted-follows, statuses-next}

-- ---- the call at an index

module _ (calls : List Call) (statuses : List Status) (i : ℕ) (call : Call) (lt : i < length calls) (read : call ≡ get_or calls i call)
    (are : AreStatusesOf (take i calls) statuses) where
  -- the calls up to this one
  pub next : take (i + 1) calls ≡ take i calls ++ call ∷ []
  next = take_more calls i call lt ∙ ap (λ c. take i calls ++ c ∷ []) (sym read)

  -- one call on
  pub statuses-more : IsTrue (is_admitted statuses call) → AreStatusesOf (take (i + 1) calls) (advanced statuses call)
  statuses-more admitted = rw next (statuses-next (take i calls) statuses are call admitted)

  pub good-more : IsTrue (is_admitted statuses call) → AreGoodBelow calls i → AreGoodBelow calls (i + 1)
  good-more admitted good =
      let follows = sym (admitted-follows (take i calls) statuses are call) ∙ admitted in
      below_more (IsGoodAt calls) i good (at_read calls (λ c. IsTrue (may_follow (take i calls) c)) i call lt read follows)

  -- a good call is admitted
  pub admitted-at : IsGoodAt calls i → IsTrue (is_admitted statuses call)
  admitted-at good = admitted-follows (take i calls) statuses are call ∙ (ap (may_follow (take i calls)) read ∙ good call)

-- ---- after the last call

-- no element is found that passes
position-none : {X : Type 0} (p : X → Bool) (xs : List X) (d : X) → position p xs ≡ None → (k : ℕ) → k < length xs → p (get_or xs k d) ≡ false
position-none p xs d none k lt =
    let whole : length xs ≤ position_or_len p xs = grind (arith, common_steps) in
    fails_before_first p xs k d (omega (arith, whole, lt))

module _ (calls : List Call) (statuses : List Status) (i : ℕ) (past : length calls ≤ i) (are : AreStatusesOf (take i calls) statuses) where
  -- a marker is open where its status says so
  pub opened-last : (m : ℕ) → is_status_open (status_at statuses m) ≡ is_open calls m
  opened-last m = (are.each m).opened ∙ ap (λ cs. is_open cs m) (take_all i calls past)

  good-all : AreGoodBelow calls i → AreGoodBelow calls (length calls)
  good-all good k lt = good k (omega (arith, lt, past))

  pub first_open-found : (m : ℕ) → AreGoodBelow calls i → position is_status_open statuses ≡ Some m → IsFirstOpen calls m
  first_open-found m good found =
      let first = position-Some is_status_open statuses m status.Spent found in
      record {
        good = good-all good;
        is = sym (opened-last m) ∙ first.1;
        before = λ k lt. sym (opened-last k) ∙ first.2 k lt;
      }

  closed : position is_status_open statuses ≡ None → (m : ℕ) → (m < length statuses) ⊎ (length statuses ≤ m) → is_open calls m ≡ false
  closed none m (inl lt) = sym (opened-last m) ∙ position-none is_status_open statuses status.Spent none m lt
  closed none m (inr past) = sym (opened-last m) ∙ ap is_status_open (get_or_past statuses m status.Spent past)

  pub accepted-all : AreGoodBelow calls i → position is_status_open statuses ≡ None → IsAccepted calls
  accepted-all good none = record { good = good-all good; spent = λ m. closed none m (cases_lt m (length statuses)) }
