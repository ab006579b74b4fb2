-- The statuses of markers are those that the calls give them.
use Rattle.std.proofs.Common.{◌≡◌, ◌∙◌, ◌≢◌, ℕ, ◌+◌, ◌≤◌, ◌==◌, ◌&&◌, true, false, not, cond, List, [], ◌∷◌, ◌++◌, length, set, nat_lt, refl, sym, ap, arith, length-append, length-set}
use Rattle.std.proofs.lemmas.Bool.{and_parts, and_left, le-ltb, ltb-true, eq-eqb, ne_eqb}
use Rattle.std.proofs.lemmas.Bool.Decides.{nat_tests}
use Rattle.squawk_kinds.specs.Kinds.{TOMBSTONE}
use Rattle.squawk_parser.proofs.Splits.{count_by-append}
use Rattle.squawk_script.specs.Accepted.{completes, has_number, makes_marker, markers_of, may_follow, precedes, spends}
use Rattle.squawk_script.specs.Slots.{is_admitted, is_status_at_hand, is_status_open, advanced, status_at}
use Rattle.squawk_script.specs.declared.call.Call.{Call}
use Rattle.squawk_script.specs.declared.call.Call.TheVariants.{Start, Complete, Abandon, Precede, ExtendTo}
use Rattle.squawk_script.specs.declared.status.Status.{Status}
use Rattle.squawk_script.specs.declared.status.Status.TheVariants as status
use Rattle.squawk_script.proofs.OneStatus.{IsStatusOf, LeavesOut, status-kept, status-made, status-preceded, status-spent}
use Rattle.squawk_script.proofs.SlotLists.{each-push, each-set, within}

-- The statuses are those of the markers after these calls.
pub record AreStatusesOf (before : List Call) (statuses : List Status) : Type 0 where
  pub count : length statuses ≡ markers_of before
  pub few : length statuses ≤ 4294967296
  pub each : (m : ℕ) → IsStatusOf before m (status_at statuses m)

-- before the first call
pub statuses-begin : AreStatusesOf [] []
statuses-begin = record {
  count = refl;
  few = omega arith;
  each = λ m. record {
    opened = sym (and_left (nat_lt m 0) true (le-ltb m 0 (omega arith)));
    at_hand = refl;
    unnamed = λ le. (refl, refl, refl);
    unspent = λ e. (refl, refl);
  };
}

-- ---- a call is admitted

module _ (before : List Call) (statuses : List Status) (are : AreStatusesOf before statuses) where
  numbered : nat_lt (length statuses) 4294967296 ≡ has_number before
  numbered = ap (λ n. nat_lt n 4294967296) are.count

  pub admitted-follows : (call : Call) → is_admitted statuses call ≡ may_follow before call
  admitted-follows Start = numbered
  admitted-follows (Complete marker kind) = rw (are.each marker).opened refl
  admitted-follows (Abandon marker) = (are.each marker).opened
  admitted-follows (Precede node) = rw ((are.each node).at_hand, numbered) refl
  admitted-follows (ExtendTo node marker) = rw ((are.each node).at_hand, (are.each marker).opened) refl
  admitted-follows call = refl

-- ---- the number of markers, and a status at the end

markers-kept : (before : List Call) (call : Call) → makes_marker call ≡ false → markers_of (before ++ call ∷ []) ≡ markers_of before
markers-kept before call e =
    count_by-append makes_marker before (call ∷ []) ∙ (ap (λ b. markers_of before + (0 + cond b 1 0)) e ∙ omega arith)

pub markers-more : (before : List Call) (call : Call) → makes_marker call ≡ true → markers_of (before ++ call ∷ []) ≡ markers_of before + 1
markers-more before call e =
    count_by-append makes_marker before (call ∷ []) ∙ (ap (λ b. markers_of before + (0 + cond b 1 0)) e ∙ omega arith)

below_more : (m n : ℕ) → m ≢ n → nat_lt m (n + 1) ≡ nat_lt m n
below_more m n off = grind (arith, nat_tests)

-- ---- one more call

module _ (before : List Call) (statuses : List Status) (are : AreStatusesOf before statuses) where
  -- it names no marker
  statuses-kept : (call : Call) → makes_marker call ≡ false → ((m : ℕ) → LeavesOut m call) → AreStatusesOf (before ++ call ∷ []) statuses
  statuses-kept call makes out =
      let kept = markers-kept before call makes in
      record {
        count = are.count ∙ sym kept;
        few = are.few;
        each = λ m. status-kept before call m (status_at statuses m) (are.each m) (out m) (ap (nat_lt m) kept);
      }

  -- it spends a marker, and may complete it
  statuses-spent : (call : Call) (marker : ℕ) (s : Status) → makes_marker call ≡ false → spends marker call ≡ true → precedes marker call ≡ false
      → ((m : ℕ) → (marker == m) ≡ false → LeavesOut m call) → is_status_open s ≡ false → is_status_at_hand s ≡ completes marker call
      → is_status_open (status_at statuses marker) ≡ true → AreStatusesOf (before ++ call ∷ []) (set statuses marker s)
  statuses-spent call marker s makes spent preceded out closed completed opened =
      let kept = markers-kept before call makes in
      record {
        count = length-set statuses marker s ∙ (are.count ∙ sym kept);
        few = omega (arith, length-set statuses marker s, are.few);
        each = each-set status.Spent (IsStatusOf (before ++ call ∷ [])) statuses marker s (within status.Spent statuses marker (λ e. cc))
            (λ m off. status-kept before call m (status_at statuses m) (are.each m) (out m (ne_eqb marker m (λ e. off (sym e)))) (ap (nat_lt m) kept))
            (status-spent before call marker (status_at statuses marker) (are.each marker) s opened spent preceded closed completed);
      }

  -- the marker's number is as much below the numbers as before
  abbrev IsOld : Call → ℕ → Type 0
  IsOld call m = nat_lt m (markers_of (before ++ call ∷ [])) ≡ nat_lt m (markers_of before)

  -- it makes a marker, where the others stand so
  statuses-made : (call : Call) (others : List Status) → makes_marker call ≡ true → nat_lt (length statuses) 4294967296 ≡ true
      → length others ≡ length statuses → LeavesOut (length statuses) call → ((m : ℕ) → IsOld call m → IsStatusOf (before ++ call ∷ []) m (status_at others m))
      → AreStatusesOf (before ++ call ∷ []) (others ++ status.Open ∷ [])
  statuses-made call others makes room long out stand =
      let more = markers-more before call makes in
      let longer = length-append others (status.Open ∷ []) in
      record {
        count = omega (arith, longer, long, more, are.count);
        few = omega (arith, longer, long, ltb-true (length statuses) 4294967296 room);
        each = each-push status.Spent (IsStatusOf (before ++ call ∷ [])) others status.Open
            (λ m off. stand m (ap (nat_lt m) more ∙ below_more m (markers_of before) (λ e. off (e ∙ (sym are.count ∙ sym long)))))
            (rw long (status-made before call (length statuses) (status_at statuses (length statuses)) (are.each (length statuses)) out
            (omega (arith, are.count)) (omega (arith, more, are.count))));
      }

  -- the call is made
  pub statuses-next : (call : Call) → is_admitted statuses call ≡ true → AreStatusesOf (before ++ call ∷ []) (advanced statuses call)
  statuses-next Start e =
      statuses-made Start statuses refl e refl (refl, refl, refl)
      (λ m old. status-kept before Start m (status_at statuses m) (are.each m) (refl, refl, refl) old)
  statuses-next (Complete marker kind) e =
      let itself = eq-eqb marker marker refl in
      statuses-spent (Complete marker kind) marker status.AtHand refl itself refl (λ m off. (off, refl, off)) refl (sym itself)
      (and_parts (is_status_open (status_at statuses marker)) (not (kind == TOMBSTONE)) e).0
  statuses-next (Abandon marker) e =
      statuses-spent (Abandon marker) marker status.Spent refl (eq-eqb marker marker refl) refl (λ m off. (off, refl, refl)) refl refl e
  statuses-next (Precede node) e =
      let both = and_parts (is_status_at_hand (status_at statuses node)) (nat_lt (length statuses) 4294967296) e in
      let lt = within status.Spent statuses node (λ e. cc) in
      statuses-made (Precede node) (set statuses node status.Spent) refl both.1 (length-set statuses node status.Spent)
      (refl, ne_eqb node (length statuses) (λ e. omega (arith, e, lt)), refl)
      (each-set status.Spent (λ m s. IsOld (Precede node) m → IsStatusOf (before ++ Precede node ∷ []) m s) statuses node status.Spent lt
      (λ m off. status-kept before (Precede node) m (status_at statuses m) (are.each m) (refl, ne_eqb node m (λ e. off (sym e)), refl))
      (λ old. status-preceded before (Precede node) node (status_at statuses node) (are.each node) both.0 (eq-eqb node node refl) refl))
  statuses-next (ExtendTo node marker) e =
      let both = (and_parts (is_status_at_hand (status_at statuses node)) (is_status_open (status_at statuses marker) && nat_lt marker node) e).1 in
      statuses-spent (ExtendTo node marker) marker status.Spent refl (eq-eqb marker marker refl) refl (λ m off. (off, refl, refl)) refl refl
      (and_parts (is_status_open (status_at statuses marker)) (nat_lt marker node) both).0
  statuses-next call e = statuses-kept call refl (λ m. (refl, refl, refl))
