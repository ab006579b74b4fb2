-- Where one marker stands after one more call.
use Rattle.std.proofs.Common.{◌≡◌, ◌∙◌, ℕ, ◌<◌, ◌≤◌, ◌&&◌, ◌||◌, Bool, true, false, not, List, [], ◌∷◌, ◌++◌, nat_lt, refl, sym, ap, arith}
use Rattle.std.specs.List.{list_any}
use Rattle.std.proofs.Math.Bool.{and-true, or-false}
use Rattle.std.proofs.lemmas.Bool.{and_parts, and_right, lt-ltb, ltb-true, not-true, or_right, true_from_ne_false}
use Rattle.std.proofs.lemmas.List.Folds.{list_any-append}
use Rattle.squawk_parser.proofs.Splits.{count_by-append}
use Rattle.squawk_script.specs.Accepted.{completes, is_at_hand, is_open, makes_marker, markers_of, precedes, spends}
use Rattle.squawk_script.specs.Slots.{is_status_at_hand, is_status_open}
use Rattle.squawk_script.specs.declared.call.Call.{Call}
use Rattle.squawk_script.specs.declared.status.Status.{Status}
use Rattle.squawk_script.specs.declared.status.Status.TheVariants as status

-- no call names marker m
abbrev pub IsUnnamed : List Call → ℕ → Type 0
IsUnnamed calls m = (list_any (spends m) calls ≡ false) × (list_any (precedes m) calls ≡ false) × (list_any (completes m) calls ≡ false)

-- Marker m stands so after these calls.
pub record IsStatusOf (before : List Call) (m : ℕ) (s : Status) : Type 0 where
  pub opened : is_status_open s ≡ is_open before m
  pub at_hand : is_status_at_hand s ≡ is_at_hand before m
  -- the calls name no marker that isn't made
  pub unnamed : markers_of before ≤ m → IsUnnamed before m
  -- a marker that isn't spent has no node
  pub unspent : list_any (spends m) before ≡ false → (list_any (precedes m) before ≡ false) × (list_any (completes m) before ≡ false)

-- ---- tests

module _ {X : Type 0} (p : X → Bool) (xs : List X) (x : X) where
  any-push : list_any p (xs ++ x ∷ []) ≡ (list_any p xs || p x)
  any-push = list_any-append p xs (x ∷ []) ∙ ap (λ b. list_any p xs || b) (or-false (p x))

  any-other : p x ≡ false → list_any p (xs ++ x ∷ []) ≡ list_any p xs
  any-other e = any-push ∙ (ap (λ b. list_any p xs || b) e ∙ or-false (list_any p xs))

  any-this : p x ≡ true → list_any p (xs ++ x ∷ []) ≡ true
  any-this e = any-push ∙ or_right (list_any p xs) (p x) e

none : (b : Bool) → false ≡ (b && false)
none b = sym (and_right b false refl)

-- ---- one more call

-- the call doesn't name marker m
abbrev pub LeavesOut : ℕ → Call → Type 0
LeavesOut m call = (spends m call ≡ false) × (precedes m call ≡ false) × (completes m call ≡ false)

module _ (before : List Call) (call : Call) (m : ℕ) (s : Status) (is : IsStatusOf before m s) where
  grows : markers_of before ≤ markers_of (before ++ call ∷ [])
  grows = omega (arith, count_by-append makes_marker before (call ∷ []))

  -- the call doesn't name the marker
  pub status-kept : LeavesOut m call → nat_lt m (markers_of (before ++ call ∷ [])) ≡ nat_lt m (markers_of before) → IsStatusOf (before ++ call ∷ []) m s
  status-kept out made =
      let spent = any-other (spends m) before call out.0 in
      let preceded = any-other (precedes m) before call out.1 in
      let completed = any-other (completes m) before call out.2 in
      record {
        opened = rw (made, spent) is.opened;
        at_hand = rw (preceded, completed) is.at_hand;
        unnamed = λ le. let h = is.unnamed (omega (arith, le, grows)) in (spent ∙ h.0, preceded ∙ h.1, completed ∙ h.2);
        unspent = λ e. let h = is.unspent (sym spent ∙ e) in (preceded ∙ h.0, completed ∙ h.1);
      }

  -- it makes the marker
  pub status-made : LeavesOut m call → markers_of before ≤ m → m < markers_of (before ++ call ∷ []) → IsStatusOf (before ++ call ∷ []) m status.Open
  status-made out new lt =
      let h = is.unnamed new in
      let preceded = any-other (precedes m) before call out.1 ∙ h.1 in
      let completed = any-other (completes m) before call out.2 ∙ h.2 in
      record {
        opened = rw (any-other (spends m) before call out.0 ∙ h.0, lt-ltb m (markers_of (before ++ call ∷ [])) lt) refl;
        at_hand = rw (preceded, completed) refl;
        unnamed = λ le. absurd (omega (arith, le, lt));
        unspent = λ e. (preceded, completed);
      }

  -- it spends the marker, and may complete it
  pub status-spent : (t : Status) → is_status_open s ≡ true → spends m call ≡ true → precedes m call ≡ false → is_status_open t ≡ false
      → is_status_at_hand t ≡ completes m call → IsStatusOf (before ++ call ∷ []) m t
  status-spent t was spent preceded closed completed =
      let both = and_parts (nat_lt m (markers_of before)) (not (list_any (spends m) before)) (sym is.opened ∙ was) in
      let had = is.unspent (not-true (list_any (spends m) before) both.1) in
      let p = any-other (precedes m) before call preceded ∙ had.0 in
      let c = any-push (completes m) before call ∙ ap (λ b. b || completes m call) had.1 in
      record {
        opened = rw (closed, any-this (spends m) before call spent) (none (nat_lt m (markers_of (before ++ call ∷ []))));
        at_hand = rw (completed, p, c) (sym (and-true (completes m call)));
        unnamed = λ le. absurd (omega (arith, le, grows, ltb-true m (markers_of before) both.0));
        unspent = λ e. cc (e, any-this (spends m) before call spent);
      }

  -- it precedes the marker's node
  pub status-preceded : is_status_at_hand s ≡ true → precedes m call ≡ true → spends m call ≡ false → IsStatusOf (before ++ call ∷ []) m status.Spent
  status-preceded ready preceded spent =
      let both = and_parts (list_any (completes m) before) (not (list_any (precedes m) before)) (sym is.at_hand ∙ ready) in
      let taken = true_from_ne_false (list_any (spends m) before) (λ e. cc (both.0, (is.unspent e).1)) in
      let s = any-other (spends m) before call spent ∙ taken in
      record {
        opened = rw s (none (nat_lt m (markers_of (before ++ call ∷ []))));
        at_hand = rw (any-this (precedes m) before call preceded) (none (list_any (completes m) (before ++ call ∷ [])));
        unnamed = λ le. let h = is.unnamed (omega (arith, le, grows)) in cc (both.0, h.2);
        unspent = λ e. cc (e, s);
      }
