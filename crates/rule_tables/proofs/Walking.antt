-- Walks over places, one place after another.
use Rattle.std.proofs.Common.{◌≡◌, ℕ, ◌<◌, ◌⊎◌, inl, inr, List, length, Result, Ok, Err, IfOk, OnOk, arith, refl, sym, subst, ap, ◌∙◌}
use Rattle.std.proofs.lemmas.Option.{slice_get_within}
use Rattle.rule_tables.specs.Places.{IsOneOf}
use Rattle.rule_tables.specs.Walks.{Goes, Reaches, slot}
use Rattle.rule_tables.specs.declared.place.Place.{Place}
use Rattle.rule_tables.specs.declared.place.Place.TheVariants.{Before, After, Separator, End}
use Rattle.rule_tables.specs.declared.walk.Walk.{Walk}

pub one_kept : {n : ℕ} {old new : List Place} {P : Place → Type 0} → Reaches n old new P → (p : Place) → IsOneOf old p → IsOneOf new p
one_kept {old = old} r p one = record { index = one.index; is = r.same one.index (slice_get_within old one.index p one.is) ∙ one.is }

pub reaches_none : (n : ℕ) (places : List Place) → Reaches n places places (λ q. ⊥)
reaches_none n places = record {
  longer = omega arith;
  same = λ i lt. refl;
  only = λ i p e. inl (slice_get_within places i p e);
  all = λ p none lt. absurd none;
}

pub reaches_then : {n : ℕ} {a b c : List Place} {P Q : Place → Type 0} → Reaches n a b P → Reaches n b c Q → Reaches n a c (λ q. P q ⊎ Q q)
reaches_then {n} {a} {b} {c} {P} {Q} r s = record {
  longer = omega (arith, r.longer, s.longer);
  same = λ i lt. s.same i (omega (arith, r.longer)) ∙ r.same i lt;
  only = λ i p e.
      elim (s.only i p e) [
        | inl within ↦ elim (r.only i p (sym (s.same i within) ∙ e)) [ inl lt ↦ inl lt | inr such ↦ inr (inl such) ]
        | inr such ↦ inr (inr such)
      ];
  all = λ p such lt. elim such [ inl first ↦ one_kept s p (r.all p first lt) | inr second ↦ s.all p second lt ];
}

pub reaches_as : {n : ℕ} {a b : List Place} {P Q : Place → Type 0} → ((q : Place) → P q → Q q) → ((q : Place) → Q q → slot q < n → P q) → Reaches n a b P → Reaches n a b Q
reaches_as {n} {a} {b} {P} {Q} to from r = record {
  longer = r.longer;
  same = r.same;
  only = λ i p e. elim (r.only i p e) [ inl lt ↦ inl lt | inr such ↦ inr (to p such) ];
  all = λ p such lt. r.all p (from p such lt) lt;
}

pub goes_none : (walk : Walk) → Goes walk walk (λ q. ⊥)
goes_none walk = record { len = refl; walks = λ w. w; reaches = λ w. reaches_none (length walk.marks.items) walk.reached.items }

pub goes_then : {a b c : Walk} {P Q : Place → Type 0} → Goes a b P → Goes b c Q → Goes a c (λ q. P q ⊎ Q q)
goes_then {a} {b} {c} {P} {Q} r s = record {
  len = s.len ∙ r.len;
  walks = λ w. s.walks (r.walks w);
  reaches = λ w. reaches_then (r.reaches w) (subst (λ (n : ℕ). Reaches n b.reached.items c.reached.items Q) r.len (s.reaches (r.walks w)));
}

pub goes_as : {a b : Walk} {P Q : Place → Type 0} → ((q : Place) → P q → Q q) → ((q : Place) → Q q → slot q < length a.marks.items → P q) → Goes a b P → Goes a b Q
goes_as to from r = record { len = r.len; walks = r.walks; reaches = λ w. reaches_as to from (r.reaches w) }

pub goes_to : {A : Type 0} (a b : Walk) (F : A → Place → Type 0) {x y : A} → x ≡ y → Goes a b (F x) → Goes a b (F y)
goes_to {A} a b F e goes = subst (λ (z : A). Goes a b (F z)) e goes

-- after a call
pub went_as : {E : Type 0} (a b : Walk) (P Q : Place → Type 0) (r : Result (Unit {0}) E) → ((q : Place) → P q → Q q) → ((q : Place) → Q q → P q) → OnOk r (Goes a b P) → OnOk r (Goes a b Q)
went_as a b P Q (Ok x) to from goes = goes_as to (λ q such lt. from q such) goes
went_as a b P Q (Err e) to from goes = tt

pub went_to : {E A : Type 0} (a b : Walk) (F : A → Place → Type 0) {x y : A} (r : Result (Unit {0}) E) → x ≡ y → OnOk r (Goes a b (F x)) → OnOk r (Goes a b (F y))
went_to {E} {A} a b F r e goes = subst (λ (z : A). OnOk r (Goes a b (F z))) e goes

pub went_then : {E : Type 0} (a b c : Walk) (P Q : Place → Type 0) (r : Result (Unit {0}) E) → Goes a b P → OnOk r (Goes b c Q) → OnOk r (Goes a c (λ q. P q ⊎ Q q))
went_then a b c P Q (Ok x) first second = goes_then first second
went_then a b c P Q (Err e) first second = tt

-- each place has a mark of its own
pub slot-same : (p q : Place) → slot p ≡ slot q → p ≡ q
slot-same (Before a) (Before b) e = ap Before (omega arith)
slot-same (After a) (After b) e = ap After (omega arith)
slot-same (Separator a) (Separator b) e = ap Separator (omega arith)
slot-same End End e = refl
slot-same p q e = absurd (omega arith)

pub if_ok : {T E : Type 0} {P Q : T → Type 0} → ((x : T) → P x → Q x) → (r : Result T E) → IfOk r P → IfOk r Q
if_ok each (Ok x) p = each x p
if_ok each (Err e) p = tt

pub on_ok_as : {T E P Q : Type 0} (r : Result T E) → (P → Q) → OnOk r P → OnOk r Q
on_ok_as (Ok x) to p = to p
on_ok_as (Err e) to p = tt
