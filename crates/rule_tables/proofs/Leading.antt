-- The rows that lead to one, from the last on.
use Rattle.std.proofs.Common.{◌≡◌, ℕ, ◌<◌, ◌≤◌, ◌⊎◌, true, false, inl, inr, List, length, Option, Some, None, slice_get, arith, refl, sym, subst, ap, ◌∙◌}
use Rattle.std.proofs.lemmas.Bool.{cases_eq, cases_lt, eq-eqb, eqb-true}
use Rattle.std.proofs.lemmas.Option.{slice_get_within}
use Rattle.rule_grammar.specs.declared.part.Part.{Part}
use Rattle.rule_grammar.specs.declared.part.Part.TheVariants.{Arm}
use Rattle.rule_tables.specs.Maps.{is_number, leads_to}
use Rattle.rule_tables.specs.Places.{IsLed, Leads, goal_of, last_below, leads_as, led_to, outer_of}
use Rattle.rule_tables.specs.Walks.{Goes, IsLedWithin}
use Rattle.rule_tables.specs.declared.place.Place.{Place}
use Rattle.rule_tables.specs.declared.place.Way.{Way}
use Rattle.rule_tables.specs.declared.place.Way.TheVariants as way
use Rattle.rule_tables.specs.declared.walk.Walk.{Walk}
use Rattle.rule_tables.proofs.Below.{last-none, last-some}
use Rattle.rule_tables.proofs.Walking.{goes_as, goes_none, goes_then}

pub leads_there : (h : ℕ) (goal : Option ℕ) → goal ≡ Some h → is_number h goal ≡ true
leads_there h goal e = rw e (eq-eqb h h refl)

pub there : (h : ℕ) (goal : Option ℕ) → is_number h goal ≡ true → goal ≡ Some h
there h None e = absurd cc
there h (Some g) e = ap Some (eqb-true g h e)

-- a row that leads is one of the rows
within_row : (rows : List Part) (way : Way) (k : ℕ) (row : Option Part) → slice_get rows k ≡ row → leads_as way row ≡ true → k < length rows
within_row rows w k (Some part) e leads = slice_get_within rows k part e
within_row rows way.Arm k None e leads = absurd cc
within_row rows way.Tail k None e leads = absurd cc
within_row rows way.Call k None e leads = absurd cc

pub leads_within : (rows : List Part) (way : Way) (h k : ℕ) → Leads rows way h k → k < length rows
leads_within rows w h k leads = within_row rows w k (slice_get rows k) refl leads.by

goal_row : (rows : List Part) (h k : ℕ) (row : Option Part) → slice_get rows k ≡ row → is_number h (goal_of rows k row) ≡ true → k < length rows
goal_row rows h k (Some part) e leads = slice_get_within rows k part e
goal_row rows h k None e leads = absurd cc

pub goal_within : (rows : List Part) (h k : ℕ) → leads_to rows h k ≡ true → k < length rows
goal_within rows h k leads = goal_row rows h k (slice_get rows k) refl leads

-- an arm is after the row that it is in
arm_goal : (rows : List Part) (k : ℕ) (row : Option Part) → leads_as way.Arm row ≡ true → goal_of rows k row ≡ outer_of rows k
arm_goal rows k (Some (Arm end)) leads = refl
arm_goal rows k row leads = absurd cc

pub arm_within : (rows : List Part) (h : ℕ) (q : Place) → IsLed rows way.Arm h q → h < length rows
arm_within rows h q led =
    let in_row : outer_of rows led.row ≡ Some h = sym (arm_goal rows led.row (slice_get rows led.row) led.leads.by) ∙ led.leads.goal in
    let below : h < led.row = (last-some _ led.row h in_row).0 in
    let within : led.row < length rows = leads_within rows way.Arm h led.row led.leads in
    omega arith

pub led_from : (rows : List Part) (way : Way) (h : ℕ) (q : Place) → h < length rows → IsLed rows way h q → IsLedWithin rows way h q
led_from rows w h q lt led = record { within = lt; row = led.row; leads = led.leads; is = led.is }

pub led_to_all : (rows : List Part) (way : Way) (h : ℕ) (q : Place) → IsLedWithin rows way h q → IsLed rows way h q
led_to_all rows w h q led = record { row = led.row; leads = led.leads; is = led.is }

-- so far: from row m on
pub record IsLedBy (rows : List Part) (way : Way) (h m : ℕ) (q : Place) : Type 0 where
  pub led : IsLedWithin rows way h q
  pub past : m ≤ led.row

pub record IsLeading (rows : List Part) (way : Way) (h : ℕ) (begun now : Walk) (at : Option ℕ) : Type 0 where
  pub m : ℕ
  pub is : at ≡ last_below (leads_to rows h) m
  pub goes : Goes begun now (IsLedBy rows way h m)

pub leading_first : (rows : List Part) (way : Way) (h : ℕ) (walk : Walk) (at : Option ℕ) → at ≡ last_below (leads_to rows h) (length rows) → IsLeading rows way h walk walk at
leading_first rows w h walk at is = record {
  m = length rows;
  is = is;
  goes = goes_as (λ q none. absurd none) (λ q led lt. let within : led.led.row < length rows = leads_within rows w h led.led.row led.led.leads in let past : length rows ≤ led.led.row = led.past in absurd (omega arith)) (goes_none walk);
}

module _ (rows : List Part) (way : Way) (h : ℕ) (within : h < length rows) (begun now next : Walk) (at : Option ℕ) (leading : IsLeading rows way h begun now at) where
  -- none is left
  pub leading_none : at ≡ None → Goes begun now (IsLedWithin rows way h)
  leading_none is =
      goes_as (λ q led. led.led)
      (λ q led lt. record {
        led = led;
        past = elim (cases_lt led.row leading.m) [
          | inl before ↦
              let none : leads_to rows h led.row ≡ false = last-none (leads_to rows h) leading.m (sym leading.is ∙ is) led.row before in
              let some : leads_to rows h led.row ≡ true = leads_there h (goal_of rows led.row (slice_get rows led.row)) led.leads.goal in
              absurd cc
          | inr after ↦ after
        ];
      })
      leading.goes

  module _ (k : ℕ) (is : at ≡ Some k) where
    pub leading_row : (k < leading.m) × (leads_to rows h k ≡ true) × ((i : ℕ) → k < i → i < leading.m → leads_to rows h i ≡ false)
    leading_row = last-some (leads_to rows h) leading.m k (sym leading.is ∙ is)

    -- the rows that lead from row k on are row k and those so far
    past_or : (i : ℕ) → leads_to rows h i ≡ true → k < i → leading.m ≤ i
    past_or i leads after =
        elim (cases_lt i leading.m) [
          | inl before ↦ let none : leads_to rows h i ≡ false = leading_row.2 i after before in absurd cc
          | inr past ↦ past
        ]

    one_more : (q : Place) → IsLedBy rows way h k q → IsLedBy rows way h leading.m q ⊎ ((leads_as way (slice_get rows k) ≡ true) × (q ≡ led_to way k))
    one_more q led =
        let past : k ≤ led.led.row = led.past in
        elim (cases_eq led.led.row k) [
          | inl same ↦ inr (subst (λ (i : ℕ). leads_as way (slice_get rows i) ≡ true) same led.led.leads.by, led.led.is ∙ ap (led_to way) same)
          | inr other ↦ inl (record { led = led.led; past = past_or led.led.row (leads_there h (goal_of rows led.led.row (slice_get rows led.led.row)) led.led.leads.goal) (omega arith) })
        ]

    pub leading_next : (earlier : Option ℕ) → earlier ≡ last_below (leads_to rows h) k → Goes now next (λ q. (leads_as way (slice_get rows k) ≡ true) × (q ≡ led_to way k)) → IsLeading rows way h begun next earlier
    leading_next earlier before goes = record {
      m = k;
      is = before;
      goes = goes_as
          (λ q led. elim led [
            | inl old ↦ let past : leading.m ≤ old.led.row = old.past in record { led = old.led; past = omega (arith, leading_row.0) }
            | inr new ↦ record {
              led = record { within = within; row = k; leads = record { by = new.0; goal = there h (goal_of rows k (slice_get rows k)) leading_row.1 }; is = new.1 };
              past = omega arith;
            }
          ])
          (λ q led lt. one_more q led)
          (goes_then leading.goes goes);
    }
