-- A walk by a rule.
use Rattle.std.proofs.Common.{◌≡◌, ◌∙◌, ℕ, zero, suc, ◌<◌, ◌≤◌, List, [], ◌∷◌, ◌++◌, length, arith, ap, sym, refl, subst}
use Rattle.syntax_tree.specs.Walks.{Turn, Ends, Gives, with_more, given_from}

-- What a turn gives is the first of what was left, and less is left then than was allowed.
pub record Goes {W S : Type 0} (rule : W → Turn W S) (n : ℕ) (w : W) (s : S) (next : W) : Type 0 where
  pub gives : given_from rule n w ≡ s ∷ given_from rule n next
  pub few : length (given_from rule n next) < n

module _ {W S : Type 0} (rule : W → Turn W S) where
  -- ---- an amount that isn't used up may be larger

  more_at_turn : (n : ℕ) (t : Turn W S) → ((w : W) → length (given_from rule n w) < n → given_from rule (suc n) w ≡ given_from rule n w)
      → length (with_more (given_from rule n) t) < suc n → with_more (given_from rule (suc n)) t ≡ with_more (given_from rule n) t
  more_at_turn n Ends same few = refl
  more_at_turn n (Gives s w) same few = ap (λ l. s ∷ l) (same w (omega (arith, few)))

  more : (n : ℕ) (w : W) → length (given_from rule n w) < n → given_from rule (suc n) w ≡ given_from rule n w
  more zero w few = absurd (omega (arith, few))
  more (suc n) w few = more_at_turn n (rule w) (more n) few

  pub goes : (n : ℕ) (w : W) (s : S) (next : W) → length (given_from rule n w) < n → rule w ≡ Gives s next → Goes rule n w s next
  goes zero w s next few turn = absurd (omega (arith, few))
  goes (suc n) w s next few turn =
      let is : given_from rule (suc n) w ≡ s ∷ given_from rule n next = ap (with_more (given_from rule n)) turn in
      let fewer : length (given_from rule n next) < n = omega (arith, few, ap length is) in
      let same : given_from rule (suc n) next ≡ given_from rule n next = more n next fewer in
      record { gives = is ∙ ap (λ l. s ∷ l) (sym same); few = omega (arith, fewer, ap length same) }

  pub stops : (n : ℕ) (w : W) → rule w ≡ Ends → given_from rule n w ≡ []
  stops zero w turn = refl
  stops (suc n) w turn = ap (with_more (given_from rule n)) turn

  -- ---- a walk leads from one place to another, and gives a list on the way

  abbrev pub Leads : W → List S → W → Type 0
  Leads w [] end = w ≡ end
  Leads w (s ∷ list) end = (next : W) × (rule w ≡ Gives s next) × Leads next list end

  pub leads_on : (w middle end : W) (list others : List S) → Leads w list middle → Leads middle others end → Leads w (list ++ others) end
  leads_on w middle end [] others leads on = subst (λ v. Leads v others end) (sym leads) on
  leads_on w middle end (s ∷ list) others leads on = (leads.0, leads.1, leads_on leads.0 middle end list others leads.2 on)

  -- what is given is the list, where the walk then ends
  pub all_given : (n : ℕ) (w end : W) (list : List S) → Leads w list end → rule end ≡ Ends → length list ≤ n → given_from rule n w ≡ list
  all_given n w end [] leads ends few = stops n w (ap rule leads ∙ ends)
  all_given zero w end (s ∷ list) leads ends few = absurd (omega (arith, few))
  all_given (suc n) w end (s ∷ list) leads ends few =
      ap (with_more (given_from rule n)) leads.1 ∙ ap (λ l. s ∷ l) (all_given n leads.0 end list leads.2 ends (omega (arith, few)))
