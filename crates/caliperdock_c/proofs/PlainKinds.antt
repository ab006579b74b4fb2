-- Kinds without fields, by segments of their numbers.
use Rattle.std.proofs.Common.{◌≡◌, ◌∙◌, ℕ, ◌+◌, ◌-◌, ◌<◌, ◌≤◌, List, Option, Some, None, ap, arith, drop, get_or, length, map, subst, sym, take}
use Rattle.std.proofs.Math.ListN.{get_or-map}
use Rattle.std.proofs.lemmas.List.{get_or-drop, get_or-take, get_or_default, length-map}

module _ {X : Type 0} (plain : List X) (kinds : List (Option X)) (from n : ℕ) (same : map Some (take n (drop from plain)) ≡ take n (drop from kinds)) (whole : length (take n (drop from plain)) ≡ n) where
  at : (j : ℕ) (d : X) → j < n → Some (get_or plain (from + j) d) ≡ get_or kinds (from + j) None
  at j d lt =
      let some = map Some (take n (drop from plain)) in
      sym (ap Some (get_or-take n (drop from plain) j d lt ∙ get_or-drop from plain j d))
      ∙ (sym (get_or-map Some (take n (drop from plain)) j d)
      ∙ (get_or_default some j (Some d) None (omega (arith, whole, lt, length-map (take n (drop from plain)) Some))
      ∙ (ap (λ xs. get_or xs j None) same
      ∙ (get_or-take n (drop from kinds) j None lt ∙ get_or-drop from kinds j None))))

  pub in_segment : (k : ℕ) (d : X) → from ≤ k → k < from + n → Some (get_or plain k d) ≡ get_or kinds k None
  in_segment k d le lt =
      let is : from + (k - from) ≡ k = omega (arith, le) in
      subst (λ i. Some (get_or plain i d) ≡ get_or kinds i None) is (at (k - from) d (omega (arith, le, lt)))
