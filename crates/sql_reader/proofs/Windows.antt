-- Bytes in memory, where the front goes.
use Rattle.std.proofs.Common.{◌≡◌, ◌∙◌, ℕ, ◌+◌, ◌-◌, ◌≤◌, List, ◌++◌, drop, length, take, arith, ap, sym, length-drop, take-append-drop, take_all}
use Rattle.std.specs.List.{copy_within}
use Rattle.std.proofs.Math.Seq.{take-append_seam}
use lib.Seq.{take-add}

module _ (xs : List ℕ) (gone : ℕ) (within : gone ≤ length xs) where
  -- what stays is moved to the front
  pub moved : take (length xs - gone) (copy_within xs gone (length xs) 0) ≡ drop gone xs
  moved =
      let n = length xs - gone in
      let size : length (drop gone xs) ≡ n = length-drop gone xs in
      let all : take n (drop gone xs) ≡ drop gone xs = take_all n (drop gone xs) (omega (arith, size)) in
      ap (λ m. take m (take n (drop gone xs) ++ drop (0 + n) xs)) (sym size ∙ ap length (sym all)) ∙ (take-append_seam (take n (drop gone xs)) (drop (0 + n) xs) ∙ all)

module _ (xs : List ℕ) (start count gone : ℕ) (within : gone ≤ start + count) where
  pub kept_gone : take start xs ++ take count (drop start xs) ≡ take gone (take start xs ++ drop start xs) ++ take (start + count - gone) (drop gone xs)
  kept_gone =
      let sum : start + count ≡ gone + (start + count - gone) = omega (arith, within) in
      sym (take-add start count xs)
      ∙ (ap (λ n. take n xs) sum ∙ (take-add gone (start + count - gone) xs ∙ ap (λ ys. take gone ys ++ take (start + count - gone) (drop gone xs)) (sym (take-append-drop start xs))))
