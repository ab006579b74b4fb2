-- Texts are ordered byte by byte.
use Rattle.std.proofs.Common.{◌≡◌, ℕ, ◌&&◌, List, [], ◌∷◌, zero, suc, length, map, min, drop, not, refl, sym, ◌∙◌, arith}
use Rattle.std.specs.Char.{to_ascii_lowercase}
use Rattle.std.specs.Cmp.Lexicographic.{slice_cmp}
use Rattle.std.specs.Ordering.{is_eq, is_lt, nat_cmp, ordering_reverse}
use Rattle.std.specs.declared.cmp.Ordering.TheVariants.{Less, Equal, Greater}
use Rattle.std.specs.declared.cmp.Ordering.{Ordering}
use Rattle.std.specs.Str.{bytes_eq}
use Rattle.std.proofs.lemmas.Bool.Decides.{nat_tests}
use Rattle.std.proofs.lemmas.Cmp.{nat_list_cmp_total, same_from_slice_cmp}

-- how two texts are ordered from a byte on, without regard to case
abbrev pub order_from : ℕ → List ℕ → List ℕ → Ordering
order_from i one other = slice_cmp nat_cmp (map to_ascii_lowercase (drop i one)) (map to_ascii_lowercase (drop i other))

-- where one of them ends, the lengths decide
pub order_from-end : (i : ℕ) (one other : List ℕ) → i ≡ min (length one) (length other) → order_from i one other ≡ nat_cmp (length one) (length other)
order_from-end zero [] [] is = refl
order_from-end zero [] (b ∷ other) is = grind (arith, nat_tests)
order_from-end zero (a ∷ one) [] is = grind (arith, nat_tests)
order_from-end zero (a ∷ one) (b ∷ other) is = absurd (omega arith)
order_from-end (suc i) [] other is = absurd (omega arith)
order_from-end (suc i) (a ∷ one) [] is = absurd (omega arith)
order_from-end (suc i) (a ∷ one) (b ∷ other) is = order_from-end i one other (omega arith) ∙ lengths (length one) (length other)
  where
    lengths : (m n : ℕ) → nat_cmp m n ≡ nat_cmp (suc m) (suc n)
    lengths m n = grind (arith, nat_tests)

-- ---- what an order says

-- texts are equal where they are ordered so
pub is_eq-same : (one other : List ℕ) → is_eq (slice_cmp nat_cmp one other) ≡ bytes_eq one other
is_eq-same one other = same_from_slice_cmp nat_cmp is_eq bytes_eq refl (λ _ _. refl) (λ _ _. refl) (λ x y xs ys o h. grind (arith, nat_tests)) one other (slice_cmp nat_cmp one other) refl

-- and where neither is below the other
pub same-ties : (one other : List ℕ) → bytes_eq one other ≡ (not (is_lt (slice_cmp nat_cmp other one)) && not (is_lt (slice_cmp nat_cmp one other)))
same-ties one other = sym (is_eq-same one other) ∙ by_order (slice_cmp nat_cmp one other) (slice_cmp nat_cmp other one) (nat_list_cmp_total.antisymm other one)
  where
    by_order : (o back : Ordering) → back ≡ ordering_reverse o → is_eq o ≡ (not (is_lt back) && not (is_lt o))
    by_order Less back e = rw e refl
    by_order Equal back e = rw e refl
    by_order Greater back e = rw e refl
