-- The longest name at the front of a run, by its last special kind and its last kind that is no sign.
use Rattle.std.proofs.Common.{◌≡◌, ◌∙◌, ℕ, zero, suc, ◌+◌, ◌<◌, ◌≤◌, ◌==◌, true, false, not, ◌||◌, nat_eq, List, [], ◌∷◌, length, take, get_or, if◌then◌else◌, ◌-◌, ◌⊎◌, inl, inr, add-suc, add-zero, add-one, arith, ap, sym, refl}
use Rattle.std.specs.List.{list_any}
use Rattle.std.proofs.lemmas.List.{take_all, length-take-le}
use Rattle.std.proofs.lemmas.List.Folds.{list_any_at, list_any_more}
use Rattle.std.proofs.Math.Seq.{take-suc}
use Rattle.std.proofs.Math.Bool.{or-false, or-true}
use Rattle.squawk_parser.specs.Operators.{is_sign, is_special, ends_in_sign, is_operator_name, longest_name}
use Rattle.squawk_parser.proofs.OperatorLength.{name-push}

-- a run with a special kind is a name
pub longest-special : (run : List ℕ) (k : ℕ) → k < length run → is_special (get_or run k 0) ≡ true → longest_name run (length run) ≡ length run
longest-special run k lt special = whole run (list_any_at is_special run k 0 lt special)
  where
    whole : (kinds : List ℕ) → list_any is_special kinds ≡ true → longest_name kinds (length kinds) ≡ length kinds
    whole [] some = refl
    whole (kind ∷ rest) some =
        let kinds = kind ∷ rest in
        let all : take (suc (length rest)) kinds ≡ kinds = take_all (suc (length rest)) kinds (omega arith) in
        let name : is_operator_name kinds ≡ true =
        ap (λ any. (length kinds == 1) || not (ends_in_sign kinds) || any) some ∙ or-true ((length kinds == 1) || not (ends_in_sign kinds)) in
        ap (λ b. if b then suc (length rest) else longest_name kinds (length rest)) (ap is_operator_name all ∙ name)

-- none of these kinds is special
module _ (run : List ℕ) (none : (k : ℕ) → k < length run → is_special (get_or run k 0) ≡ false) where
  front-none : (n : ℕ) → n ≤ length run → list_any is_special (take n run) ≡ false
  front-none zero le = refl
  front-none (suc n) le =
      let more = list_any_more is_special run n 0 (omega arith) in
      let here = none n (omega arith) in
      rw (← add-one n, more, front-none n (omega arith), here) refl

  -- so a front of several is a name where its last kind is no sign
  front-name : (n : ℕ) → n < length run → is_operator_name (take (suc n) run) ≡ (nat_eq (suc n) 1 || not (is_sign (get_or run n 0)))
  front-name n lt =
      let len : length (take n run) ≡ n = length-take-le n run (omega arith) in
      let here = none n lt in
      let before = front-none n (omega arith) in
      ap is_operator_name (take-suc run n 0 lt)
      ∙ (name-push (take n run) (get_or run n 0) ∙ rw (len, before, here, or-false (nat_eq (suc n) 1 || not (is_sign (get_or run n 0)))) refl)

  -- and with signs behind it, it is the longest
  module _ (n : ℕ) (ends : (n ≡ 0) ⊎ (is_sign (get_or run n 0) ≡ false)) where
    longest-name : n < length run → longest_name run (suc n) ≡ suc n
    longest-name lt = ap (λ b. if b then suc n else longest_name run n) (front-name n lt ∙ name ends)
      where
        name : (n ≡ 0) ⊎ (is_sign (get_or run n 0) ≡ false) → (nat_eq (suc n) 1 || not (is_sign (get_or run n 0))) ≡ true
        name (inl one) = rw one refl
        name (inr other) = rw (other, or-true (nat_eq (suc n) 1)) refl

    longest-behind : (j : ℕ) → n + j < length run → ((k : ℕ) → n < k → k ≤ n + j → is_sign (get_or run k 0) ≡ true) → longest_name run (suc (n + j)) ≡ suc n
    longest-behind zero lt signs = rw (add-zero n) (longest-name (omega arith))
    longest-behind (suc j) lt signs =
        let m = suc (n + j) in
        let same : n + suc j ≡ m = add-suc n j in
        let below : m < length run = omega arith in
        let sign : is_sign (get_or run m 0) ≡ true = signs m (omega arith) (omega arith) in
        let several : nat_eq (suc m) 1 ≡ false = grind arith in
        let no_name : is_operator_name (take (suc m) run) ≡ false = front-name m below ∙ rw (sign, several) refl in
        ap (λ len. longest_name run (suc len)) same
        ∙ (ap (λ b. if b then suc m else longest_name run m) no_name ∙ longest-behind j (omega arith) (λ k above le. signs k above (omega arith)))

    pub longest-other : n < length run → ((k : ℕ) → n < k → k < length run → is_sign (get_or run k 0) ≡ true) → longest_name run (length run) ≡ suc n
    longest-other lt signs =
        let j = length run - suc n in
        let all : suc (n + j) ≡ length run = omega arith in
        ap (longest_name run) (sym all) ∙ longest-behind j (omega arith) (λ k above le. signs k above (omega arith))
