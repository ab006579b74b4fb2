-- The longest name at the front of a run of kinds, read kind by kind.
use Rattle.std.proofs.Common.{◌≡◌, ◌∙◌, ℕ, zero, suc, ◌≤◌, Bool, true, false, not, ◌||◌, nat_eq, List, [], ◌∷◌, ◌++◌, length, take, if◌then◌else◌, arith, ap, sym, refl, append_assoc}
use Rattle.std.specs.List.{list_any}
use Rattle.std.proofs.lemmas.List.{append-nil, take_all, take-append-le, length_push}
use Rattle.std.proofs.lemmas.List.Folds.{list_any-append}
use Rattle.std.proofs.Math.Bool.{or-false, or-true}
use Rattle.squawk_parser.specs.Operators.{is_sign, is_special, ends_in_sign, is_operator_name, longest_name}

-- the longest name so far, after one more kind: special is whether one of the kinds is, that one included
unfoldable pub longest_after : (len : ℕ) (special : Bool) (longest kind : ℕ) → ℕ
longest_after len special longest kind = if nat_eq len 1 || not (is_sign kind) || special then len else longest

module _ (len : ℕ) (special : Bool) (longest kind : ℕ) where
  -- one kind is a name
  pub longest_after-one : len ≡ 1 → longest_after len special longest kind ≡ len
  unfolding longest_after
  longest_after-one one = rw one refl

  -- so are kinds with a special one among them
  pub longest_after-special : special ≡ true → longest_after len special longest kind ≡ len
  unfolding longest_after
  longest_after-special some = rw (some, or-true (nat_eq len 1 || not (is_sign kind))) refl

  -- and kinds of which the last isn't a sign
  pub longest_after-no_sign : is_sign kind ≡ false → longest_after len special longest kind ≡ len
  unfolding longest_after
  longest_after-no_sign last = rw (last, or-true (nat_eq len 1)) refl

  -- other kinds are none, and the longest name stays
  pub longest_after-sign : (len ≡ 1 → ⊥) → special ≡ false → is_sign kind ≡ true → longest_after len special longest kind ≡ longest
  unfolding longest_after
  longest_after-sign more none last =
      let several : nat_eq len 1 ≡ false = grind arith in
      rw (several, none, last) refl

-- the longest name of a run of which len kinds were read
unfoldable pub longest_from : (len : ℕ) (special : Bool) (longest : ℕ) → List ℕ → ℕ
longest_from len special longest [] = longest
longest_from len special longest (kind ∷ rest) =
    longest_from (suc len) (special || is_special kind) (longest_after (suc len) (special || is_special kind) longest kind) rest

-- the last kind decides whether a run ends in a sign
ends_in_sign-push : (kinds : List ℕ) (kind : ℕ) → ends_in_sign (kinds ++ kind ∷ []) ≡ is_sign kind
ends_in_sign-push [] kind = refl
ends_in_sign-push (first ∷ []) kind = refl
ends_in_sign-push (first ∷ second ∷ rest) kind = ends_in_sign-push (second ∷ rest) kind

-- and it makes the run special, or one before it does
special-push : (kinds : List ℕ) (kind : ℕ) → list_any is_special (kinds ++ kind ∷ []) ≡ (list_any is_special kinds || is_special kind)
special-push kinds kind = list_any-append is_special kinds (kind ∷ []) ∙ ap (λ last. list_any is_special kinds || last) (or-false (is_special kind))

-- so the two and the length decide whether the run is a name
pub name-push : (kinds : List ℕ) (kind : ℕ)
    → is_operator_name (kinds ++ kind ∷ []) ≡ (nat_eq (suc (length kinds)) 1 || not (is_sign kind) || (list_any is_special kinds || is_special kind))
name-push kinds kind =
    let len : length (kinds ++ kind ∷ []) ≡ suc (length kinds) = omega (arith, length_push kinds kind) in
    of_parts len (ends_in_sign-push kinds kind) (special-push kinds kind)
  where
    of_parts : {n len : ℕ} {ends sign any special : Bool} → n ≡ len → ends ≡ sign → any ≡ special
        → (nat_eq n 1 || not ends || any) ≡ (nat_eq len 1 || not sign || special)
    of_parts same_len same_end same_special = rw (same_len, same_end, same_special) refl

-- what comes behind the first n kinds doesn't matter to the names among them
longest_name-front : (kinds more : List ℕ) (n : ℕ) → n ≤ length kinds → longest_name (kinds ++ more) n ≡ longest_name kinds n
longest_name-front kinds more zero le = refl
longest_name-front kinds more (suc n) le =
    ap (λ front. if is_operator_name front then suc n else longest_name (kinds ++ more) n) (take-append-le (suc n) kinds more le)
    ∙ ap (λ shorter. if is_operator_name (take (suc n) kinds) then suc n else shorter) (longest_name-front kinds more n (omega arith))

-- the longest name, after one more kind
longest_name-push : (kinds : List ℕ) (kind : ℕ)
    → longest_name (kinds ++ kind ∷ []) (suc (length kinds))
    ≡ longest_after (suc (length kinds)) (list_any is_special kinds || is_special kind) (longest_name kinds (length kinds)) kind
unfolding longest_after
longest_name-push kinds kind =
    let run = kinds ++ kind ∷ [] in
    let len = suc (length kinds) in
    let all : take len run ≡ run = take_all len run (omega (arith, length_push kinds kind)) in
    let special = list_any is_special kinds || is_special kind in
    ap (λ name. if name then len else longest_name run (length kinds)) (ap is_operator_name all ∙ name-push kinds kind)
    ∙ ap (λ shorter. longest_after len special shorter kind) (longest_name-front kinds (kind ∷ []) (length kinds) (omega arith))

-- reading on depends on what was read only by these three
pub longest_from-same : {len n : ℕ} {special any : Bool} {longest name : ℕ} (rest : List ℕ) → len ≡ n → special ≡ any → longest ≡ name
    → longest_from len special longest rest ≡ longest_from n any name rest
longest_from-same rest same_len same_special same_longest = rw (same_len, same_special, same_longest) refl

-- reading on from the first kinds finds the longest name of the run
longest_from-front : (kinds rest : List ℕ)
    → longest_from (length kinds) (list_any is_special kinds) (longest_name kinds (length kinds)) rest ≡ longest_name (kinds ++ rest) (length (kinds ++ rest))
unfolding longest_from
longest_from-front kinds [] = ap (λ run. longest_name run (length run)) (sym (append-nil kinds))
longest_from-front kinds (kind ∷ rest) =
    let more = kinds ++ kind ∷ [] in
    let len : suc (length kinds) ≡ length more = omega (arith, length_push kinds kind) in
    longest_from-same rest len (sym (special-push kinds kind)) (sym (longest_name-push kinds kind) ∙ ap (longest_name more) len)
    ∙ (longest_from-front more rest ∙ ap (λ run. longest_name run (length run)) (append_assoc kinds (kind ∷ []) rest))

-- and reading from the start finds it
pub longest_from-start : (run : List ℕ) → longest_from 0 false 0 run ≡ longest_name run (length run)
longest_from-start run = longest_from-front [] run

-- one kind more makes the longest name no shorter, and no longer than what was read
pub longest_after-bounds : (len : ℕ) (special : Bool) (longest kind : ℕ) → longest ≤ len
    → (longest ≤ longest_after len special longest kind) × (longest_after len special longest kind ≤ len)
unfolding longest_after
longest_after-bounds len special longest kind le = cases (nat_eq len 1 || not (is_sign kind) || special)
  where
    cases : (b : Bool) → (longest ≤ (if b then len else longest)) × ((if b then len else longest) ≤ len)
    cases true = (le, omega arith)
    cases false = (omega arith, le)

-- so reading on finds no shorter one
pub longest_from-grows : (rest : List ℕ) (len : ℕ) (special : Bool) (longest : ℕ) → longest ≤ len → longest ≤ longest_from len special longest rest
unfolding longest_from
longest_from-grows [] len special longest le = omega arith
longest_from-grows (kind ∷ rest) len special longest le =
    let any = special || is_special kind in
    let after = longest_after-bounds (suc len) any longest kind (omega (arith, le)) in
    omega (arith, after.0, longest_from-grows rest (suc len) any (longest_after (suc len) any longest kind) after.1)
