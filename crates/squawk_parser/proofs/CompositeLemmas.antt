-- Where composite kinds stand, part by part.
use Rattle.std.proofs.Common.{◌≡◌, ℕ, zero, suc, ◌+◌, ◌<◌, ◌≤◌, ◌==◌, ◌&&◌, ◌||◌, not, nat_lt, Bool, true, false, List, [], ◌∷◌, length, drop, get_or, map, arith, add-one, ap, refl, inl, inr}
use Rattle.std.specs.Prelude.{Option, Some, None, option_map, if◌then◌else◌}
use Rattle.std.specs.List.{list_any}
use Rattle.std.proofs.Math.Seq.{drop-cons}
use Rattle.std.proofs.lemmas.Bool.{cases_Bool}
use Rattle.std.proofs.lemmas.Bool.Decides.{nat_tests}
use Rattle.std.proofs.lemmas.List.{drop-drop, drop_all, length-drop}
use Rattle.squawk_parser.specs.Composites.{are_joint, sequence_length, normal_forms}
use Rattle.squawk_kinds.specs.Kinds.{UNICODE_NORMAL_FORM}
use Rattle.squawk_parser.specs.CompositeForms.{element_of}
use Rattle.squawk_parser.specs.LookAhead.{is_joint_next}
use Rattle.squawk_table.specs.ParserInput.{Entry, kind_in}

-- the first of the tokens from index i on is token i
pub kind_in-drop : (seen : List Entry) (i : ℕ) → kind_in (drop i seen) 0 ≡ kind_in seen i
kind_in-drop seen zero = refl
kind_in-drop [] (suc i) = refl
kind_in-drop (e ∷ seen) (suc i) = kind_in-drop seen i

-- whether nothing is left behind index i
no_more : (parts : List ℕ) (i : ℕ) → i < length parts → (length (drop (suc i) parts) == 0) ≡ not (nat_lt (i + 1) (length parts))
no_more parts i lt = rw (length-drop (suc i) parts) (grind (arith, nat_tests))

-- parts from index i on touch where the first of them stands, touches what is behind it if there is another, and the others touch
pub are_joint-next : (parts : List ℕ) (seen : List Entry) (i : ℕ) → i < length parts
    → are_joint (drop i parts) (drop i seen)
    ≡ ((kind_in seen i == get_or parts i 0) && (not (nat_lt (i + 1) (length parts)) || is_joint_next (drop i seen)) && are_joint (drop (i + 1) parts) (drop (i + 1) seen))
are_joint-next parts seen i lt =
    rw (drop-cons parts i 0 lt, kind_in-drop seen i, no_more parts i lt, drop-drop 1 i seen, add-one) refl

-- no parts are left to stand behind the last
pub are_joint-end : (parts : List ℕ) (seen : List Entry) (i : ℕ) → length parts ≤ i → are_joint (drop i parts) (drop i seen) ≡ true
are_joint-end parts seen i le = ap (λ xs. are_joint xs (drop i seen)) (drop_all i parts le)

-- ---- sequences

-- how many tokens a sequence has at the front, if it stands there, where its parts before index i have len of them
pub length_with : List ℕ → List Entry → ℕ → ℕ → Option ℕ
length_with parts seen i len = option_map (λ n. len + n) (sequence_length (map element_of (drop i parts)) (drop len seen))

-- one token more behind len, or one more before the others
one_more : (len : ℕ) (count : Option ℕ) → option_map (λ n. len + n) (option_map suc count) ≡ option_map (λ n. (len + 1) + n) count
one_more len None = refl
one_more len (Some n) = ap Some (omega arith)

-- the same where the token may be missing
counted : (stands : Bool) (len : ℕ) (more less : Option ℕ)
    → option_map (λ n. len + n) (if stands then option_map suc more else less) ≡ (if stands then option_map (λ n. (len + 1) + n) more else option_map (λ n. len + n) less)
counted true len more less = one_more len more
counted false len more less = refl

-- before the first part there is no token
from_none : (count : Option ℕ) → option_map (λ n. 0 + n) count ≡ count
from_none None = refl
from_none (Some n) = ap Some (omega arith)

-- from the first part on these are all
pub length_with-start : (parts : List ℕ) (seen : List Entry) → length_with parts seen 0 0 ≡ sequence_length (map element_of parts) seen
unfolding length_with
length_with-start parts seen = from_none (sequence_length (map element_of parts) seen)

-- behind the last part there are none
pub length_with-end : (parts : List ℕ) (seen : List Entry) (i len : ℕ) → length parts ≤ i → length_with parts seen i len ≡ Some len
unfolding length_with
length_with-end parts seen i len le = rw (drop_all i parts le) (ap Some (omega arith))

-- the next part has a token, or none where it is a normal form that is left out; without its token the sequence doesn't stand
pub length_with-next : (parts : List ℕ) (seen : List Entry) (i len : ℕ) → i < length parts
    → length_with parts seen i len
    ≡ (if get_or parts i 0 == UNICODE_NORMAL_FORM
    then (if list_any (λ form. kind_in seen len == form) normal_forms then length_with parts seen (i + 1) (len + 1) else length_with parts seen (i + 1) len)
    else (if kind_in seen len == get_or parts i 0 then length_with parts seen (i + 1) (len + 1) else None))
unfolding length_with
length_with-next parts seen i len lt =
    elim (cases_Bool (get_or parts i 0 == UNICODE_NORMAL_FORM)) [
      | inl e ↦ rw (drop-cons parts i 0 lt, e, kind_in-drop seen len, drop-drop 1 len seen, add-one i) (counted _ len _ _)
      | inr e ↦ rw (drop-cons parts i 0 lt, e, kind_in-drop seen len, drop-drop 1 len seen, add-one i) (counted _ len _ None)
    ]
