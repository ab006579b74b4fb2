-- The raw tokens of a table that are left from one on.
use Rattle.std.proofs.Common.{◌≡◌, ℕ, suc, ◌+◌, ◌-◌, ◌<◌, ◌≤◌, true, false, [], ◌∷◌, length, slice_index, arith, ap, refl}
use Rattle.squawk_kinds.specs.Kinds.{is_trivia}
use Rattle.squawk_table.specs.RawTable.{Table, raw_at, raw_from, raw_after, raw_tokens}
use Rattle.squawk_kinds.specs.Keywords.{Keywords}
use Rattle.squawk_table.specs.ParserInput.{entry_for, entries_of}

pub raw_after-next : (t : Table) (i : ℕ) → i < length t.kinds → raw_after t i ≡ raw_at t i ∷ raw_after t (i + 1)
raw_after-next t i lt =
    let left : length t.kinds - i ≡ suc (length t.kinds - (i + 1)) = omega arith in
    ap (λ n. raw_from t i n) left

pub raw_after-end : (t : Table) (i : ℕ) → length t.kinds ≤ i → raw_after t i ≡ []
raw_after-end t i le =
    let left : length t.kinds - i ≡ 0 = omega arith in
    ap (λ n. raw_from t i n) left

-- from the first on they are all
pub raw_after-start : (t : Table) → raw_after t 0 ≡ raw_tokens t
raw_after-start t =
    let left : length t.kinds - 0 ≡ length t.kinds = omega arith in
    ap (λ n. raw_from t 0 n) left

-- one more raw token: one that isn't trivia is the next entry
pub entries_of-token : (contextual : Keywords) (t : Table) (i : ℕ) → i < length t.kinds → is_trivia (slice_index t.kinds i) ≡ false
    → entries_of contextual (raw_after t i) ≡ entry_for contextual (raw_at t i) (raw_after t (i + 1)) ∷ entries_of contextual (raw_after t (i + 1))
entries_of-token contextual t i lt e = rw (raw_after-next t i lt, e) refl

-- and one that is trivia is none
pub entries_of-trivia : (contextual : Keywords) (t : Table) (i : ℕ) → i < length t.kinds → is_trivia (slice_index t.kinds i) ≡ true
    → entries_of contextual (raw_after t i) ≡ entries_of contextual (raw_after t (i + 1))
entries_of-trivia contextual t i lt e = rw (raw_after-next t i lt, e) refl
