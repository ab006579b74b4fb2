-- The input of two texts, of which each has its own.
use Rattle.std.proofs.Common.{◌≡◌, ◌∙◌, ℕ, zero, suc, ◌+◌, ◌<◌, ◌≤◌, Bool, true, false, List, [], ◌∷◌, ◌++◌, length, take, drop, if◌then◌else◌, arith, ap, sym, subst, refl, length-append, length-drop}
use Rattle.std.proofs.Math.Seq.{drop-append-add}
use Rattle.std.proofs.lemmas.List.{take-append-le, map-append}
use Rattle.squawk_kinds.specs.Kinds.{is_trivia}
use Rattle.squawk_kinds.specs.Keywords.{Keywords}
use Rattle.squawk_output.specs.Steps.{Step, Token, Enter, Exit, Error, eaten}
use Rattle.squawk_table.specs.RawTable.{RawToken}
use Rattle.squawk_table.specs.ParserInput.{Entry, entries_of, entry_for, is_joint_in, kinds_in}
use Rattle.squawk_table.specs.Shape.{IsOver}
use Rattle.squawk_table.proofs.Over.{IsOver-append}

module _ (contextual : Keywords) (later : List RawToken) where
  -- the entries of raw tokens that others follow
  abbrev pub entries_before : List RawToken → List Entry
  entries_before [] = []
  entries_before (raw ∷ rest) = if is_trivia raw.kind then entries_before rest else entry_for contextual raw (rest ++ later) ∷ entries_before rest

  pub entries_both : (front : List RawToken) → entries_of contextual (front ++ later) ≡ entries_before front ++ entries_of contextual later
  entries_both [] = refl
  entries_both (raw ∷ rest) = cases (is_trivia raw.kind) (entries_both rest)
    where
      cases : (b : Bool) → entries_of contextual (rest ++ later) ≡ entries_before rest ++ entries_of contextual later
          → (if b then entries_of contextual (rest ++ later) else entry_for contextual raw (rest ++ later) ∷ entries_of contextual (rest ++ later))
          ≡ (if b then entries_before rest else entry_for contextual raw (rest ++ later) ∷ entries_before rest) ++ entries_of contextual later
      cases true e = e
      cases false e = ap (λ es. entry_for contextual raw (rest ++ later) ∷ es) e

  pub length_before : (front : List RawToken) → length (entries_before front) ≡ length (entries_of contextual front)
  length_before [] = refl
  length_before (raw ∷ rest) = cases (is_trivia raw.kind) (length_before rest)
    where
      cases : (b : Bool) → length (entries_before rest) ≡ length (entries_of contextual rest)
          → length (if b then entries_before rest else entry_for contextual raw (rest ++ later) ∷ entries_before rest)
          ≡ length (if b then entries_of contextual rest else entry_for contextual raw rest ∷ entries_of contextual rest)
      cases true e = e
      cases false e = ap suc e

  pub kinds_before : (front : List RawToken) → kinds_in (entries_before front) ≡ kinds_in (entries_of contextual front)
  kinds_before [] = refl
  kinds_before (raw ∷ rest) = cases (is_trivia raw.kind) (kinds_before rest)
    where
      cases : (b : Bool) → kinds_in (entries_before rest) ≡ kinds_in (entries_of contextual rest)
          → kinds_in (if b then entries_before rest else entry_for contextual raw (rest ++ later) ∷ entries_before rest)
          ≡ kinds_in (if b then entries_of contextual rest else entry_for contextual raw rest ∷ entries_of contextual rest)
      cases true e = e
      cases false e = ap (λ ks. raw.kind ∷ ks) e

  -- all but the last are as they are alone
  followed : (raw : RawToken) (rest : List RawToken) (n : ℕ) → n < length (entries_of contextual rest) → entry_for contextual raw (rest ++ later) ≡ entry_for contextual raw rest
  followed raw [] n lt = absurd (omega arith)
  followed raw (next ∷ rest) n lt = refl

  pub take_before : (n : ℕ) (front : List RawToken) → n < length (entries_of contextual front) → take n (entries_before front) ≡ take n (entries_of contextual front)
  take_before zero front lt = refl
  take_before (suc n) [] lt = absurd (omega arith)
  take_before (suc n) (raw ∷ rest) lt = cases (is_trivia raw.kind) lt (take_before (suc n) rest) (take_before n rest) (followed raw rest n)
    where
      cases : (b : Bool) → suc n < length (if b then entries_of contextual rest else entry_for contextual raw rest ∷ entries_of contextual rest)
          → (suc n < length (entries_of contextual rest) → take (suc n) (entries_before rest) ≡ take (suc n) (entries_of contextual rest))
          → (n < length (entries_of contextual rest) → take n (entries_before rest) ≡ take n (entries_of contextual rest))
          → (n < length (entries_of contextual rest) → entry_for contextual raw (rest ++ later) ≡ entry_for contextual raw rest)
          → take (suc n) (if b then entries_before rest else entry_for contextual raw (rest ++ later) ∷ entries_before rest)
          ≡ take (suc n) (if b then entries_of contextual rest else entry_for contextual raw rest ∷ entries_of contextual rest)
      cases true lt trivia token same = trivia lt
      cases false lt trivia token same =
          let less : n < length (entries_of contextual rest) = omega (arith, lt) in
          ap (λ e. e ∷ take n (entries_before rest)) (same less) ∙ ap (λ es. entry_for contextual raw rest ∷ es) (token less)

-- ---- steps over them

-- an input that begins as another one does, but for whether the last token is joint
pub record Extends (input whole : List Entry) : Type 0 where
  pub within : length input ≤ length whole
  pub joint : (i : ℕ) → i + 1 < length input → is_joint_in whole i ≡ is_joint_in input i

is_joint-drop : (n i : ℕ) (input : List Entry) → is_joint_in (drop n input) i ≡ is_joint_in input (n + i)
is_joint-drop zero i input = ap (is_joint_in input) (omega arith)
is_joint-drop (suc n) i [] = refl
is_joint-drop (suc n) i (e ∷ input) =
    let next : suc n + i ≡ suc (n + i) = omega arith in
    is_joint-drop n i input ∙ sym (ap (is_joint_in (e ∷ input)) next)

extends-drop : (n : ℕ) (input whole : List Entry) → Extends input whole → Extends (drop n input) (drop n whole)
extends-drop n input whole ext = record {
  within = omega (arith, ext.within, length-drop n input, length-drop n whole);
  joint = λ i lt. is_joint-drop n i whole ∙ (ext.joint (n + i) (omega (arith, lt, length-drop n input)) ∙ sym (is_joint-drop n i input));
}

pub over-extended : (steps : List Step) (input whole : List Entry) → Extends input whole → IsOver steps input → IsOver steps whole
over-extended [] input whole ext over = tt
over-extended (Token kind n ∷ steps) input whole ext (token, others) = (
  record {
    some = token.some;
    there = omega (arith, token.there, ext.within);
    touch = λ i lt. ext.joint i (omega (arith, lt, token.there)) ∙ token.touch i lt;
  },
  over-extended steps (drop n input) (drop n whole) (extends-drop n input whole ext) others,
)
over-extended (Enter kind ∷ steps) input whole ext over = over-extended steps input whole ext over
over-extended (Exit ∷ steps) input whole ext over = over-extended steps input whole ext over
over-extended (Error text ∷ steps) input whole ext over = over-extended steps input whole ext over

-- an entry is told by a longer front
joint-take : (n i : ℕ) (xs ys : List Entry) → take n xs ≡ take n ys → i < n → is_joint_in xs i ≡ is_joint_in ys i
joint-take n i xs ys same lt = front n i xs lt ∙ (ap (λ es. is_joint_in es i) same ∙ sym (front n i ys lt))
  where
    front : (n i : ℕ) (xs : List Entry) → i < n → is_joint_in xs i ≡ is_joint_in (take n xs) i
    front zero i xs lt = absurd (omega arith)
    front (suc n) i [] lt = refl
    front (suc n) zero (x ∷ xs) lt = refl
    front (suc n) (suc i) (x ∷ xs) lt = front n i xs (omega arith)

module _ (contextual : Keywords) (front later : List RawToken) where
  abbrev pub whole : List Entry
  whole = entries_of contextual (front ++ later)

  abbrev pub count : ℕ
  count = length (entries_of contextual front)

  pub count_both : length whole ≡ count + length (entries_of contextual later)
  count_both =
      omega (
        arith,
        ap length (entries_both contextual later front),
        length-append (entries_before contextual later front) (entries_of contextual later),
        length_before contextual later front,
      )

  pub kinds_both : kinds_in whole ≡ kinds_in (entries_of contextual front) ++ kinds_in (entries_of contextual later)
  kinds_both =
      ap kinds_in (entries_both contextual later front)
      ∙ (map-append (λ (e : Entry). e.kind) (entries_before contextual later front) (entries_of contextual later)
      ∙ ap (λ ks. ks ++ kinds_in (entries_of contextual later)) (kinds_before contextual later front))

  pub take_front : (n : ℕ) → n < count → take n whole ≡ take n (entries_of contextual front)
  take_front n lt =
      ap (take n) (entries_both contextual later front)
      ∙ (take-append-le n (entries_before contextual later front) (entries_of contextual later) (omega (arith, lt, length_before contextual later front))
      ∙ take_before contextual later n front lt)

  pub drop_front : (n : ℕ) → drop (count + n) whole ≡ drop n (entries_of contextual later)
  drop_front n =
      ap (λ m. drop (m + n) whole) (sym (length_before contextual later front))
      ∙ (ap (drop (length (entries_before contextual later front) + n)) (entries_both contextual later front)
      ∙ drop-append-add (entries_before contextual later front) (entries_of contextual later) n)

  pub extends_whole : Extends (entries_of contextual front) whole
  extends_whole = record {
    within = omega (arith, count_both);
    joint = λ i lt. joint-take (i + 1) i whole (entries_of contextual front) (take_front (i + 1) lt) (omega arith);
  }

  -- steps over all of the first, and after them steps over the second
  pub over_both : (xs ys : List Step) → IsOver xs (entries_of contextual front) → eaten xs ≡ count → IsOver ys (entries_of contextual later) → IsOver (xs ++ ys) whole
  over_both xs ys over all others =
      let begin : count + 0 ≡ eaten xs = omega (arith, all) in
      let rest : drop (eaten xs) whole ≡ entries_of contextual later = ap (λ n. drop n whole) (sym begin) ∙ drop_front 0 in
      IsOver-append xs ys whole (over-extended xs (entries_of contextual front) whole extends_whole over) (subst (IsOver ys) (sym rest) others)
