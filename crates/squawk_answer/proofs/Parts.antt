-- Bytes that are written in parts, of which one may fail.
use Rattle.std.proofs.Common.{◌≡◌, ◌∙◌, ℕ, ◌-◌, Bool, false, true, List, [], ◌∷◌, ◌++◌, inl, inr, ap, refl, append_assoc, append-nil, drop, length, subst, sym, take, take-append-drop}
use Rattle.std.specs.Prelude.{◌==◌, Option}
use Rattle.std.proofs.KnownBytes.{Appends-trans}
use Rattle.std.proofs.lemmas.List.{take_rest}
use Rattle.std.specs.Io.KnownBytes.{Appends}
use Rattle.squawk_answer.specs.Watched.{Watched, after_write}
use Rattle.squawk_answer.specs.Writes.{AppendsPart, WritesOrFails}

-- n bytes more of those that are left
pub part-more : (all done rest : List ℕ) (n : ℕ) → all ≡ done ++ rest → all ≡ (done ++ take n rest) ++ take (length rest - n) (drop n rest)
part-more all done rest n e =
    e ∙ ap (λ l. done ++ l) (sym (take-append-drop n rest)) ∙ sym (append_assoc done (take n rest) (drop n rest)) ∙ ap (λ l. (done ++ take n rest) ++ l) (sym (take_rest rest n))

module _ (a b c : Option (List ℕ)) where
  -- some are left, and none of them is written
  pub part-left : (all done rest : List ℕ) → all ≡ done ++ rest → false ≡ (length rest == 0) → Appends a b done → Appends b c [] → AppendsPart a c all
  part-left all done [] split more before last = absurd (let p = more in cc)
  part-left all done (next ∷ left) split more before last =
      record { written = done; next = next; left = left; whole = split; appends = subst (Appends a c) (append-nil done) (Appends-trans a b c done [] before last) }

  -- the second part isn't written whole
  pub part_second : (first second : List ℕ) → Appends a b first → AppendsPart b c second → AppendsPart a c (first ++ second)
  part_second first second before part =
      record {
        written = first ++ part.written;
        next = part.next;
        left = part.left;
        whole = ap (λ l. first ++ l) part.whole ∙ sym (append_assoc first part.written (part.next ∷ part.left));
        appends = Appends-trans a b c first part.written before part.appends;
      }

-- the first part of them isn't
pub part_first : (a b : Option (List ℕ)) (bytes first second : List ℕ) → bytes ≡ first ++ second → AppendsPart a b first → AppendsPart a b bytes
part_first a b bytes first second split part =
    record {
      written = part.written;
      next = part.next;
      left = part.left ++ second;
      whole = split ∙ ap (λ l. l ++ second) part.whole ∙ append_assoc part.written (part.next ∷ part.left) second;
      appends = part.appends;
    }

-- all of them, or a beginning since a write failed
pub writes_or_fails : (w v : Watched) (a b : Option (List ℕ)) (bytes : List ℕ) (all : Bool) → v ≡ after_write w all → (all ≡ true → Appends a b bytes)
    → (all ≡ false → AppendsPart a b bytes) → WritesOrFails w v a b bytes
writes_or_fails w v a b bytes all = elim all as (λ all. v ≡ after_write w all → (all ≡ true → Appends a b bytes) → (all ≡ false → AppendsPart a b bytes) → WritesOrFails w v a b bytes) [
  | true ↦ λ watched yes no. inl (watched, yes refl)
  | false ↦ λ watched yes no. inr (watched, no refl)
]
