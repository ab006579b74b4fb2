-- What grammars may rely on: which inputs reach a limit, if a run records at most so many events for each token.
use Rattle.std.proofs.Common.{◌≡◌, ℕ, zero, suc, ◌+◌, ◌*◌, ◌<◌, ◌≤◌, Bool, true, false, List, [], ◌∷◌, length, if◌then◌else◌, arith, ap, refl, mul-zero, inl, inr}
use Rattle.std.specs.Prelude.{slice_index}
use Rattle.std.proofs.Math.Nat.{mul-le-mul_left}
use Rattle.std.proofs.lemmas.List.Sums.{count_by-le-length}
use Rattle.squawk_kinds.specs.Keywords.{Keywords}
use Rattle.squawk_kinds.specs.Kinds.{is_trivia}
use Rattle.squawk_output.specs.Draft.{is_error_item}
use Rattle.squawk_table.specs.ParserInput.{Entry, entries_of, entry_for, input_of}
use Rattle.squawk_table.specs.RawTable.{IsTable, RawToken, Table, raw_from, raw_tokens}
use Rattle.squawk_parser.specs.Parse.{IsRefused}
use Rattle.squawk_parser.specs.SomeSteps.{Spends}
use Rattle.squawk_parser.specs.State.{Keeps, State, fresh}
use Rattle.squawk_parser.specs.Words.{Words}
use Rattle.squawk_parser.specs.declared.parser.parse_error.ParseError.TheVariants.{TooManyErrors, TooManyEvents}

-- ---- inputs

module _ (each more max_events max_errors : ℕ) (input : List Entry) (words : Words) where
  recorded : (left : State) → Keeps (fresh input words max_events max_errors) left → Spends each more (fresh input words max_events max_errors) left
      → left.draft.recorded ≤ each * length input + more
  recorded left keeps spends =
      let end = keeps.sound.position in
      let limit = keeps.limit in
      let within : left.position ≤ length input = omega (arith, end, limit) in
      let eaten = mul-le-mul_left each within in
      let none = mul-zero each in
      omega (arith, spends, eaten, none)

  -- that of events
  pub events_reached : IsRefused (λ begun left. Spends each more begun left) (fresh input words max_events max_errors) TooManyEvents → max_events ≤ each * length input + more
  events_reached r = elim r.refusal [
    | inl fails ↦
        let most = recorded r.left r.keeps r.ran in
        let all = r.sound.refused fails in
        let limit = r.keeps.max_events in
        omega (arith, most, all, limit)
    | inr other ↦ absurd (let e = other.1 in cc)
  ]

  -- and that of errors
  pub errors_reached : IsRefused (λ begun left. Spends each more begun left) (fresh input words max_events max_errors) TooManyErrors → max_errors ≤ each * length input + more
  errors_reached r = elim r.refusal [
    | inl fails ↦
        let most = recorded r.left r.keeps r.ran in
        let all = (r.sound.refused_error fails).0 in
        let few = r.sound.logged.few in
        let limit = r.keeps.max_errors in
        omega (arith, most, all, few, limit, count_by-le-length is_error_item r.left.draft.items)
    | inr other ↦ absurd (let e = other.1 in cc)
  ]

-- ---- texts

entries-le : (contextual : Keywords) (raw : List RawToken) → length (entries_of contextual raw) ≤ length raw
entries-le contextual [] = omega arith
entries-le contextual (token ∷ rest) = cases (is_trivia token.kind) (entries-le contextual rest)
  where
    cases : (b : Bool) → length (entries_of contextual rest) ≤ length rest
        → length (if b then entries_of contextual rest else entry_for contextual token rest ∷ entries_of contextual rest) ≤ length (token ∷ rest)
    cases true le = omega (arith, le)
    cases false le = omega (arith, le)

length-raw_from : (t : Table) (i n : ℕ) → length (raw_from t i n) ≡ n
length-raw_from t i zero = refl
length-raw_from t i (suc n) = ap suc (length-raw_from t (i + 1) n)

starts-ge : (t : Table) → IsTable t → (i : ℕ) → i < length t.starts → i ≤ slice_index t.starts i
starts-ge t is zero lt = omega arith
starts-ge t is (suc i) lt = omega (arith, starts-ge t is i (omega arith), is.ascends i (suc i) (omega arith) lt)

-- each token has a byte of the text
pub input_of-le : (contextual : Keywords) (t : Table) → IsTable t → length (input_of contextual t) ≤ length t.text
input_of-le contextual t is =
    omega (arith, entries-le contextual (raw_tokens t), length-raw_from t 0 (length t.kinds), starts-ge t is (length t.kinds) (omega (arith, is.entries)), is.ends)
