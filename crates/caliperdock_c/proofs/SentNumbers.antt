-- That the numbers of what is sent are small enough.
use Rattle.std.proofs.Common.{◌≡◌, ◌∙◌, ℕ, zero, suc, ◌+◌, ◌<◌, ◌≤◌, ◌^◌, List, [], ◌∷◌, ◌++◌, append_assoc, ap, arith, length, refl, slice_index, sym}
use Rattle.std.specs.Prelude.{encode_utf8_all}
use Rattle.std.specs.Str.{chars}
use Rattle.std.specs.List.{flat_map}
use Rattle.std.proofs.lemmas.List.Sums.{sum_by-append, sum_by-cons}
use Rattle.squawk_output.specs.Steps.{Step, errors_in}
use Rattle.squawk_table.specs.RawTable.{Table, IsTable}
use Rattle.squawk_table.specs.Sent.{ErrorsArePlaced, IsBeginning, bytes_of, errors_moved, sent_list, text_in, texts_of}
use Rattle.squawk_table.specs.Shape.{Fits}
use Rattle.squawk_table.specs.declared.shortcuts.str_step.OwnedStep.{OwnedStep}
use Rattle.squawk_table.specs.declared.shortcuts.str_step.OwnedStep.TheVariants as sent
use Rattle.squawk_table.proofs.ErrorsMoved.{length-moved}
use Rattle.squawk_table.proofs.NextStep.{end_within, length-sent_from}
use Rattle.sql_report.proofs.Bounds.{bytes_of-beginning}
use Rattle.sql_report.proofs.SentErrors.{TellsErrors, errors_sent}
use Rattle.squawk_table.proofs.SentFrom.{sends_all, sent_from-sent_list}
use Rattle.caliperdock_c.specs.Errors.{error_in}
use Rattle.caliperdock_c.specs.Steps.{AreLow, HaveNumbers}

-- ---- how many there are

-- no more raw tokens than bytes
starts_below : (t : Table) → IsTable t → (i : ℕ) → i < length t.starts → i ≤ slice_index t.starts i
starts_below t table zero lt = omega arith
starts_below t table (suc i) lt = omega (arith, starts_below t table i (omega arith), table.ascends i (suc i) (omega arith) lt)

pub kinds_below : (t : Table) → IsTable t → length t.kinds ≤ length t.text
kinds_below t table = omega (arith, starts_below t table (length t.kinds) (omega (arith, table.entries)), table.ends)

-- at most as many steps are sent as the walk has, and raw tokens
pub length-sent_list : (t : Table) → IsTable t → (steps : List Step) → Fits t steps → length (sent_list t steps) ≤ length steps + length t.kinds
length-sent_list t table steps fits =
    let all = sends_all t table steps fits in
    let far = (length-sent_from t 0 0 (errors_moved steps)).1 in
    let within = end_within t 0 0 (errors_moved steps) all.tokens in
    omega (arith, far, within, length-moved steps, ap length (sent_from-sent_list t table steps fits))

-- an error is told as one
pub tells : TellsErrors error_in
tells = record { token = λ kind text. refl; enter = λ kind. refl; exit = refl; error = λ text pos. refl }

-- ---- how large they are

abbrev step_bytes : OwnedStep → ℕ
step_bytes step = length (encode_utf8_all (text_in step))

module _ (all : List OwnedStep) (placed : ErrorsArePlaced all) (few : bytes_of all < 2 ^ 32) where
  within : (front rest : List OwnedStep) → all ≡ front ++ rest → bytes_of front + bytes_of rest ≡ bytes_of all
  within front rest is = sym (sum_by-append step_bytes front rest) ∙ sym (ap bytes_of is)

  next : (front rest : List OwnedStep) (step : OwnedStep) → all ≡ front ++ step ∷ rest → all ≡ (front ++ step ∷ []) ++ rest
  next front rest step is = is ∙ sym (append_assoc front (step ∷ []) rest)

  behind : (front : List OwnedStep) (step : OwnedStep) → bytes_of (front ++ step ∷ []) ≡ bytes_of front + step_bytes step
  behind front step = omega (arith, sum_by-append step_bytes front (step ∷ []), sum_by-cons step_bytes step [])

  low : (front rest : List OwnedStep) (text : List ℕ) (pos : ℕ) → all ≡ front ++ sent.Error text pos ∷ rest → pos < 2 ^ 32
  low front rest text pos is = omega (arith, placed front rest text pos is, within front (sent.Error text pos ∷ rest) is, few)

  low_behind : (front rest : List OwnedStep) → all ≡ front ++ rest → AreLow rest
  low_behind front [] is = tt
  low_behind front (sent.Token kind text ∷ rest) is = (tt, low_behind (front ++ sent.Token kind text ∷ []) rest (next front rest (sent.Token kind text) is))
  low_behind front (sent.Enter kind ∷ rest) is = (tt, low_behind (front ++ sent.Enter kind ∷ []) rest (next front rest (sent.Enter kind) is))
  low_behind front (sent.Exit ∷ rest) is = (tt, low_behind (front ++ sent.Exit ∷ []) rest (next front rest sent.Exit is))
  low_behind front (sent.Error text pos ∷ rest) is =
      (low front rest text pos is, low_behind (front ++ sent.Error text pos ∷ []) rest (next front rest (sent.Error text pos) is))

  pub are_low : AreLow all
  are_low = low_behind [] all refl

  have_behind : (front rest : List OwnedStep) (at errors : ℕ) → all ≡ front ++ rest → at ≡ bytes_of front
      → errors + length (flat_map error_in rest) < 2 ^ 32 → HaveNumbers at errors rest
  have_behind front [] at errors is so_far count = tt
  have_behind front (sent.Token kind text ∷ rest) at errors is so_far count =
      let step = sent.Token kind text in
      let end : at + length (encode_utf8_all text) ≡ bytes_of (front ++ step ∷ []) = omega (arith, so_far, behind front step) in (
        omega (arith, end, within (front ++ step ∷ []) rest (next front rest step is), few),
        have_behind (front ++ step ∷ []) rest (at + length (encode_utf8_all text)) errors (next front rest step is) end count,
      )
  have_behind front (sent.Enter kind ∷ rest) at errors is so_far count =
      let step = sent.Enter kind in
      have_behind (front ++ step ∷ []) rest at errors (next front rest step is) (omega (arith, so_far, behind front step)) count
  have_behind front (sent.Exit ∷ rest) at errors is so_far count =
      let step = sent.Exit in
      have_behind (front ++ step ∷ []) rest at errors (next front rest step is) (omega (arith, so_far, behind front step)) count
  have_behind front (sent.Error text pos ∷ rest) at errors is so_far count =
      let step = sent.Error text pos in (
        low front rest text pos is,
        omega (arith, count),
        have_behind (front ++ step ∷ []) rest at (errors + 1) (next front rest step is) (omega (arith, so_far, behind front step)) (omega (arith, count)),
      )

  pub have_numbers : length (flat_map error_in all) < 2 ^ 32 → HaveNumbers 0 0 all
  have_numbers count = have_behind [] all 0 0 refl refl (omega (arith, count))

-- ---- what is sent over a table

module _ (table : Table) (is_table : IsTable table) (steps : List Step) (fits : Fits table steps) (placed : ErrorsArePlaced (sent_list table steps))
    (begins : IsBeginning (texts_of (sent_list table steps)) (chars table.text)) (short : length table.text ≤ 4294967295) where
  few_bytes : bytes_of (sent_list table steps) < 2 ^ 32
  few_bytes = omega (arith, bytes_of-beginning (sent_list table steps) table.text is_table.utf8 begins, short)

  pub sent_low : AreLow (sent_list table steps)
  sent_low = are_low (sent_list table steps) placed few_bytes

  pub sent_numbers : errors_in steps ≤ 2147483648 → HaveNumbers 0 0 (sent_list table steps)
  sent_numbers few = have_numbers (sent_list table steps) placed few_bytes (omega (arith, errors_sent error_in tells table is_table steps fits, few))

  pub sent_few : length steps ≤ 4294967295 → length (sent_list table steps) < 2 ^ 64
  sent_few few = omega (arith, length-sent_list table is_table steps fits, kinds_below table is_table, short, few)
