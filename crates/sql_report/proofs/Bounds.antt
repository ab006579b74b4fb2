-- The bytes of steps that are a beginning of a text, and the places of its errors.
use Rattle.std.proofs.Common.{◌≡◌, ◌∙◌, inl, inr, ℕ, ◌+◌, ◌<◌, ◌≤◌, List, [], ◌∷◌, ◌++◌, append_assoc, refl, ap, arith, encode_utf8_all, get_or, length, length-append, slice_index, sym}
use Rattle.std.specs.Prelude.{All, IsUtf8}
use Rattle.std.specs.Str.{chars}
use Rattle.std.proofs.lemmas.List.Sums.{sum_by-append}
use Rattle.std.proofs.lemmas.Str.{encodes-append, encodes-chars}
use Rattle.std.proofs.lemmas.Bool.{cases_lt}
use Rattle.squawk_output.specs.Steps.{Step}
use Rattle.squawk_tokens.specs.ErrorRanges.{LiesIn}
use Rattle.squawk_tokens.specs.LexicalErrors.{LexicalError}
use Rattle.squawk_table.specs.RawTable.{IsTable, Table}
use Rattle.squawk_table.specs.Sending.{end_from}
use Rattle.squawk_table.specs.Shape.{Fits}
use Rattle.squawk_table.proofs.AllSent.{beginning}
use Rattle.squawk_table.proofs.NextStep.{end_within}
use Rattle.squawk_table.proofs.SentFrom.{sends_all}
use Rattle.squawk_table.proofs.SentLaws.{errors_placed}
use Rattle.squawk_table.proofs.SourceChars.{bytes_of-texts}
use Rattle.squawk_table.specs.Sent.{ErrorsArePlaced, IsBeginning, bytes_of, errors_moved, sent_list, texts_of}
use Rattle.squawk_table.specs.declared.shortcuts.str_step.OwnedStep.{OwnedStep}
use Rattle.squawk_table.specs.declared.shortcuts.str_step.OwnedStep.TheVariants as sent
use Rattle.sql_grammar.specs.ReadParts.{ErrorsBelow}

-- they are no more than those of the text
pub bytes_of-beginning : (steps : List OwnedStep) (text : List ℕ) → IsUtf8 text → IsBeginning (texts_of steps) (chars text) → bytes_of steps ≤ length text
bytes_of-beginning steps text utf8 begins =
    let whole = sym (encodes-append (texts_of steps) begins.0) ∙ (ap encode_utf8_all begins.1 ∙ encodes-chars text utf8) in
    omega (
      arith,
      bytes_of-texts steps,
      length-append (encode_utf8_all (texts_of steps)) (encode_utf8_all begins.0),
      ap length whole,
    )

-- placed by them, no error stands after these bytes
below_placed : (n : ℕ) (all front rest : List OwnedStep) → all ≡ front ++ rest → ErrorsArePlaced all → bytes_of all ≤ n → ErrorsBelow (n + 1) rest
below_placed n all front [] split placed le = tt
below_placed n all front (sent.Token kind text ∷ rest) split placed le =
    below_placed n all (front ++ sent.Token kind text ∷ []) rest (split ∙ sym (append_assoc front (sent.Token kind text ∷ []) rest)) placed le
below_placed n all front (sent.Enter kind ∷ rest) split placed le =
    below_placed n all (front ++ sent.Enter kind ∷ []) rest (split ∙ sym (append_assoc front (sent.Enter kind ∷ []) rest)) placed le
below_placed n all front (sent.Exit ∷ rest) split placed le =
    below_placed n all (front ++ sent.Exit ∷ []) rest (split ∙ sym (append_assoc front (sent.Exit ∷ []) rest)) placed le
below_placed n all front (sent.Error text pos ∷ rest) split placed le =
    let bytes = ap bytes_of split ∙ sum_by-append _ front (sent.Error text pos ∷ rest) in (
      omega (arith, placed front rest text pos split, bytes, le),
      below_placed n all (front ++ sent.Error text pos ∷ []) rest (split ∙ sym (append_assoc front (sent.Error text pos ∷ []) rest)) placed le,
    )

all_placed : (n : ℕ) (all : List OwnedStep) → ErrorsArePlaced all → bytes_of all ≤ n → ErrorsBelow (n + 1) all
all_placed n all = below_placed n all [] all refl

-- ---- the errors of a table and of what is sent

-- no lexical error stands after the end
pub lexical_within : (t : Table) → IsTable t → All (λ error. error.start < length t.text + 1) t.errors
lexical_within t table = λ i d lt. in_text (get_or t.errors i d) (table.errors.each i d lt)
  where
    in_text : (error : LexicalError) → (i : ℕ) × LiesIn (slice_index t.starts) (length t.kinds) error i → error.start < length t.text + 1
    in_text error (i, lies) = elim (cases_lt (i + 1) (length t.kinds)) [
      | inl lt ↦ omega (arith, lies.nonempty, lies.ends, table.ascends (i + 1) (length t.kinds) lt (omega (arith, table.entries)), table.ends)
      | inr le ↦
          let last : i + 1 ≡ length t.kinds = omega (arith, le, lies.within) in
          omega (arith, lies.nonempty, lies.ends, ap (slice_index t.starts) last, table.ends)
    ]

-- nor does one that is sent
pub sent_within : (t : Table) → IsTable t → (steps : List Step) → Fits t steps → ErrorsBelow (length t.text + 1) (sent_list t steps)
sent_within t table steps fits =
    let all = sends_all t table steps fits in
    let end = end_from t 0 0 (errors_moved steps) in
    let begins = beginning t table steps fits end (end_within t 0 0 (errors_moved steps) all.tokens) all.raw_left in
    all_placed (length t.text) (sent_list t steps) (errors_placed t steps) (bytes_of-beginning (sent_list t steps) t.text table.utf8 begins)
