-- The sent list, once all steps are sent.
use Rattle.std.proofs.Common.{◌≡◌, ◌∙◌, ℕ, ◌≤◌, List, [], ◌++◌, length, drop, slice_index, arith, ap, sym, subst, inl, inr}
use Rattle.std.specs.Prelude.{encode_utf8_all}
use Rattle.std.specs.Str.{chars}
use Rattle.std.proofs.lemmas.Bool.{cases_lt}
use Rattle.std.proofs.lemmas.List.{append-nil, append_cancel_left, drop_all, length-drop}
use Rattle.std.proofs.lemmas.Str.{IsUtf8-drop, encodes-chars, chars-nil}
use Rattle.squawk_table.specs.ParserInput.{input_of}
use Rattle.squawk_table.specs.RawTable.{Table, IsTable, raw_after, raw_tokens}
use Rattle.squawk_table.specs.Sent.{errors_moved, past_trivia, after_input, input_tokens, sent_list, texts_of, IsBeginning}
use Rattle.squawk_table.specs.Shape.{Fits, no_keywords}
use Rattle.squawk_output.specs.OneRoot.{StandsInOneRoot}
use Rattle.squawk_output.specs.Steps.{Step, eaten, without_errors}
use Rattle.squawk_table.proofs.ErrorsMoved.{IsOver-moved, without_errors-moved, eaten-moved}
use Rattle.squawk_table.proofs.InputTokens.{length-entries_of, token_after, none_after}
use Rattle.squawk_table.proofs.Over.{eaten-le}
use Rattle.squawk_table.proofs.RawTokens.{raw_after-next, raw_after-end}
use Rattle.squawk_table.proofs.Received.{left_before}
use Rattle.squawk_table.proofs.RootEnd.{left_before-all}
use Rattle.squawk_table.proofs.SentSteps.{IsOverRaw}
use Rattle.squawk_table.proofs.SentNumbered.{sent_list-numbered}
use Rattle.squawk_table.proofs.SentTexts.{raw_chars, texts_of-sent_below}
use Rattle.squawk_table.proofs.SourceChars.{AreTexts-raw_tokens, raw_chars-raw_after, raw_chars-raw_tokens}

-- errors moved, a walk that fits a table is over its raw tokens
pub IsOverRaw-from_fits : (t : Table) (steps : List Step) → Fits t steps → IsOverRaw (raw_tokens t) (errors_moved steps)
IsOverRaw-from_fits t steps fits = IsOver-moved steps (input_of no_keywords t) fits.over

-- and it stands in one root
pub root_moved : (t : Table) (steps : List Step) → Fits t steps → StandsInOneRoot (without_errors (errors_moved steps))
root_moved t steps fits = subst StandsInOneRoot (sym (without_errors-moved steps)) fits.root

-- the end of the source is the start behind all raw tokens, and no other
starts_at_end : (t : Table) → IsTable t → (raw : ℕ) → raw ≤ length t.kinds → slice_index t.starts raw ≡ length t.text → raw ≡ length t.kinds
starts_at_end t table raw le e =
    elim (cases_lt raw (length t.kinds)) [
      | inl lt ↦ absurd (omega (arith, table.ascends raw (length t.kinds) lt (omega (arith, table.entries)), table.ends))
      | inr past ↦ omega arith
    ]

none_left : (t : Table) (raw : ℕ) → raw ≤ length t.kinds → raw_after t raw ≡ [] → raw ≡ length t.kinds
none_left t raw le none =
    elim (cases_lt raw (length t.kinds)) [
      | inl lt ↦ let some = sym (raw_after-next t raw lt) ∙ none in absurd (omega (arith, ap length some))
      | inr past ↦ omega arith
    ]

module _ (t : Table) (table : IsTable t) (steps : List Step) (fits : Fits t steps) (raw : ℕ) (within : raw ≤ length t.kinds)
    (left : raw_after t raw ≡ left_before (raw_tokens t) (errors_moved steps) (length (errors_moved steps))) where
  rest : raw_after t raw ≡ past_trivia (after_input (eaten steps) (raw_tokens t))
  rest =
      left
      ∙ (left_before-all (errors_moved steps) (root_moved t steps fits) (raw_tokens t) ∙ ap (λ n. past_trivia (after_input n (raw_tokens t))) (eaten-moved steps))

  pub all_eaten : raw ≡ length t.kinds → eaten steps ≡ length (input_of no_keywords t)
  all_eaten end =
      let count = length-entries_of no_keywords (raw_tokens t) in
      let none = sym rest ∙ raw_after-end t raw (omega arith) in
      elim (cases_lt (eaten steps) (length (input_tokens (raw_tokens t)))) [
        | inl lt ↦
            let next = token_after (eaten steps) (raw_tokens t) lt in
            let some = sym next.stands ∙ none in
            absurd (omega (arith, ap length some))
        | inr past ↦ omega (arith, eaten-le steps (input_of no_keywords t) fits.over)
      ]

  pub end_if_eaten : eaten steps ≡ length (input_of no_keywords t) → raw ≡ length t.kinds
  end_if_eaten all =
      let count = length-entries_of no_keywords (raw_tokens t) in
      let none = rest ∙ none_after (eaten steps) (raw_tokens t) (omega arith) in
      none_left t raw within none

  -- what is sent, and the rest of the source
  sent_and_rest : texts_of (sent_list t steps) ++ chars (drop (slice_index t.starts raw) t.text) ≡ chars t.text
  sent_and_rest =
      let sent = texts_of (sent_list t steps) in
      let rest_chars = sym (raw_chars-raw_after t table raw within) ∙ ap raw_chars left in
      ap (λ xs. sent ++ xs) rest_chars
      ∙ (ap (λ xs. texts_of xs ++ raw_chars (left_before (raw_tokens t) (errors_moved steps) (length (errors_moved steps)))) (sent_list-numbered t steps)
      ∙ (texts_of-sent_below (raw_tokens t) (errors_moved steps) (AreTexts-raw_tokens t table) (IsOverRaw-from_fits t steps fits) (length (errors_moved steps)) (omega arith) ∙ raw_chars-raw_tokens t table))

  pub beginning : IsBeginning (texts_of (sent_list t steps)) (chars t.text)
  beginning = (chars (drop (slice_index t.starts raw) t.text), sent_and_rest)

  pub whole_text : raw ≡ length t.kinds → texts_of (sent_list t steps) ≡ chars t.text
  whole_text end =
      let sent = texts_of (sent_list t steps) in
      let past = ap (slice_index t.starts) end ∙ table.ends in
      let none : chars (drop (slice_index t.starts raw) t.text) ≡ [] = ap chars (drop_all (slice_index t.starts raw) t.text (omega arith)) ∙ chars-nil in
      sym (append-nil sent) ∙ (ap (λ xs. sent ++ xs) (sym none) ∙ sent_and_rest)

  pub end_if_whole : texts_of (sent_list t steps) ≡ chars t.text → raw ≡ length t.kinds
  end_if_whole whole =
      let sent = texts_of (sent_list t steps) in
      let start = slice_index t.starts raw in
      let boundary = table.boundaries raw (omega (arith, table.entries)) in
      let none : chars (drop start t.text) ≡ [] = append_cancel_left sent (chars (drop start t.text)) [] (sent_and_rest ∙ (sym whole ∙ sym (append-nil sent))) in
      let nothing : drop start t.text ≡ [] = sym (encodes-chars (drop start t.text) (IsUtf8-drop t.text start table.utf8 boundary)) ∙ ap encode_utf8_all none in
      starts_at_end t table raw within (omega (arith, ap length nothing, length-drop start t.text, boundary.0))
