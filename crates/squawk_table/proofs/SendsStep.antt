-- What the code sends for a step, and what it leaves.
use Rattle.std.proofs.Common.{◌≡◌, ◌∙◌, ℕ, ◌+◌, ◌-◌, ◌<◌, ◌≤◌, List, ◌++◌, length, take, drop, slice_index, get_or, arith, ap, sym, refl}
use Rattle.std.specs.Str.{chars}
use Rattle.squawk_table.specs.RawTable.{Table, IsTable, raw_after, raw_tokens, text_of}
use Rattle.squawk_table.specs.Sending.{sent_here, HasTokens, next_raw}
use Rattle.squawk_table.specs.Sent.{bytes_of, texts_of}
use Rattle.squawk_output.specs.Steps.{Step, Token, Enter, Exit, Error, count_of}
use Rattle.squawk_table.specs.declared.shortcuts.str_step.OwnedStep.TheVariants as sent
use Rattle.squawk_table.proofs.FrontTokens.{length-raw_after, raw_after-add}
use Rattle.squawk_table.proofs.Received.{left_before, left_at, left_before-other}
use Rattle.squawk_table.proofs.SentBelow.{sent_to, sent_for}
use Rattle.squawk_table.proofs.SentSteps.{IsOverRaw, token_here}
use Rattle.squawk_table.proofs.SentTexts.{raw_chars, texts_of-sent_to}
use Rattle.squawk_table.proofs.SourceChars.{AreTexts-raw_tokens, text_of-take, bytes_of-raw}

-- What the code sends for step i from a raw token on is what is to be sent, and it leaves what is left before the next
-- step.
pub record SendsStep (t : Table) (steps : List Step) (i raw : ℕ) (step : Step) : Type 0 where
  pub token : HasTokens t raw step
  pub sent : sent_here t raw step ≡ sent_for (raw_tokens t) steps i step
  pub within : next_raw raw step ≤ length t.kinds
  pub left : raw_after t (next_raw raw step) ≡ left_before (raw_tokens t) steps (i + 1)

module _ (t : Table) (table : IsTable t) (steps : List Step) (over : IsOverRaw (raw_tokens t) steps) (i raw : ℕ) (within : raw ≤ length t.kinds)
    (left : raw_after t raw ≡ left_at (raw_tokens t) steps i) (lt : i < length steps) where
  other_left : (step : Step) → get_or steps i step ≡ step → count_of step ≡ 0 → raw_after t raw ≡ left_before (raw_tokens t) steps (i + 1)
  other_left step at none = left ∙ sym (left_before-other (raw_tokens t) steps i step lt at none)

  -- an error stands behind all bytes that were sent
  position : slice_index t.starts raw ≡ bytes_of (sent_to (raw_tokens t) steps i)
  position =
      let raws = raw_tokens t in
      let whole = ap (λ xs. texts_of (sent_to raws steps i) ++ raw_chars xs) left ∙ texts_of-sent_to raws steps (AreTexts-raw_tokens t table) over i (omega arith) in
      sym (bytes_of-raw t table raw within (sent_to raws steps i) whole)

  pub sends_step : (step : Step) → get_or steps i step ≡ step → SendsStep t steps i raw step
  sends_step (Token kind n) at =
      let here = token_here (raw_tokens t) steps i kind n over lt at in
      let room : raw + n ≤ length t.kinds =
      omega (arith, here.front.there, ap length left, length-raw_after t (length t.kinds - raw) raw (omega arith)) in
      record {
        token = (here.front.some, room);
        sent = ap (λ text. sent.Token kind (chars text))
            (text_of-take t table n raw room ∙ (ap (λ raws. text_of (take n raws)) left ∙ sym here.text));
        within = room;
        left = raw_after-add t n raw room ∙ (ap (drop n) left ∙ sym here.left);
      }
  sends_step (Enter kind) at = record { token = tt; sent = refl; within = within; left = other_left (Enter kind) at refl }
  sends_step Exit at = record { token = tt; sent = refl; within = within; left = other_left Exit at refl }
  sends_step (Error text) at =
      record { token = tt; sent = ap (sent.Error text) position; within = within; left = other_left (Error text) at refl }
