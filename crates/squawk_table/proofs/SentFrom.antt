-- What is sent step by step is the sent list.
use Rattle.std.proofs.Common.{◌≡◌, ◌∙◌, ℕ, ◌+◌, ◌-◌, ◌<◌, ◌≤◌, Bool, true, false, List, [], ◌∷◌, ◌++◌, if◌then◌else◌, map, length, length-append, take, drop, get_or, append_assoc, add-zero, arith, ap, sym, refl}
use Rattle.std.proofs.Math.Seq.{drop-append_seam}
use Rattle.std.proofs.lemmas.List.{append-nil, length-drop}
use Rattle.squawk_table.specs.RawTable.{Table, IsTable, raw_after, raw_tokens}
use Rattle.squawk_table.specs.Sending.{sent_here, next_raw, receives_at, depth_behind, trivia_here, raw_here, sent_from, end_from, HaveTokens}
use Rattle.squawk_table.specs.Sent.{errors_moved, leading_trivia, past_trivia, sent_raw, sent_list}
use Rattle.squawk_table.specs.Shape.{Fits}
use Rattle.squawk_output.specs.OneRoot.{StandsInOneRoot}
use Rattle.squawk_output.specs.Steps.{Step, openings, closings, without_errors}
use Rattle.squawk_table.proofs.AllSent.{IsOverRaw-from_fits, root_moved}
use Rattle.squawk_table.proofs.FrontTokens.{length-raw_after, raw_after-add}
use Rattle.squawk_table.proofs.NumberedSteps.{is_receiver, trivia_before, sent_below}
use Rattle.squawk_table.proofs.RawTokens.{raw_after-start}
use Rattle.squawk_table.proofs.Received.{left_before, left_at, trivia_before-left}
use Rattle.squawk_table.proofs.Receivers.{receives_at-receiver, open_behind}
use Rattle.squawk_table.proofs.SendsStep.{SendsStep, sends_step}
use Rattle.squawk_table.proofs.SentBelow.{sent_to, sent_for, sent_below-more}
use Rattle.squawk_table.proofs.SentNumbered.{sent_list-numbered}
use Rattle.squawk_table.proofs.SentSteps.{IsOverRaw}
use Rattle.squawk_table.proofs.StepSpots.{hand_at, hand_behind, hand_lt}
use Rattle.squawk_table.proofs.Trivia.{leading_trivia-append-past_trivia}

-- ---- behind trivia

module _ (t : Table) (raw : ℕ) (within : raw ≤ length t.kinds) where
  abbrev front : ℕ
  front = length (leading_trivia (raw_after t raw))

  front-le : raw + front ≤ length t.kinds
  front-le =
      let raws = raw_after t raw in
      omega (
        arith,
        length-raw_after t (length t.kinds - raw) raw (omega arith),
        ap length (leading_trivia-append-past_trivia raws),
        length-append (leading_trivia raws) (past_trivia raws),
      )

  -- the raw tokens behind the trivia, if that is sent
  left_behind : (b : Bool) → let at = raw + length (if b then leading_trivia (raw_after t raw) else []) in
      (at ≤ length t.kinds) × (raw_after t at ≡ (if b then past_trivia (raw_after t raw) else raw_after t raw))
  left_behind true =
      let raws = raw_after t raw in (
        front-le,
        raw_after-add t front raw front-le
            ∙ (ap (drop front) (sym (leading_trivia-append-past_trivia raws)) ∙ drop-append_seam (leading_trivia raws) (past_trivia raws)),
      )
  left_behind false = (omega arith, ap (raw_after t) (add-zero raw))

-- Some steps of a walk are sent and others are left. The raw index and the number of open nodes are those between them.
pub record StandsBetween (t : Table) (steps left : List Step) (i raw depth : ℕ) : Type 0 where
  pub low : i ≤ length steps
  pub rest : left ≡ drop i steps
  pub within : raw ≤ length t.kinds
  pub raw_left : raw_after t raw ≡ left_before (raw_tokens t) steps i
  pub open_now : closings (take i steps) + depth ≡ openings (take i steps)

-- What is sent for those that are left makes up all, with what was sent before.
pub record SendsRest (t : Table) (steps left : List Step) (i raw depth : ℕ) : Type 0 where
  pub sent : sent_below (raw_tokens t) steps i ++ sent_from t raw depth left ≡ sent_below (raw_tokens t) steps (length steps)
  pub tokens : HaveTokens t raw depth left
  pub raw_left : raw_after t (end_from t raw depth left) ≡ left_before (raw_tokens t) steps (length steps)

module _ (t : Table) (table : IsTable t) (steps : List Step) (over : IsOverRaw (raw_tokens t) steps) (root : StandsInOneRoot (without_errors steps)) where
  module _ (i raw depth : ℕ) (step : Step) (left : List Step) (here : StandsBetween t steps (step ∷ left) i raw depth) where
    lt : i < length steps
    lt = hand_lt steps (step ∷ left) left i step here.rest refl

    step_at : get_or steps i step ≡ step
    step_at = hand_at steps (step ∷ left) left i step here.rest refl

    receiver : receives_at depth step ≡ is_receiver steps i
    receiver = receives_at-receiver steps root i depth lt here.open_now step step_at

    -- the trivia before the step
    trivia : trivia_here t raw depth step ≡ trivia_before (raw_tokens t) steps i
    trivia =
        ap (λ b. if b then leading_trivia (raw_after t raw) else []) receiver
        ∙ (ap (λ raws. if is_receiver steps i then leading_trivia raws else []) here.raw_left ∙ sym (trivia_before-left (raw_tokens t) steps i))

    abbrev at : ℕ
    at = raw_here t raw depth step

    -- and what is left behind it
    left_here : raw_after t at ≡ left_at (raw_tokens t) steps i
    left_here =
        (left_behind t raw here.within (receives_at depth step)).1
        ∙ (ap (λ b. if b then past_trivia (raw_after t raw) else raw_after t raw) receiver
        ∙ ap (λ raws. if is_receiver steps i then past_trivia raws else raws) here.raw_left)

    sends : SendsStep t steps i at step
    sends = sends_step t table steps over i at (left_behind t raw here.within (receives_at depth step)).0 left_here lt step step_at

    behind : StandsBetween t steps left (i + 1) (next_raw at step) (depth_behind depth step)
    behind = record {
      low = omega (arith, lt);
      rest = hand_behind steps (step ∷ left) left i step here.rest refl;
      within = sends.within;
      raw_left = sends.left;
      open_now = open_behind steps root i depth lt here.open_now step step_at;
    }

    one_more : SendsRest t steps left (i + 1) (next_raw at step) (depth_behind depth step) → SendsRest t steps (step ∷ left) i raw depth
    one_more later =
        let raws = raw_tokens t in
        let before = sent_below raws steps i in
        let rest = sent_from t (next_raw at step) (depth_behind depth step) left in
        record {
          sent =
              sym (append_assoc before (map sent_raw (trivia_here t raw depth step)) (sent_here t at step ∷ rest))
              ∙ (ap (λ xs. (before ++ map sent_raw xs) ++ sent_here t at step ∷ rest) trivia
              ∙ (ap (λ s. sent_to raws steps i ++ s ∷ rest) sends.sent
              ∙ (sym (append_assoc (sent_to raws steps i) (sent_for raws steps i step ∷ []) rest)
              ∙ (ap (λ xs. xs ++ rest) (sym (sent_below-more raws steps i step lt step_at)) ∙ later.sent))));
          tokens = (sends.token, later.tokens);
          raw_left = later.raw_left;
        }

  sends_rest : (left : List Step) (i raw depth : ℕ) → StandsBetween t steps left i raw depth → SendsRest t steps left i raw depth
  sends_rest [] i raw depth here =
      let end : i ≡ length steps = omega (arith, here.low, ap length here.rest, length-drop i steps) in
      record {
        sent = append-nil (sent_below (raw_tokens t) steps i) ∙ ap (sent_below (raw_tokens t) steps) end;
        tokens = here.within;
        raw_left = here.raw_left ∙ ap (left_before (raw_tokens t) steps) end;
      }
  sends_rest (step ∷ left) i raw depth here =
      let next = raw_here t raw depth step in
      one_more i raw depth step left here (sends_rest left (i + 1) (next_raw next step) (depth_behind depth step) (behind i raw depth step left here))

-- ---- all steps

module _ (t : Table) (table : IsTable t) (steps : List Step) (fits : Fits t steps) where
  pub sends_all : SendsRest t (errors_moved steps) (errors_moved steps) 0 0 0
  sends_all =
      sends_rest t table (errors_moved steps) (IsOverRaw-from_fits t steps fits) (root_moved t steps fits) (errors_moved steps) 0 0 0
      (record { low = omega arith; rest = refl; within = omega arith; raw_left = raw_after-start t; open_now = refl })

  pub sent_from-sent_list : sent_from t 0 0 (errors_moved steps) ≡ sent_list t steps
  sent_from-sent_list = sends_all.sent ∙ sym (sent_list-numbered t steps)
