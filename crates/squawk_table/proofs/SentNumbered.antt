-- The sent list, spot by spot, is the one by the numbers of the steps.
use Rattle.std.proofs.Common.{◌≡◌, ◌∙◌, ℕ, ◌+◌, ◌<◌, ◌≤◌, not, ◌&&◌, ◌||◌, List, [], ◌∷◌, ◌++◌, if◌then◌else◌, map, length, take, drop, get_or, arith, add-one, ap, sym, refl, append_assoc}
use Rattle.std.specs.List.{list_any}
use Rattle.std.specs.Prelude.{◌==◌}
use Rattle.std.proofs.Math.Bool.{or-false, or_comm}
use Rattle.std.proofs.lemmas.List.{append-nil, take_more, length-drop}
use Rattle.std.proofs.lemmas.List.Folds.{list_any-append}
use Rattle.squawk_output.specs.Steps.{Step}
use Rattle.squawk_table.specs.RawTable.{Table, RawToken, raw_tokens}
use Rattle.squawk_table.specs.Sent.{Spot, Marked, Walked, PutBack, errors_moved, spots_behind, eaten_at, receives_between, receives, receives_at_count, trivia_at, trivia_run, sent_raw, sent_step, unmarked, sent_behind, sent_list}
use Rattle.squawk_table.specs.declared.shortcuts.str_step.OwnedStep.{OwnedStep}
use Rattle.squawk_table.proofs.NumberedSteps.{eaten_before, is_receiver, is_received, trivia_before, sent_below}
use Rattle.squawk_table.proofs.Receivers.{is_receiver-at}
use Rattle.squawk_table.proofs.SentBelow.{sent_below-more}
use Rattle.squawk_table.proofs.StepSpots.{hand_lt, hand_at, hand_behind}

-- trivia and a step without their marks
unmarked-step : (trivia : List RawToken) (step : OwnedStep) (rest : List Marked)
    → map unmarked (map PutBack trivia ++ Walked step ∷ rest) ≡ map sent_raw trivia ++ step ∷ map unmarked rest
unmarked-step [] step rest = refl
unmarked-step (r ∷ trivia) step rest = ap (λ xs. sent_raw r ∷ xs) (unmarked-step trivia step rest)

-- what was sent before a spot, and what is sent from it on: the same, one spot later
abbrev sent_next : List RawToken → Spot → List OwnedStep → List RawToken → List OwnedStep
sent_next raw spot before trivia =
    let past = before ++ map sent_raw trivia in
    past ++ sent_step raw (eaten_at spot) past spot.step ∷ []

one_spot : (raw : List RawToken) (earlier spots : List Spot) (spot : Spot) (before : List OwnedStep)
    → let next = sent_next raw spot before (trivia_at raw earlier spot) in
    before ++ map unmarked (sent_behind raw earlier before (spot ∷ spots)) ≡ next ++ map unmarked (sent_behind raw (earlier ++ spot ∷ []) next spots)
one_spot raw earlier spots spot before =
    let trivia = trivia_at raw earlier spot in
    let past = before ++ map sent_raw trivia in
    let step = sent_step raw (eaten_at spot) past spot.step in
    let rest = sent_behind raw (earlier ++ spot ∷ []) (past ++ step ∷ []) spots in
    ap (λ xs. before ++ xs) (unmarked-step trivia step rest)
    ∙ (sym (append_assoc before (map sent_raw trivia) (step ∷ map unmarked rest)) ∙ sym (append_assoc past (step ∷ []) (map unmarked rest)))

-- spots of which as many receive trivia
abbrev AreReceived : List Step → ℕ → List Spot → Type 0
AreReceived steps i earlier = (c : ℕ) → list_any (receives_at_count c) earlier ≡ is_received steps c i

module _ (steps behind : List Step) (i : ℕ) (step : Step) (earlier : List Spot) (lt : i < length steps) (at : get_or steps i step ≡ step) (rest : behind ≡ drop (i + 1) steps) (received : AreReceived steps i earlier) where
  abbrev spot : Spot
  spot = record { before = take i steps; step = step; behind = behind }

  receives_here : receives spot ≡ is_receiver steps i
  receives_here = ap (receives_between (take i steps) step) rest ∙ sym (is_receiver-at steps i step lt at)

  trivia_here : (raw : List RawToken) → trivia_at raw earlier spot ≡ trivia_before raw steps i
  trivia_here raw =
      let c = eaten_before steps i in
      ap (λ b. if b && not (list_any (receives_at_count c) earlier) then trivia_run raw c else []) receives_here
      ∙ ap (λ b. if is_receiver steps i && not b then trivia_run raw c else []) (received c)

  received_more : AreReceived steps (i + 1) (earlier ++ spot ∷ [])
  received_more c =
      let before = list_any (receives_at_count c) earlier in
      let here = receives_at_count c spot in
      list_any-append (receives_at_count c) earlier (spot ∷ [])
      ∙ (ap (λ b. before || b) (or-false here)
      ∙ (or_comm before here
      ∙ (ap (λ b. here || b) (received c)
      ∙ (ap (λ b. (b && (eaten_before steps i == c)) || is_received steps c i) receives_here ∙ sym (ap (is_received steps c) (add-one i))))))

  sent_here : (raw : List RawToken) → sent_next raw spot (sent_below raw steps i) (trivia_at raw earlier spot) ≡ sent_below raw steps (i + 1)
  sent_here raw = ap (sent_next raw spot (sent_below raw steps i)) (trivia_here raw) ∙ sym (sent_below-more raw steps i step lt at)

  taken : take i steps ++ step ∷ [] ≡ take (i + 1) steps
  taken = ap (λ s. take i steps ++ s ∷ []) (sym at) ∙ sym (take_more steps i step lt)

sent_behind-numbered : (raw : List RawToken) (steps left : List Step) (i : ℕ) (earlier : List Spot) → i ≤ length steps → left ≡ drop i steps → AreReceived steps i earlier
    → sent_below raw steps i ++ map unmarked (sent_behind raw earlier (sent_below raw steps i) (spots_behind (take i steps) left)) ≡ sent_below raw steps (length steps)
sent_behind-numbered raw steps [] i earlier le rest received =
    let end : i ≡ length steps = omega (arith, ap length rest, length-drop i steps) in
    append-nil (sent_below raw steps i) ∙ ap (sent_below raw steps) end
sent_behind-numbered raw steps (step ∷ behind) i earlier le rest received =
    let lt = hand_lt steps (step ∷ behind) behind i step rest refl in
    let at = hand_at steps (step ∷ behind) behind i step rest refl in
    let next = hand_behind steps (step ∷ behind) behind i step rest refl in
    let here = spot steps behind i step earlier lt at next received in
    let later = earlier ++ here ∷ [] in
    one_spot raw earlier (spots_behind (take i steps ++ step ∷ []) behind) here (sent_below raw steps i)
    ∙ (ap (λ xs. xs ++ map unmarked (sent_behind raw later xs (spots_behind (take i steps ++ step ∷ []) behind))) (sent_here steps behind i step earlier lt at next received raw)
    ∙ (ap (λ xs. sent_below raw steps (i + 1) ++ map unmarked (sent_behind raw later (sent_below raw steps (i + 1)) (spots_behind xs behind))) (taken steps behind i step earlier lt at next received)
    ∙ sent_behind-numbered raw steps behind (i + 1) later (omega (arith, lt)) next (received_more steps behind i step earlier lt at next received)))

-- the sent list is what is sent for all steps
pub sent_list-numbered : (table : Table) (steps : List Step) → sent_list table steps ≡ sent_below (raw_tokens table) (errors_moved steps) (length (errors_moved steps))
sent_list-numbered table steps = sent_behind-numbered (raw_tokens table) (errors_moved steps) (errors_moved steps) 0 [] (omega arith) refl (λ c. refl)
