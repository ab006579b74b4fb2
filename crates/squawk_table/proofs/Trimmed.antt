-- No node but the root begins or ends with trivia that was put back.
use Rattle.std.proofs.Common.{◌≡◌, ◌∙◌, ℕ, suc, ◌+◌, Bool, cond, true, false, not, nat_lt, ◌&&◌, ◌||◌, All, List, [], ◌∷◌, ◌++◌, if◌then◌else◌, map, arith, ap, sym, refl, subst}
use Rattle.std.specs.List.{list_any}
use Rattle.std.specs.Prelude.{◌==◌}
use Rattle.std.proofs.lemmas.Bool.{or_left, or_right, and_right, eqb-true, eq-eqb, lt-ltb}
use Rattle.std.proofs.lemmas.List.Folds.{list_any-append}
use Rattle.std.proofs.lemmas.List.Sums.{sum_by-cons, sum_by-append}
use Rattle.squawk_output.specs.Steps.{Step, Token, Enter, Exit, Error, is_enter, is_exit, count_of, openings, closings, eaten}
use Rattle.squawk_table.specs.RawTable.{Table, RawToken, raw_tokens}
use Rattle.squawk_table.specs.Sent.{Spot, Marked, Walked, PutBack, IsError, InnerNodesAreTrimmed, errors_moved, spots_behind, receives_between, receives, receives_at_count, trivia_at, trivia_run, sent_raw, sent_step, sent_behind, marked_list}
use Rattle.squawk_table.specs.declared.shortcuts.str_step.OwnedStep.{OwnedStep}
use Rattle.squawk_table.specs.declared.shortcuts.str_step.OwnedStep.TheVariants as sent

closings-cons : (step : Step) (steps : List Step) → closings (step ∷ steps) ≡ cond (is_exit step) 1 0 + closings steps
closings-cons step steps = sum_by-cons (λ s. cond (is_exit s) 1 0) step steps

openings-more : (read : List Step) (step : Step) → openings (read ++ step ∷ []) ≡ openings read + openings (step ∷ [])
openings-more read step = sum_by-append (λ s. cond (is_enter s) 1 0) read (step ∷ [])

eaten-more : (read : List Step) (step : Step) → eaten (read ++ step ∷ []) ≡ eaten read + eaten (step ∷ [])
eaten-more read step = sum_by-append count_of read (step ∷ [])

-- ---- read from the left

-- Behind an opening that another one precedes no trivia stands before another step of the walk, errors aside. It is
-- stated of what stands behind a spot: whether an opening stands before that, and whether such an opening stands last
-- before it.
abbrev Begin : Bool → Bool → List Marked → Type 0
Begin opened begun [] = Unit {0}
Begin opened begun (PutBack raw ∷ all) = (begun ≡ false) × Begin opened begun all
Begin opened begun (Walked (sent.Token kind text) ∷ all) = Begin opened false all
Begin opened begun (Walked (sent.Enter kind) ∷ all) = Begin true opened all
Begin opened begun (Walked sent.Exit ∷ all) = Begin opened false all
Begin opened begun (Walked (sent.Error text pos) ∷ all) = Begin opened begun all

-- behind more steps it is told in some way, in which no opening is forgotten
record Further (opened : Bool) (rest : List Marked) : Type 0 where
  pub opened_there : Bool
  pub begun_there : Bool
  pub kept : opened ≡ true → opened_there ≡ true
  pub there : Begin opened_there begun_there rest

further : (front rest : List Marked) (opened begun : Bool) → Begin opened begun (front ++ rest) → Further opened rest
further [] rest opened begun all = record { opened_there = opened; begun_there = begun; kept = λ e. e; there = all }
further (PutBack raw ∷ front) rest opened begun all = further front rest opened begun all.1
further (Walked (sent.Token kind text) ∷ front) rest opened begun all = further front rest opened false all
further (Walked (sent.Enter kind) ∷ front) rest opened begun all =
    let more = further front rest true opened all in
    record { opened_there = more.opened_there; begun_there = more.begun_there; kept = λ e. more.kept refl; there = more.there }
further (Walked sent.Exit ∷ front) rest opened begun all = further front rest opened false all
further (Walked (sent.Error text pos) ∷ front) rest opened begun all = further front rest opened begun all

errors_behind : (step : Marked) (errors : List Marked) → All IsError (step ∷ errors) → All IsError errors
errors_behind step errors all = λ k d lt. all (suc k) d (omega arith)

begun_errors : (errors rest : List Marked) (raw : RawToken) (opened : Bool) → All IsError errors → Begin opened true (errors ++ PutBack raw ∷ rest) → ⊥
begun_errors [] rest raw opened are all = let e = all.0 in cc
begun_errors (PutBack other ∷ errors) rest raw opened are all = let e = all.0 in cc
begun_errors (Walked (sent.Token kind text) ∷ errors) rest raw opened are all = are 0 (Walked (sent.Token kind text)) (omega arith)
begun_errors (Walked (sent.Enter kind) ∷ errors) rest raw opened are all = are 0 (Walked (sent.Enter kind)) (omega arith)
begun_errors (Walked sent.Exit ∷ errors) rest raw opened are all = are 0 (Walked sent.Exit) (omega arith)
begun_errors (Walked (sent.Error text pos) ∷ errors) rest raw opened are all =
    begun_errors errors rest raw opened (errors_behind (Walked (sent.Error text pos)) errors are) all

none_begins : (front middle errors rest : List Marked) (outer inner : ℕ) (raw : RawToken) (opened begun : Bool) → All IsError errors
    → Begin opened begun (front ++ Walked (sent.Enter outer) ∷ (middle ++ Walked (sent.Enter inner) ∷ (errors ++ PutBack raw ∷ rest))) → ⊥
none_begins front middle errors rest outer inner raw opened begun are all =
    let behind = errors ++ PutBack raw ∷ rest in
    let first = further front (Walked (sent.Enter outer) ∷ (middle ++ Walked (sent.Enter inner) ∷ behind)) opened begun all in
    let second = further middle (Walked (sent.Enter inner) ∷ behind) true first.opened_there first.there in
    begun_errors errors rest raw true are (subst (λ b. Begin true b behind) (second.kept refl) second.there)

-- ---- read towards the end

-- no closing of the walk
abbrev HasNoClosing : List Marked → Type 0
HasNoClosing [] = Unit {0}
HasNoClosing (PutBack raw ∷ all) = HasNoClosing all
HasNoClosing (Walked (sent.Token kind text) ∷ all) = HasNoClosing all
HasNoClosing (Walked (sent.Enter kind) ∷ all) = HasNoClosing all
HasNoClosing (Walked sent.Exit ∷ all) = ⊥
HasNoClosing (Walked (sent.Error text pos) ∷ all) = HasNoClosing all

-- Behind a closing before which trivia stands, errors aside, no other one stands. It is stated of what stands behind a
-- spot: whether trivia stands last before that.
abbrev End : Bool → List Marked → Type 0
End ending [] = Unit {0}
End ending (PutBack raw ∷ all) = End true all
End ending (Walked (sent.Token kind text) ∷ all) = End false all
End ending (Walked (sent.Enter kind) ∷ all) = End false all
End ending (Walked sent.Exit ∷ all) = (ending ≡ true → HasNoClosing all) × End false all
End ending (Walked (sent.Error text pos) ∷ all) = End ending all

closing_there : (front rest : List Marked) → HasNoClosing (front ++ Walked sent.Exit ∷ rest) → ⊥
closing_there [] rest none = none
closing_there (PutBack raw ∷ front) rest none = closing_there front rest none
closing_there (Walked (sent.Token kind text) ∷ front) rest none = closing_there front rest none
closing_there (Walked (sent.Enter kind) ∷ front) rest none = closing_there front rest none
closing_there (Walked sent.Exit ∷ front) rest none = none
closing_there (Walked (sent.Error text pos) ∷ front) rest none = closing_there front rest none

end_behind : (front rest : List Marked) (ending : Bool) → End ending (front ++ rest) → (there : Bool) × End there rest
end_behind [] rest ending all = (ending, all)
end_behind (PutBack raw ∷ front) rest ending all = end_behind front rest true all
end_behind (Walked (sent.Token kind text) ∷ front) rest ending all = end_behind front rest false all
end_behind (Walked (sent.Enter kind) ∷ front) rest ending all = end_behind front rest false all
end_behind (Walked sent.Exit ∷ front) rest ending all = end_behind front rest false all.1
end_behind (Walked (sent.Error text pos) ∷ front) rest ending all = end_behind front rest ending all

ended_errors : (errors rest : List Marked) → All IsError errors → End true (errors ++ Walked sent.Exit ∷ rest) → HasNoClosing rest
ended_errors [] rest are all = all.0 refl
ended_errors (PutBack raw ∷ errors) rest are all = absurd (are 0 (PutBack raw) (omega arith))
ended_errors (Walked (sent.Token kind text) ∷ errors) rest are all = absurd (are 0 (Walked (sent.Token kind text)) (omega arith))
ended_errors (Walked (sent.Enter kind) ∷ errors) rest are all = absurd (are 0 (Walked (sent.Enter kind)) (omega arith))
ended_errors (Walked sent.Exit ∷ errors) rest are all = absurd (are 0 (Walked sent.Exit) (omega arith))
ended_errors (Walked (sent.Error text pos) ∷ errors) rest are all =
    ended_errors errors rest (errors_behind (Walked (sent.Error text pos)) errors are) all

none_ends : (front errors middle rest : List Marked) (raw : RawToken) (ending : Bool) → All IsError errors
    → End ending (front ++ PutBack raw ∷ (errors ++ Walked sent.Exit ∷ (middle ++ Walked sent.Exit ∷ rest))) → ⊥
none_ends front errors middle rest raw ending are all =
    let behind = middle ++ Walked sent.Exit ∷ rest in
    let there = end_behind front (PutBack raw ∷ (errors ++ Walked sent.Exit ∷ behind)) ending all in
    closing_there middle rest (ended_errors errors behind are there.1)

-- ---- what is sent

-- behind the trivia before a spot, if there is any
begin_trivia : (trivia : List RawToken) (step : Marked) (all : List Marked) (opened begun : Bool) → (begun ≡ true → trivia ≡ []) → Begin opened begun (step ∷ all)
    → Begin opened begun (map PutBack trivia ++ step ∷ all)
begin_trivia [] step all opened begun none here = here
begin_trivia (r ∷ trivia) step all opened true none here = let e = none refl in cc
begin_trivia (r ∷ trivia) step all opened false none here = (refl, begin_trivia trivia step all opened false (λ e. cc) here)

end_trivia : (trivia : List RawToken) (all : List Marked) (receiver : Bool) → (receiver ≡ false → trivia ≡ []) → End false all → (receiver ≡ true → End true all)
    → End false (map PutBack trivia ++ all)
end_trivia [] all receiver none here behind = here
end_trivia (r ∷ trivia) all false none here behind = let e = none refl in cc
end_trivia (r ∷ trivia) all true none here behind = more trivia (behind refl)
  where
    more : (trivia : List RawToken) → End true all → End true (map PutBack trivia ++ all)
    more [] last = last
    more (r ∷ trivia) last = more trivia last

no_closing_trivia : (trivia : List RawToken) (all : List Marked) → HasNoClosing all → HasNoClosing (map PutBack trivia ++ all)
no_closing_trivia [] all none = none
no_closing_trivia (r ∷ trivia) all none = no_closing_trivia trivia all none

-- one step
abbrev opened_behind : Bool → Step → Bool
opened_behind opened (Token kind n) = opened
opened_behind opened (Enter kind) = true
opened_behind opened Exit = opened
opened_behind opened (Error text) = opened

abbrev begun_behind : Bool → Bool → Step → Bool
begun_behind opened begun (Token kind n) = false
begun_behind opened begun (Enter kind) = opened
begun_behind opened begun Exit = false
begun_behind opened begun (Error text) = begun

module _ (raw : List RawToken) (c : ℕ) (past : List OwnedStep) (all : List Marked) where
  begin_step : (step : Step) (opened begun : Bool) → Begin (opened_behind opened step) (begun_behind opened begun step) all
      → Begin opened begun (Walked (sent_step raw c past step) ∷ all)
  begin_step (Token kind n) opened begun here = here
  begin_step (Enter kind) opened begun here = here
  begin_step Exit opened begun here = here
  begin_step (Error text) opened begun here = here

  no_closing_step : (step : Step) (steps : List Step) → closings (step ∷ steps) ≡ 0 → HasNoClosing all → HasNoClosing (Walked (sent_step raw c past step) ∷ all)
  no_closing_step (Token kind n) steps none here = here
  no_closing_step (Enter kind) steps none here = here
  no_closing_step Exit steps none here = absurd (omega (arith, none, closings-cons Exit steps))
  no_closing_step (Error text) steps none here = here

  end_step : (step : Step) (read steps : List Step) (ending : Bool) → (ending ≡ true → receives_between read step steps ≡ true) → (closings steps ≡ 0 → HasNoClosing all)
      → End false all → End ending (Walked (sent_step raw c past step) ∷ all)
  end_step (Token kind n) read steps ending receiver none here = here
  end_step (Enter kind) read steps ending receiver none here = here
  end_step Exit read steps ending receiver none here = (λ e. none (eqb-true (closings steps) 0 (receiver e)), here)
  end_step (Error text) read steps false receiver none here = here
  end_step (Error text) read steps true receiver none here = let e = receiver refl in cc

-- a spot, and what is sent for it
module _ (raw : List RawToken) (earlier : List Spot) (before : List OwnedStep) (read : List Step) (step : Step) (steps : List Step) where
  abbrev spot : Spot
  spot = record { before = read; step = step; behind = steps }

  abbrev trivia : List RawToken
  trivia = trivia_at raw earlier spot

  abbrev past : List OwnedStep
  past = before ++ map sent_raw trivia

  abbrev one : OwnedStep
  one = sent_step raw (eaten read) past step

  abbrev rest : List Marked
  rest = sent_behind raw (earlier ++ spot ∷ []) (past ++ one ∷ []) (spots_behind (read ++ step ∷ []) steps)

  -- no trivia stands before a step that receives none, or behind a receiver with as many input tokens before it
  other_step : receives spot ≡ false → trivia ≡ []
  other_step other = ap (λ b. if b && not (list_any (receives_at_count (eaten read)) earlier) then trivia_run raw (eaten read) else []) other

  received_before : list_any (receives_at_count (eaten read)) earlier ≡ true → trivia ≡ []
  received_before received =
      let any = list_any (receives_at_count (eaten read)) earlier in
      ap (λ b. if b then trivia_run raw (eaten read) else []) (and_right (receives spot) (not any) (ap not received))

-- where no step closes, nothing that is sent does
no_closing_sent : (raw : List RawToken) (earlier : List Spot) (before : List OwnedStep) (read steps : List Step) → closings steps ≡ 0
    → HasNoClosing (sent_behind raw earlier before (spots_behind read steps))
no_closing_sent raw earlier before read [] none = tt
no_closing_sent raw earlier before read (step ∷ steps) none =
    let here = spot raw earlier before read step steps in
    let sent_past = past raw earlier before read step steps in
    let sent_one = one raw earlier before read step steps in
    let sent_rest = rest raw earlier before read step steps in
    let behind = no_closing_sent raw (earlier ++ here ∷ []) (sent_past ++ sent_one ∷ []) (read ++ step ∷ []) steps (omega (arith, none, closings-cons step steps)) in
    no_closing_trivia (trivia raw earlier before read step steps) (Walked sent_one ∷ sent_rest) (no_closing_step raw (eaten read) sent_past sent_rest step steps none behind)

end_sent : (raw : List RawToken) (earlier : List Spot) (before : List OwnedStep) (read steps : List Step) → End false (sent_behind raw earlier before (spots_behind read steps))
end_sent raw earlier before read [] = tt
end_sent raw earlier before read (step ∷ steps) =
    let here = spot raw earlier before read step steps in
    let sent_past = past raw earlier before read step steps in
    let sent_one = one raw earlier before read step steps in
    let sent_rest = rest raw earlier before read step steps in
    let none = no_closing_sent raw (earlier ++ here ∷ []) (sent_past ++ sent_one ∷ []) (read ++ step ∷ []) steps in
    let behind = end_sent raw (earlier ++ here ∷ []) (sent_past ++ sent_one ∷ []) (read ++ step ∷ []) steps in
    end_trivia (trivia raw earlier before read step steps) (Walked sent_one ∷ sent_rest) (receives here) (other_step raw earlier before read step steps)
    (end_step raw (eaten read) sent_past sent_rest step read steps false (λ e. cc) none behind)
    (λ receiver. end_step raw (eaten read) sent_past sent_rest step read steps true (λ e. receiver) none behind)

opened_more : (opened : Bool) (read : List Step) (step : Step) → opened ≡ nat_lt 0 (openings read) → opened_behind opened step ≡ nat_lt 0 (openings (read ++ step ∷ []))
opened_more opened read (Token kind n) is = is ∙ ap (nat_lt 0) (omega (arith, openings-more read (Token kind n)))
opened_more opened read (Enter kind) is = sym (lt-ltb 0 (openings (read ++ Enter kind ∷ [])) (omega (arith, openings-more read (Enter kind))))
opened_more opened read Exit is = is ∙ ap (nat_lt 0) (omega (arith, openings-more read Exit))
opened_more opened read (Error text) is = is ∙ ap (nat_lt 0) (omega (arith, openings-more read (Error text)))

received_more : (earlier : List Spot) (read : List Step) (step : Step) (steps : List Step) (opened begun : Bool) → opened ≡ nat_lt 0 (openings read)
    → (begun ≡ true → list_any (receives_at_count (eaten read)) earlier ≡ true)
    → begun_behind opened begun step ≡ true → list_any (receives_at_count (eaten (read ++ step ∷ []))) (earlier ++ record { before = read; step = step; behind = steps } ∷ []) ≡ true
received_more earlier read (Token kind n) steps opened begun is received here = cc
received_more earlier read (Enter kind) steps opened begun is received here =
    let c = eaten (read ++ Enter kind ∷ []) in
    let spot : Spot = record { before = read; step = Enter kind; behind = steps } in
    let same : eaten read ≡ c = omega (arith, eaten-more read (Enter kind)) in
    let test : receives_at_count c spot ≡ true = ap (λ b. b && (eaten read == c)) (sym is ∙ here) ∙ eq-eqb (eaten read) c same in
    list_any-append (receives_at_count c) earlier (spot ∷ [])
    ∙ or_right (list_any (receives_at_count c) earlier) (receives_at_count c spot || false) (ap (λ b. b || false) test)
received_more earlier read Exit steps opened begun is received here = cc
received_more earlier read (Error text) steps opened begun is received here =
    let c = eaten (read ++ Error text ∷ []) in
    let spot : Spot = record { before = read; step = Error text; behind = steps } in
    let same : c ≡ eaten read = omega (arith, eaten-more read (Error text)) in
    list_any-append (receives_at_count c) earlier (spot ∷ [])
    ∙ or_left (list_any (receives_at_count c) earlier) (list_any (receives_at_count c) (spot ∷ [])) (ap (λ n. list_any (receives_at_count n) earlier) same ∙ received here)

begin_sent : (raw : List RawToken) (earlier : List Spot) (before : List OwnedStep) (read steps : List Step) (opened begun : Bool) → opened ≡ nat_lt 0 (openings read)
    → (begun ≡ true → list_any (receives_at_count (eaten read)) earlier ≡ true) → Begin opened begun (sent_behind raw earlier before (spots_behind read steps))
begin_sent raw earlier before read [] opened begun is received = tt
begin_sent raw earlier before read (step ∷ steps) opened begun is received =
    let here = spot raw earlier before read step steps in
    let sent_past = past raw earlier before read step steps in
    let sent_one = one raw earlier before read step steps in
    let sent_rest = rest raw earlier before read step steps in
    let behind = begin_sent raw (earlier ++ here ∷ []) (sent_past ++ sent_one ∷ []) (read ++ step ∷ []) steps (opened_behind opened step) (begun_behind opened begun step)
    (opened_more opened read step is) (received_more earlier read step steps opened begun is received) in
    begin_trivia (trivia raw earlier before read step steps) (Walked sent_one) sent_rest opened begun
    (λ e. received_before raw earlier before read step steps (received e))
    (begin_step raw (eaten read) sent_past sent_rest step opened begun behind)

-- no node but the root begins or ends with trivia that was put back
pub trimmed : (table : Table) (steps : List Step) → InnerNodesAreTrimmed (marked_list table steps)
trimmed table steps = record {
  begins = λ front middle errors rest outer inner raw are is.
      none_begins front middle errors rest outer inner raw false false are
      (subst (Begin false false) is (begin_sent (raw_tokens table) [] [] [] (errors_moved steps) false false refl (λ e. cc)));
  ends = λ front errors middle rest raw are is.
      none_ends front errors middle rest raw false are (subst (End false) is (end_sent (raw_tokens table) [] [] [] (errors_moved steps)));
}
