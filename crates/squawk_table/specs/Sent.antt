-- What is sent for a walk over a table: its steps with their texts, and the trivia put back between them.
use Rattle.std.specs.Prelude.{◌≡◌, ℕ, zero, suc, ◌==◌, nat_lt, All, Bool, true, false, not, ◌&&◌, List, [], ◌∷◌, ◌++◌, map, filter, take, drop, length, sum_by, encode_utf8_all, if◌then◌else◌}
use Rattle.std.specs.List.{flat_map, list_any}
use Rattle.std.specs.Str.{chars}
use Rattle.squawk_kinds.specs.Kinds.{is_trivia}
use Rattle.squawk_output.specs.Steps.{Step, Token, Enter, Exit, Error, openings, closings, eaten}
use Rattle.squawk_table.specs.RawTable.{Table, RawToken, raw_tokens, text_of}
use Rattle.squawk_table.specs.declared.shortcuts.str_step.OwnedStep.{OwnedStep}
use Rattle.squawk_table.specs.declared.shortcuts.str_step.OwnedStep.TheVariants as sent

-- ---- raw tokens

-- whether a raw token belongs to the input
abbrev pub is_input : RawToken → Bool
is_input raw = not (is_trivia raw.kind)

-- the raw tokens that aren't trivia
abbrev pub input_tokens : List RawToken → List RawToken
input_tokens raw = filter is_input raw

-- the trivia at the front
abbrev pub leading_trivia : List RawToken → List RawToken
leading_trivia [] = []
leading_trivia (r ∷ raw) = if is_trivia r.kind then r ∷ leading_trivia raw else []

-- what is left without it
abbrev pub past_trivia : List RawToken → List RawToken
past_trivia [] = []
past_trivia (r ∷ raw) = if is_trivia r.kind then past_trivia raw else r ∷ raw

-- no raw token is trivia
abbrev pub HasNoTrivia : List RawToken → Type 0
HasNoTrivia raw = All (λ r. is_trivia r.kind ≡ false) raw

-- what stands after the first c tokens of the input
abbrev pub after_input : ℕ → List RawToken → List RawToken
after_input zero raw = raw
after_input (suc c) raw = drop 1 (past_trivia (after_input c raw))

-- trivia run c: the trivia after c tokens of the input and before the next
abbrev pub trivia_run : List RawToken → ℕ → List RawToken
trivia_run raw c = leading_trivia (after_input c raw)

-- ---- where errors stand

-- the errors at the front of a walk
abbrev pub leading_errors : List Step → List Step
leading_errors [] = []
leading_errors (Token kind n ∷ steps) = []
leading_errors (Enter kind ∷ steps) = []
leading_errors (Exit ∷ steps) = []
leading_errors (Error text ∷ steps) = Error text ∷ leading_errors steps

-- The errors that stand directly behind a closing go directly before it. They go there once: before the closing in
-- front of that they don't climb. Errors at the front of a walk stay there, so the list behind the closing begins with
-- them, too: there they are dropped.
abbrev pub errors_moved : List Step → List Step
errors_moved [] = []
errors_moved (Token kind n ∷ steps) = Token kind n ∷ errors_moved steps
errors_moved (Enter kind ∷ steps) = Enter kind ∷ errors_moved steps
errors_moved (Exit ∷ steps) =
    let errors = leading_errors steps in
    errors ++ Exit ∷ drop (length errors) (errors_moved steps)
errors_moved (Error text ∷ steps) = Error text ∷ errors_moved steps

-- ---- spots in a walk

-- a spot: a step of a walk, with the steps before it and those behind it
pub record Spot : Type 0 where
  pub before : List Step
  pub step : Step
  pub behind : List Step

-- the spots of steps behind others
abbrev pub spots_behind : List Step → List Step → List Spot
spots_behind before [] = []
spots_behind before (step ∷ behind) = record { before = before; step = step; behind = behind } ∷ spots_behind (before ++ step ∷ []) behind

-- the spots of a walk
abbrev pub spots_of : List Step → List Spot
spots_of steps = spots_behind [] steps

-- how many input tokens precede a spot
abbrev pub eaten_at : Spot → ℕ
eaten_at spot = eaten spot.before

-- ---- where trivia stands

-- whether trivia may stand directly before a step that stands between others: before a token, an opening that isn't the
-- first, and the last closing
abbrev pub receives_between : List Step → Step → List Step → Bool
receives_between before (Token kind n) behind = true
receives_between before (Enter kind) behind = nat_lt 0 (openings before)
receives_between before Exit behind = closings behind == 0
receives_between before (Error text) behind = false

abbrev pub receives : Spot → Bool
receives spot = receives_between spot.before spot.step spot.behind

-- whether a spot receives trivia, and c input tokens precede it
abbrev pub receives_at_count : ℕ → Spot → Bool
receives_at_count c spot = receives spot && (eaten_at spot == c)

-- the trivia that stands directly before a spot behind earlier ones: run c, if it is the first receiver that c input
-- tokens precede
abbrev pub trivia_at : List RawToken → List Spot → Spot → List RawToken
trivia_at raw earlier spot =
    let c = eaten_at spot in
    if receives spot && not (list_any (receives_at_count c) earlier) then trivia_run raw c else []

-- ---- texts of what is sent

-- the text of a token; other steps have none
abbrev pub text_in : OwnedStep → List ℕ
text_in (sent.Token kind text) = text
text_in step = []

-- the texts of the tokens, joined
abbrev pub texts_of : List OwnedStep → List ℕ
texts_of steps = flat_map text_in steps

-- how many bytes they have
abbrev pub bytes_of : List OwnedStep → ℕ
bytes_of steps = sum_by (λ step. length (encode_utf8_all (text_in step))) steps

-- ---- what is sent

-- a raw token by itself
abbrev pub sent_raw : RawToken → OwnedStep
sent_raw r = sent.Token r.kind (chars r.text)

-- A step before which c input tokens were eaten and these steps were sent: a token has the next n input tokens as its
-- text, and the position of an error is the number of bytes that were sent.
abbrev pub sent_step : List RawToken → ℕ → List OwnedStep → Step → OwnedStep
sent_step raw c before (Token kind n) = sent.Token kind (chars (text_of (take n (drop c (input_tokens raw)))))
sent_step raw c before (Enter kind) = sent.Enter kind
sent_step raw c before Exit = sent.Exit
sent_step raw c before (Error text) = sent.Error text (bytes_of before)

-- what is sent, marked by where it comes from: a step of the walk, or trivia that is put back
pub data Marked : Type 0 where
  Walked : OwnedStep → Marked
  PutBack : RawToken → Marked

-- the same without the mark
abbrev pub unmarked : Marked → OwnedStep
unmarked (Walked step) = step
unmarked (PutBack raw) = sent_raw raw

-- what is sent for spots behind earlier ones, for which these steps were sent: for each the trivia before it, and its
-- step
abbrev pub sent_behind : List RawToken → List Spot → List OwnedStep → List Spot → List Marked
sent_behind raw earlier before [] = []
sent_behind raw earlier before (spot ∷ spots) =
    let trivia = trivia_at raw earlier spot in
    let past = before ++ map sent_raw trivia in
    let step = sent_step raw (eaten_at spot) past spot.step in
    map PutBack trivia ++ Walked step ∷ sent_behind raw (earlier ++ spot ∷ []) (past ++ step ∷ []) spots

-- the sent list of a walk, marked: its errors moved, and trivia put back
abbrev pub marked_list : Table → List Step → List Marked
marked_list table steps = sent_behind (raw_tokens table) [] [] (spots_of (errors_moved steps))

-- the sent list
abbrev pub sent_list : Table → List Step → List OwnedStep
sent_list table steps = map unmarked (marked_list table steps)

-- the position of each error is the number of bytes that were sent before it
abbrev pub ErrorsArePlaced : List OwnedStep → Type 0
ErrorsArePlaced all = (front rest : List OwnedStep) (text : List ℕ) (pos : ℕ) → all ≡ front ++ sent.Error text pos ∷ rest → pos ≡ bytes_of front

-- one list is the beginning of another
abbrev pub IsBeginning : {X : Type 0} → List X → List X → Type 0
IsBeginning {X} front whole = (rest : List X) × (front ++ rest ≡ whole)

-- ---- nodes and trivia

-- a step of the walk that is an error
abbrev pub IsError : Marked → Type 0
IsError (Walked (sent.Error text pos)) = Unit {0}
IsError step = ⊥

-- No node but the root begins or ends with trivia that was put back, errors aside: none stands behind an opening that
-- another one precedes, or before a closing that another one follows, directly or with nothing but errors between.
pub record InnerNodesAreTrimmed (all : List Marked) : Type 0 where
  pub begins : (front middle errors rest : List Marked) (outer inner : ℕ) (trivia : RawToken) → All IsError errors
      → ¬ (all ≡ front ++ Walked (sent.Enter outer) ∷ (middle ++ Walked (sent.Enter inner) ∷ (errors ++ PutBack trivia ∷ rest)))
  pub ends : (front errors middle rest : List Marked) (trivia : RawToken) → All IsError errors
      → ¬ (all ≡ front ++ PutBack trivia ∷ (errors ++ Walked sent.Exit ∷ (middle ++ Walked sent.Exit ∷ rest)))

-- ---- sinks

-- A sink took a part of a list and refused the next step: it stands after what it stood after before, and that part.
pub record StopsWithin {X R : Type 0} (stands : List X → Type 0) (refuses : List X → X → R → Type 0) (before all : List X) (answer : R) : Type 0 where
  pub front : List X
  pub next : X
  pub rest : List X
  pub is : all ≡ front ++ next ∷ rest
  pub stood : stands (before ++ front)
  pub refused : refuses (before ++ front) next answer
