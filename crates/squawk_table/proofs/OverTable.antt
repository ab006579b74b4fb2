-- A walk over the input of a table, from a raw token on.
use Rattle.std.proofs.Common.{◌≡◌, ◌∙◌, ℕ, ◌+◌, ◌-◌, ◌≤◌, Bool, true, false, if◌then◌else◌, List, [], ◌∷◌, length, take, drop, arith, ap, refl, sym, subst}
use Rattle.std.specs.Prelude.{◌↔◌}
use Rattle.std.proofs.lemmas.List.{length-map}
use Rattle.squawk_kinds.specs.Keywords.{Keywords}
use Rattle.squawk_kinds.specs.Kinds.{is_trivia}
use Rattle.squawk_table.specs.ParserInput.{Entry, entries_of, entry_for, kinds_in}
use Rattle.squawk_table.specs.RawTable.{RawToken, Table, raw_after}
use Rattle.squawk_table.specs.Sent.{past_trivia, HasNoTrivia}
use Rattle.squawk_table.specs.Shape.{IsOver, no_keywords}
use Rattle.squawk_output.specs.Steps.{Step, Token, Enter, Exit, Error}
use Rattle.squawk_table.proofs.FrontTokens.{FrontTokens, FrontTokens-one, one-FrontTokens, drop-entries_of, entries_of-past_trivia, length-raw_after, raw_after-add}

-- the entries of the raw tokens that are left from one on
abbrev pub entries_after : Table → ℕ → List Entry
entries_after t raw = entries_of no_keywords (raw_after t raw)

module _ (t : Table) (steps : List Step) (raw begin kind n : ℕ) (within : begin ≤ length t.kinds) (past : raw_after t begin ≡ past_trivia (raw_after t raw)) where
  -- the raw tokens that the code looks for stand where the walk goes on with a token
  pub front_there : IsOver (Token kind n ∷ steps) (entries_after t raw) → HasNoTrivia (take n (raw_after t begin)) × 1 ≤ n × begin + n ≤ length t.kinds
  front_there over =
      let front = subst (FrontTokens n) (sym past) (FrontTokens-one no_keywords n (raw_after t raw) over.0) in
      (front.input, front.some, omega (arith, front.there, length-raw_after t (length t.kinds - begin) begin (omega arith)))

  -- and the walk goes on behind them
  pub over_behind : HasNoTrivia (take n (raw_after t begin)) → 1 ≤ n → begin + n ≤ length t.kinds
      → IsOver (Token kind n ∷ steps) (entries_after t raw) ↔ IsOver steps (entries_after t (begin + n))
  over_behind input some room =
      let front : FrontTokens n (raw_after t begin) =
      record { some = some; there = omega (arith, length-raw_after t (length t.kinds - begin) begin (omega arith)); input = input } in
      let rest : drop n (entries_after t raw) ≡ entries_after t (begin + n) =
      ap (drop n) (sym (entries_of-past_trivia no_keywords (raw_after t raw)) ∙ ap (entries_of no_keywords) (sym past))
      ∙ (drop-entries_of no_keywords n (raw_after t begin) front.there input ∙ ap (entries_of no_keywords) (sym (raw_after-add t n begin room))) in (
        λ over. subst (IsOver steps) rest over.1,
        λ over. (one-FrontTokens no_keywords n (raw_after t raw) (subst (FrontTokens n) past front), subst (IsOver steps) (sym rest) over),
      )

-- which steps are over the entries of raw tokens doesn't depend on contextual keywords
pub IsOver-keywords : (a b : Keywords) (steps : List Step) (raws : List RawToken) → IsOver steps (entries_of a raws) → IsOver steps (entries_of b raws)
IsOver-keywords a b [] raws over = tt
IsOver-keywords a b (Token kind n ∷ steps) raws over =
    let front = FrontTokens-one a n raws over.0 in
    let next : (c : Keywords) → drop n (entries_of c raws) ≡ entries_of c (drop n (past_trivia raws)) =
    λ c. ap (drop n) (sym (entries_of-past_trivia c raws)) ∙ drop-entries_of c n (past_trivia raws) front.there front.input in
    (one-FrontTokens b n raws front, subst (IsOver steps) (sym (next b)) (IsOver-keywords a b steps (drop n (past_trivia raws)) (subst (IsOver steps) (next a) over.1)))
IsOver-keywords a b (Enter kind ∷ steps) raws over = IsOver-keywords a b steps raws over
IsOver-keywords a b (Exit ∷ steps) raws over = IsOver-keywords a b steps raws over
IsOver-keywords a b (Error text ∷ steps) raws over = IsOver-keywords a b steps raws over

-- nor do the kinds of the tokens
pub kinds_keywords : (a b : Keywords) (raws : List RawToken) → kinds_in (entries_of a raws) ≡ kinds_in (entries_of b raws)
kinds_keywords a b [] = refl
kinds_keywords a b (raw ∷ raws) = cases (is_trivia raw.kind) (kinds_keywords a b raws)
  where
    cases : (trivia : Bool) → kinds_in (entries_of a raws) ≡ kinds_in (entries_of b raws)
        → kinds_in (if trivia then entries_of a raws else entry_for a raw raws ∷ entries_of a raws) ≡ kinds_in (if trivia then entries_of b raws else entry_for b raw raws ∷ entries_of b raws)
    cases true same = same
    cases false same = ap (λ kinds. raw.kind ∷ kinds) same

-- nor how many tokens there are
pub length-keywords : (a b : Keywords) (raws : List RawToken) → length (entries_of a raws) ≡ length (entries_of b raws)
length-keywords a b raws =
    sym (length-map (entries_of a raws) (λ e. e.kind)) ∙ (ap length (kinds_keywords a b raws) ∙ length-map (entries_of b raws) (λ e. e.kind))
