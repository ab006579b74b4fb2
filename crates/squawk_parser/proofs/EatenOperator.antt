-- The tokens of an operator are eaten one after another.
use Rattle.std.proofs.Common.{◌≡◌, ◌≢◌, ◌∙◌, ℕ, zero, suc, ◌+◌, ◌<◌, ◌≤◌, Bool, true, false, List, [], ◌∷◌, ◌++◌, length, map, take, drop, if◌then◌else◌, add-one, arith, ap, sym, refl, subst}
use Rattle.std.proofs.lemmas.List.{map-append}
use Rattle.squawk_kinds.specs.Kinds.{EOF}
use Rattle.squawk_table.specs.ParserInput.{Entry, kind_in}
use Rattle.squawk_parser.specs.Eaten.{current_as, one}
use Rattle.squawk_parser.specs.Operators.{is_operator_name, longest_name, operator_length, joint_run}
use Rattle.squawk_parser.specs.Recorded.{Puts}
use Rattle.squawk_parser.specs.State.{State, ahead}
use Rattle.squawk_parser.proofs.RecordedSteps.{puts-then}
use Rattle.squawk_parser.proofs.SeenSteps.{ahead-moved, bump_puts}

-- a name is no longer than it may be
longest-short : (run : List ℕ) (n : ℕ) → longest_name run n ≤ n
longest-short run zero = omega arith
longest-short run (suc n) = cases (is_operator_name (take (suc n) run)) (longest-short run n)
  where
    cases : (b : Bool) → longest_name run n ≤ n → (if b then suc n else longest_name run n) ≤ suc n
    cases true shorter = omega arith
    cases false shorter = omega arith

-- the token at an index, and those behind it
record StandsAt (operator_kind : ℕ → Bool) (seen : List Entry) (i : ℕ) : Type 0 where
  entry : Entry
  kind : operator_kind entry.kind ≡ true
  here : drop i seen ≡ entry ∷ drop (suc i) seen
  more : take (suc i) seen ≡ take i seen ++ entry ∷ []

-- each kind of a run of operators' kinds is that of a token
module _ (operator_kind : ℕ → Bool) (e : Entry) (seen : List Entry) (later : (i : ℕ) → i < length (joint_run operator_kind seen) → StandsAt operator_kind seen i) where
  run-behind : (i : ℕ) (is_joint : Bool) → suc i < suc (length (if is_joint then joint_run operator_kind seen else [])) → StandsAt operator_kind (e ∷ seen) (suc i)
  run-behind i true lt =
      let behind = later i (omega arith) in
      record { entry = behind.entry; kind = behind.kind; here = behind.here; more = ap (λ xs. e ∷ xs) behind.more }
  run-behind i false lt = absurd (omega arith)

  run-first : (i : ℕ) → operator_kind e.kind ≡ true → i < suc (length (if e.is_joint then joint_run operator_kind seen else [])) → StandsAt operator_kind (e ∷ seen) i
  run-first zero is lt = record { entry = e; kind = is; here = refl; more = refl }
  run-first (suc i) is lt = run-behind i e.is_joint lt

  run-cases : (i : ℕ) (b : Bool) → operator_kind e.kind ≡ b
      → i < length (if b then e.kind ∷ (if e.is_joint then joint_run operator_kind seen else []) else []) → StandsAt operator_kind (e ∷ seen) i
  run-cases i true is lt = run-first i is lt
  run-cases i false is lt = absurd (omega arith)

-- each kind of a run of operators' kinds is that of a token
run-stands : (operator_kind : ℕ → Bool) (seen : List Entry) (i : ℕ) → i < length (joint_run operator_kind seen) → StandsAt operator_kind seen i
run-stands operator_kind [] i lt = absurd (omega arith)
run-stands operator_kind (e ∷ seen) i lt = run-cases operator_kind e seen (λ j. run-stands operator_kind seen j) i (operator_kind e.kind) refl lt

operator-stands : (operator_kind : ℕ → Bool) (seen : List Entry) (i : ℕ) → i < operator_length operator_kind seen → StandsAt operator_kind seen i
operator-stands operator_kind seen i lt =
    let run = joint_run operator_kind seen in
    run-stands operator_kind seen i (omega (arith, longest-short run (length run)))

-- the first i of the tokens that were seen are eaten, each with its own kind
pub record AreEaten (i : ℕ) (old now : State) : Type 0 where
  pub puts : Puts (map (λ e. one e.kind) (take i (ahead old 0))) old now
  pub seen : ahead now 0 ≡ drop i (ahead old 0)

-- the next one of an operator is eaten
pub are_eaten-next : (operator_kind : ℕ → Bool) (i : ℕ) (old now next : State) → operator_kind EOF ≡ false
    → i < operator_length operator_kind (ahead old 0) → AreEaten i old now
    → Puts (current_as (kind_in (ahead now 0) 0) (ahead now 0)) now next → AreEaten (i + 1) old next
are_eaten-next operator_kind i old now next no_end lt so_far bump = record {
  puts = subst (λ steps. Puts steps old next) (sym steps) (puts-then so_far.puts token);
  seen = ahead-moved 1 token.keeps token.position ∙ (ap (drop 1) (so_far.seen ∙ stands.here) ∙ ap (λ j. drop j (ahead old 0)) (sym (add-one i)));
}
  where
    stands : StandsAt operator_kind (ahead old 0) i
    stands = operator-stands operator_kind (ahead old 0) i lt

    first : kind_in (ahead now 0) 0 ≡ stands.entry.kind
    first = ap (λ seen. kind_in seen 0) (so_far.seen ∙ stands.here)

    some : stands.entry.kind ≢ EOF
    some end = absurd (let e = sym stands.kind ∙ (ap operator_kind end ∙ no_end) in cc)

    token : Puts (one stands.entry.kind ∷ []) now next
    token = bump_puts stands.entry.kind first some bump

    steps : map (λ e. one e.kind) (take (i + 1) (ahead old 0)) ≡ map (λ e. one e.kind) (take i (ahead old 0)) ++ one stands.entry.kind ∷ []
    steps =
        ap (λ j. map (λ e. one e.kind) (take j (ahead old 0))) (add-one i)
        ∙ (ap (map (λ e. one e.kind)) stands.more ∙ map-append (λ e. one e.kind) (take i (ahead old 0)) (stands.entry ∷ []))

-- at the end all of it are
pub are_eaten-all : (operator_kind : ℕ → Bool) (i : ℕ) (old now : State) (seen : List Entry) → i ≡ operator_length operator_kind seen
    → ahead old 0 ≡ seen → AreEaten i old now
    → Puts (map (λ e. one e.kind) (take (operator_length operator_kind seen) seen)) old now
are_eaten-all operator_kind i old now seen all same so_far =
    subst (λ steps. Puts steps old now) (ap (λ xs. map (λ e. one e.kind) (take i xs)) same ∙ ap (λ n. map (λ e. one e.kind) (take n seen)) all) so_far.puts
