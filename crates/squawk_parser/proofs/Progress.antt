-- Where an operator stands, it has a token at least.
use Rattle.std.proofs.Common.{◌≡◌, ◌∙◌, ℕ, zero, suc, ◌+◌, ◌<◌, Bool, true, false, List, [], ◌∷◌, ◌++◌, length, map, take, if◌then◌else◌, arith, sym}
use Rattle.std.proofs.lemmas.List.Sums.{sum_by-cons}
use Rattle.squawk_kinds.specs.Kinds.{EOF}
use Rattle.squawk_table.specs.ParserInput.{Entry, kind_in}
use Rattle.squawk_output.specs.Steps.{Step, Enter, Exit, count_of, eaten}
use Rattle.squawk_parser.specs.Composites.{Operator}
use Rattle.squawk_parser.specs.Eaten.{form_steps, node, one}
use Rattle.squawk_parser.specs.Operators.{is_operator_name, longest_name, operator_length, joint_run}
use Rattle.squawk_parser.proofs.RecordedItems.{eaten-append}

-- ---- steps

pub eaten-cons : (step : Step) (steps : List Step) → eaten (step ∷ steps) ≡ count_of step + eaten steps
eaten-cons step steps = sum_by-cons count_of step steps

-- a node around steps eats what they eat
pub eaten-node : (kind : ℕ) (steps : List Step) → eaten (node kind steps) ≡ eaten steps
eaten-node kind steps = omega (arith, eaten-cons (Enter kind) (steps ++ Exit ∷ []), eaten-append steps (Exit ∷ []))

node-some : (kind first : ℕ) (steps : List Step) → 0 < eaten (node kind (one first ∷ steps))
node-some kind first steps = omega (arith, eaten-node kind (one first ∷ steps), eaten-cons (one first) steps)

-- ---- operators

longest-some : (kind : ℕ) (run : List ℕ) (n : ℕ) → 0 < longest_name (kind ∷ run) (suc n)
longest-some kind run zero = omega arith
longest-some kind run (suc n) = cases (is_operator_name (take (suc (suc n)) (kind ∷ run))) (longest-some kind run n)
  where
    cases : (b : Bool) → 0 < longest_name (kind ∷ run) (suc n) → 0 < (if b then suc (suc n) else longest_name (kind ∷ run) (suc n))
    cases true shorter = omega arith
    cases false shorter = shorter

-- where the first token may be an operator's, one stands there
pub operator-some : (operator_kind : ℕ → Bool) (seen : List Entry) → operator_kind EOF ≡ false → operator_kind (kind_in seen 0) ≡ true
    → 0 < operator_length operator_kind seen
operator-some operator_kind [] end first = absurd (let e = sym first ∙ end in cc)
operator-some operator_kind (e ∷ seen) end first = rw first (longest-some e.kind (if e.is_joint then joint_run operator_kind seen else []) (length (if e.is_joint then joint_run operator_kind seen else [])))

-- and its tokens are eaten
pub operator-eats : (operator_kind : ℕ → Bool) (kind : ℕ) (seen : List Entry) → operator_kind EOF ≡ false → operator_kind (kind_in seen 0) ≡ true
    → 0 < eaten (form_steps operator_kind kind Operator seen)
operator-eats operator_kind kind [] end first = absurd (let e = sym first ∙ end in cc)
operator-eats operator_kind kind (e ∷ seen) end first = cases (operator_length operator_kind (e ∷ seen)) (operator-some operator_kind (e ∷ seen) end first)
  where
    cases : (n : ℕ) → 0 < n → 0 < eaten (node kind (map (λ e. one e.kind) (take n (e ∷ seen))))
    cases zero some = absurd (omega arith)
    cases (suc n) some = node-some kind e.kind (map (λ e. one e.kind) (take n seen))
