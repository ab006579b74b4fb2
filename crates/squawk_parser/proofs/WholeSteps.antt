-- What grammars may rely on: a node around all that a parser recorded, up to the end of its input.
use Rattle.std.proofs.Common.{◌≡◌, ◌≢◌, ◌∙◌, ℕ, zero, suc, ◌+◌, ◌<◌, ◌≤◌, Bool, true, false, not, List, [], ◌∷◌, ◌++◌, length, nat_lt, take, if◌then◌else◌, arith, ap, sym, refl, subst, length-append}
use Rattle.std.proofs.lemmas.List.{take-append-le}
use Rattle.std.proofs.lemmas.List.Elements.{All-head, All-tail, filter-append}
use Rattle.squawk_kinds.specs.Kinds.{EOF}
use Rattle.squawk_output.specs.Draft.{Mark, OpenMarker, plain}
use Rattle.squawk_output.specs.declared.log.Made.TheVariants.{ByStart}
use Rattle.squawk_output.specs.OneRoot.{IsBalanced, StandsInOneRoot}
use Rattle.squawk_output.specs.Steps.{Step, Token, Enter, Exit, Error, is_enter, is_exit, is_error, openings, closings, without_errors}
use Rattle.squawk_output.proofs.Sums.{count_by-cons}
use Rattle.squawk_table.specs.ParserInput.{Entry, HasNoEndToken, kind_in}
use Rattle.squawk_parser.specs.Composed.{Adds}
use Rattle.squawk_parser.specs.Eaten.{node}
use Rattle.squawk_parser.specs.Recorded.{Begins, Completes}
use Rattle.squawk_parser.specs.State.{State, HasNotFailed, IsFresh, kind_at}
use Rattle.squawk_parser.specs.Whole.{IsWholeFile}
use Rattle.squawk_parser.proofs.AddedSteps.{Adds-node, begun_items, node_around, plain-fresh}
use Rattle.squawk_parser.proofs.Balance.{depth_after, depth_after-balanced, IsBalanced-depth_after}
use Rattle.squawk_parser.proofs.RecordedSteps.{went}
use Rattle.squawk_parser.proofs.Splits.{count_by-append}

-- ---- the root

-- errors change no depth
depth-without : (d : ℕ) (steps : List Step) → depth_after d (without_errors steps) ≡ depth_after d steps
depth-without d [] = refl
depth-without d (Token kind n ∷ steps) = depth-without d steps
depth-without d (Enter kind ∷ steps) = depth-without (suc d) steps
depth-without zero (Exit ∷ steps) = refl
depth-without (suc d) (Exit ∷ steps) = depth-without d steps
depth-without d (Error text ∷ steps) = depth-without d steps

one_root : (kind : ℕ) (ys : List Step) → IsBalanced ys → StandsInOneRoot (node kind ys)
one_root kind ys balanced = record {
  begins = tt;
  inside = inside;
  closed = omega (arith, count_by-cons is_exit (Enter kind) (ys ++ Exit ∷ []), count_by-cons is_enter (Enter kind) (ys ++ Exit ∷ []), count_by-append is_exit ys (Exit ∷ []), count_by-append is_enter ys (Exit ∷ []), balanced.closed);
}
  where
    inside : (k : ℕ) → 0 < k → k < length (node kind ys) → closings (take k (node kind ys)) < openings (take k (node kind ys))
    inside zero some lt = absurd (omega arith)
    inside (suc j) some lt =
        let short : j ≤ length ys = omega (arith, lt, length-append ys (Exit ∷ [])) in
        let front : take j (ys ++ Exit ∷ []) ≡ take j ys = take-append-le j ys (Exit ∷ []) short in
        let shut = ap closings front in
        let open_ones = ap openings front in
        omega (arith, shut, open_ones, balanced.never_below j, count_by-cons is_exit (Enter kind) (take j (ys ++ Exit ∷ [])), count_by-cons is_enter (Enter kind) (take j (ys ++ Exit ∷ [])))

-- balanced steps in a node stand in one root, errors aside
pub root-node : (kind : ℕ) (xs : List Step) → IsBalanced xs → StandsInOneRoot (without_errors (node kind xs))
root-node kind xs balanced =
    subst StandsInOneRoot (sym (ap (λ zs. Enter kind ∷ zs) (filter-append (λ step. not (is_error step)) xs (Exit ∷ []))))
    (one_root kind (without_errors xs) (IsBalanced-depth_after (without_errors xs) (depth-without 0 xs ∙ depth_after-balanced xs balanced)))

-- ---- the end

no_end : (input : List Entry) (index : ℕ) → HasNoEndToken input → index < length input → kind_in input index ≢ EOF
no_end [] index some lt = absurd (omega arith)
no_end (e ∷ input) zero some lt = All-head (λ e. e.kind ≢ EOF) e input some
no_end (e ∷ input) (suc index) some lt = no_end input index (All-tail (λ e. e.kind ≢ EOF) e input some) (omega arith)

-- a parser that sees the end, under no limit but that of its input, has eaten all of it
pub at_end : (s : State) → HasNoEndToken s.input → s.limit ≡ length s.input → kind_at s 0 ≡ EOF → length s.input ≤ s.position
at_end s some limit end = cases (nat_lt (s.position + 0) s.limit) refl end
  where
    cases : (b : Bool) → nat_lt (s.position + 0) s.limit ≡ b → (if b then kind_in s.input (s.position + 0) else EOF) ≡ EOF → length s.input ≤ s.position
    cases true e seen = absurd (no_end s.input (s.position + 0) some (grind (arith, e, limit)) seen)
    cases false e seen = grind (arith, e, limit)

-- ---- the file

-- A node is begun at the beginning, steps are added up to the end, and it is completed: what is left is one node over all of the input.
pub whole_file : {a b c d : State} {m : Mark} {kind : ℕ} {steps : List Step} → IsFresh a → Begins m a b → Adds steps b c → Completes m.id kind c d → kind_at c 0 ≡ EOF
    → HasNotFailed d → IsWholeFile a.input d.draft
whole_file {a} {b} {c} {d} {m} {kind} {steps} fresh begins adds done end goes =
    let sound = adds.keeps.sound in
    let before = went done.keeps goes in
    let added = adds.draft before in
    let inside : plain c.draft.items ≡ steps = ap plain (begun_items begins adds before ∙ ap (λ s. s.draft.items ++ OpenMarker m.id ByStart ∷ added.made) fresh) ∙ added.steps_made in
    let is : plain d.draft.items ≡ node kind steps = plain-fresh fresh (Adds-node (node_around begins adds done refl)) goes in
    let input : c.input ≡ a.input = adds.keeps.input ∙ begins.keeps.input in
    let limit : c.limit ≡ length c.input = adds.keeps.limit ∙ (begins.keeps.limit ∙ (ap (λ s. s.limit) fresh ∙ ap length (sym input))) in
    record {
      root = subst (λ steps. StandsInOneRoot (without_errors steps)) (sym is) (root-node kind steps (subst IsBalanced inside sound.balanced));
      all = omega (arith, at_end c sound.no_end limit end, ap length input, done.position, done.keeps.sound.exact goes);
    }
