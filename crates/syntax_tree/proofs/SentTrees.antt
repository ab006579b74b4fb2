-- Steps that stand in one root are those of a tree.
use Rattle.std.proofs.Common.{◌≡◌, ◌∙◌, ℕ, suc, ◌-◌, ◌≤◌, Bool, true, false, List, [], ◌∷◌, ◌++◌, length, arith, ap, sym, refl, subst, append_assoc}
use Rattle.std.proofs.lemmas.List.{append-nil}
use Rattle.squawk_table.specs.declared.shortcuts.str_step.OwnedStep.{OwnedStep}
use Rattle.squawk_table.specs.declared.shortcuts.str_step.OwnedStep.TheVariants as sent
use Rattle.squawk_tree.specs.Forest.{Forest, forest_steps}
use Rattle.squawk_tree.specs.Forest as tree
use Rattle.syntax_tree.specs.Trees.{size, IsOneRoot}
use Rattle.syntax_tree.proofs.SentWalks.{Sends}

-- trees behind the nodes in which others stand, the innermost first
abbrev pub steps_behind : List Forest → List OwnedStep
steps_behind [] = []
steps_behind (forest ∷ forests) = sent.Exit ∷ (forest_steps forest ++ steps_behind forests)

-- those that stand in no node
abbrev pub outermost : Forest → List Forest → Forest
outermost forest [] = forest
outermost forest (other ∷ forests) = outermost other forests

-- where the root was entered, errors alone follow it
abbrev pub Completes : Bool → Forest → Type 0
Completes true forest = size forest ≡ 0
Completes false forest = IsOneRoot forest

pub record AreTrees (steps : List OwnedStep) (begun : Bool) (n : ℕ) : Type 0 where
  pub forest : Forest
  pub forests : List Forest
  pub count : length forests ≡ n
  pub are : steps ≡ forest_steps forest ++ steps_behind forests
  pub completes : Completes begun (outermost forest forests)

token_first : (kind : ℕ) (text : List ℕ) (steps : List OwnedStep) (begun : Bool) (n : ℕ) (forest : Forest) (forests : List Forest) → 1 ≤ n → length forests ≡ n
    → steps ≡ forest_steps forest ++ steps_behind forests → Completes begun (outermost forest forests) → AreTrees (sent.Token kind text ∷ steps) begun n
token_first kind text steps begun n forest [] some count are completes = absurd (omega (arith, some, count))
token_first kind text steps begun n forest (other ∷ forests) some count are completes = record {
  forest = tree.Token kind text forest;
  forests = other ∷ forests;
  count = count;
  are = ap (λ l. sent.Token kind text ∷ l) are;
  completes = completes;
}

error_completes : (text : List ℕ) (pos : ℕ) (begun : Bool) (forest : Forest) (forests : List Forest) → Completes begun (outermost forest forests)
    → Completes begun (outermost (tree.Error text pos forest) forests)
error_completes text pos true forest [] completes = completes
error_completes text pos false forest [] completes = completes
error_completes text pos begun forest (other ∷ forests) completes = completes

node_completes : (kind : ℕ) (begun : Bool) (n : ℕ) (forest other : Forest) (forests : List Forest) → length forests ≡ n → (1 ≤ n → begun ≡ true) → (n ≡ 0 → begun ≡ false)
    → Completes true (outermost other forests) → Completes begun (outermost (tree.Node kind forest other) forests)
node_completes kind begun n forest other [] count inside first completes = rw (first (sym count)) completes
node_completes kind begun n forest other (next ∷ forests) count inside first completes = rw (inside (omega (arith, count))) completes

node_first : (kind : ℕ) (steps : List OwnedStep) (begun : Bool) (n : ℕ) (forest : Forest) (forests : List Forest) → length forests ≡ suc n
    → steps ≡ forest_steps forest ++ steps_behind forests → Completes true (outermost forest forests) → (1 ≤ n → begun ≡ true) → (n ≡ 0 → begun ≡ false)
    → AreTrees (sent.Enter kind ∷ steps) begun n
node_first kind steps begun n forest [] count are completes inside first = absurd (omega (arith, count))
node_first kind steps begun n forest (other ∷ forests) count are completes inside first = record {
  forest = tree.Node kind forest other;
  forests = forests;
  count = omega (arith, count);
  are = ap (λ l. sent.Enter kind ∷ l) (are ∙ sym (append_assoc (forest_steps forest) (sent.Exit ∷ forest_steps other) (steps_behind forests)));
  completes = node_completes kind begun n forest other forests (omega (arith, count)) inside first completes;
}

pub trees : (steps : List OwnedStep) (begun : Bool) (n : ℕ) → (1 ≤ n → begun ≡ true) → Sends steps begun n → AreTrees steps begun n
trees [] begun n inside sends =
    record { forest = tree.Nothing; forests = []; count = sym sends.1; are = refl; completes = subst (λ b. Completes b tree.Nothing) (sym sends.0) refl }
trees (sent.Token kind text ∷ steps) begun n inside sends =
    let t = trees steps begun n inside sends.2 in
    token_first kind text steps begun n t.forest t.forests sends.0 t.count t.are t.completes
trees (sent.Enter kind ∷ steps) begun n inside sends =
    let t = trees steps true (suc n) (λ _. refl) sends.1 in
    node_first kind steps begun n t.forest t.forests t.count t.are t.completes inside sends.0
trees (sent.Exit ∷ steps) begun n inside sends =
    let t = trees steps begun (n - 1) (λ _. inside sends.0) sends.1 in
    record {
      forest = tree.Nothing;
      forests = t.forest ∷ t.forests;
      count = let count = t.count in omega (arith, sends.0, count);
      are = ap (λ l. sent.Exit ∷ l) t.are;
      completes = t.completes;
    }
trees (sent.Error text pos ∷ steps) begun n inside sends =
    let t = trees steps begun n inside sends in
    record {
      forest = tree.Error text pos t.forest;
      forests = t.forests;
      count = t.count;
      are = ap (λ l. sent.Error text pos ∷ l) t.are;
      completes = error_completes text pos begun t.forest t.forests t.completes;
    }

-- a tree with one root, of this walk
pub record IsRootOf (steps : List OwnedStep) : Type 0 where
  pub forest : Forest
  pub one : IsOneRoot forest
  pub walk : forest_steps forest ≡ steps

pub one_tree : (steps : List OwnedStep) (forest : Forest) (forests : List Forest) → length forests ≡ 0 → steps ≡ forest_steps forest ++ steps_behind forests
    → IsOneRoot (outermost forest forests) → IsRootOf steps
one_tree steps forest [] none are one = record { forest = forest; one = one; walk = sym (are ∙ append-nil (forest_steps forest)) }
one_tree steps forest (other ∷ forests) none are one = absurd (omega (arith, none))
