-- Which steps a builder refuses, and why.
use Rattle.std.specs.Prelude.{◌≡◌, ◌⊎◌, ℕ, ◌+◌, ◌<◌, ◌≤◌, List, [], ◌∷◌, ◌++◌, length, encode_utf8_all}
use Rattle.std.specs.Str.{chars}
use Rattle.std.specs.List.{fold}
use Rattle.squawk_table.specs.Sent.{texts_of, IsBeginning}
use Rattle.squawk_table.specs.declared.shortcuts.str_step.OwnedStep.{OwnedStep}
use Rattle.squawk_table.specs.declared.shortcuts.str_step.OwnedStep.TheVariants as step
use Rattle.squawk_tree.specs.TreeText.{nodes_open_behind}
use Rattle.syntax_tree.specs.declared.builder.TreeRefusal.{TreeRefusal}
use Rattle.syntax_tree.specs.declared.builder.TreeRefusal.TheVariants.{OutsideOfRoot, NothingOpen, OtherText, TooLarge, OutOfMemory}

-- how many nodes are open behind steps
abbrev pub nodes_open : List OwnedStep → ℕ
nodes_open steps = fold nodes_open_behind 0 steps

-- how many nodes and tokens, and how many errors steps have
abbrev pub elements_in : List OwnedStep → ℕ
elements_in [] = 0
elements_in (step.Token kind text ∷ steps) = elements_in steps + 1
elements_in (step.Enter kind ∷ steps) = elements_in steps + 1
elements_in (step.Exit ∷ steps) = elements_in steps
elements_in (step.Error text pos ∷ steps) = elements_in steps

abbrev pub errors_in : List OwnedStep → ℕ
errors_in [] = 0
errors_in (step.Token kind text ∷ steps) = errors_in steps
errors_in (step.Enter kind ∷ steps) = errors_in steps
errors_in (step.Exit ∷ steps) = errors_in steps
errors_in (step.Error text pos ∷ steps) = errors_in steps + 1

-- a token's text is the next part of the source, and not empty
abbrev pub IsNext : List ℕ → List OwnedStep → List ℕ → Type 0
IsNext source steps text = (1 ≤ length text) × IsBeginning (texts_of steps ++ text) (chars source)

-- Why a token with this text is refused behind steps: it stands outside of all nodes, its text isn't the next part of
-- the source, it would be an element too many or end past 4294967295 bytes, or memory alone is wanting.
abbrev pub RefusesToken : List ℕ → List OwnedStep → List ℕ → TreeRefusal → Type 0
RefusesToken source steps text OutsideOfRoot = nodes_open steps ≡ 0
RefusesToken source steps text OtherText = (0 < nodes_open steps) × (IsNext source steps text → ⊥)
RefusesToken source steps text TooLarge = (0 < nodes_open steps) × IsNext source steps text
    × ((4294967295 ≤ elements_in steps) ⊎ (4294967295 < length (encode_utf8_all (texts_of steps ++ text))))
RefusesToken source steps text NothingOpen = ⊥
RefusesToken source steps text OutOfMemory = (0 < nodes_open steps) × IsNext source steps text
    × (elements_in steps < 4294967295) × (length (encode_utf8_all (texts_of steps ++ text)) ≤ 4294967295)

-- a root stands before, and no node is open
abbrev pub IsBehindRoot : List OwnedStep → Type 0
IsBehindRoot steps = (nodes_open steps ≡ 0) × (0 < elements_in steps)

-- why a node is refused behind steps: it would be a second root, or an element too many, or memory alone is wanting
abbrev pub RefusesNode : List OwnedStep → TreeRefusal → Type 0
RefusesNode steps OutsideOfRoot = IsBehindRoot steps
RefusesNode steps TooLarge = (IsBehindRoot steps → ⊥) × (4294967295 ≤ elements_in steps)
RefusesNode steps OtherText = ⊥
RefusesNode steps NothingOpen = ⊥
RefusesNode steps OutOfMemory = (IsBehindRoot steps → ⊥) × (elements_in steps < 4294967295)

-- why the end of a node is refused behind steps: none is open
abbrev pub RefusesExit : List OwnedStep → TreeRefusal → Type 0
RefusesExit steps answer = (answer ≡ NothingOpen) × (nodes_open steps ≡ 0)

-- why an error is refused behind steps: it would be one too many, or memory alone is wanting
abbrev pub RefusesError : List OwnedStep → TreeRefusal → Type 0
RefusesError steps TooLarge = 4294967295 ≤ errors_in steps
RefusesError steps OutsideOfRoot = ⊥
RefusesError steps OtherText = ⊥
RefusesError steps NothingOpen = ⊥
RefusesError steps OutOfMemory = errors_in steps < 4294967295

-- why a builder over a source refuses a step
abbrev pub RefusesStep : List ℕ → List OwnedStep → OwnedStep → TreeRefusal → Type 0
RefusesStep source steps (step.Token kind text) answer = RefusesToken source steps text answer
RefusesStep source steps (step.Enter kind) answer = RefusesNode steps answer
RefusesStep source steps step.Exit answer = RefusesExit steps answer
RefusesStep source steps (step.Error text pos) answer = RefusesError steps answer

-- why a builder does, by the list that it stands over
pub record RefusesOver (list : List OwnedStep) (next : OwnedStep) (answer : TreeRefusal) : Type 0 where
  pub source : List ℕ
  pub steps : List OwnedStep
  pub is : list ≡ step.Error source 0 ∷ steps
  pub refused : RefusesStep source steps next answer
