-- A tree that is being built. Only a builder's invariant and `stands_after` speak of it.
use Rattle.std.specs.Prelude.{◌≡◌, ◌⊎◌, ℕ, ◌+◌, ◌≤◌, List, ◌∷◌, ◌++◌, length, take, false, encode_utf8_all, IsUtf8}
use Rattle.squawk_table.specs.declared.shortcuts.str_step.OwnedStep.{OwnedStep}
use Rattle.squawk_table.specs.declared.shortcuts.str_step.OwnedStep.TheVariants as step
use Rattle.squawk_tree.specs.Forest.{Forest, forest_bytes, forest_steps}
use Rattle.syntax_tree.specs.Trees.{size, text_of, IsOneRoot}
use Rattle.syntax_tree.specs.Layout.{layout, errors_of, last_of, AreTexts}
use Rattle.syntax_tree.specs.declared.element.Element.{Element}
use Rattle.syntax_tree.specs.declared.tree.TreeError.{TreeError}

-- what a builder has: the source, how many of its bytes were sent as tokens, elements, the place of the innermost open
-- node, errors, and how many steps were taken
pub record Growing : Type 0 where
  pub source : List ℕ
  pub sent : ℕ
  pub elements : List Element
  pub innermost : ℕ
  pub errors : List TreeError
  pub steps : ℕ

-- trees, and open nodes
pub data Draft : Type 0 where
  -- trees in no open node
  Outside : Forest → Draft
  -- behind a draft an open node of a kind, with trees in it
  Within : Draft → ℕ → Forest → Draft

-- its elements, bytes, characters and steps
abbrev pub draft_size : Draft → ℕ
draft_size (Outside trees) = size trees
draft_size (Within outer kind trees) = draft_size outer + 1 + size trees

abbrev pub draft_bytes : Draft → ℕ
draft_bytes (Outside trees) = forest_bytes trees
draft_bytes (Within outer kind trees) = draft_bytes outer + forest_bytes trees

abbrev pub draft_text : Draft → List ℕ
draft_text (Outside trees) = text_of trees
draft_text (Within outer kind trees) = draft_text outer ++ text_of trees

abbrev pub draft_steps : Draft → List OwnedStep
draft_steps (Outside trees) = forest_steps trees
draft_steps (Within outer kind trees) = draft_steps outer ++ step.Enter kind ∷ forest_steps trees

-- how many nodes are open, and the place of the innermost one
abbrev pub draft_depth : Draft → ℕ
draft_depth (Outside trees) = 0
draft_depth (Within outer kind trees) = draft_depth outer + 1

abbrev pub innermost : Draft → ℕ
innermost (Outside trees) = 4294967295
innermost (Within outer kind trees) = draft_size outer

-- no token stands outside of nodes, and there is one root at most
abbrev pub HasOneRoot : Draft → Type 0
HasOneRoot (Outside trees) = (size trees ≡ 0) ⊎ IsOneRoot trees
HasOneRoot (Within (Outside trees) kind inner) = size trees ≡ 0
HasOneRoot (Within (Within outer kind trees) kind' inner) = HasOneRoot (Within outer kind trees)

abbrev pub HasTexts : Draft → Type 0
HasTexts (Outside trees) = AreTexts trees
HasTexts (Within outer kind trees) = HasTexts outer × AreTexts trees

abbrev pub open_element : ℕ → ℕ → ℕ → ℕ → Element
open_element kind parent at start =
    record { kind = kind; is_token = false; start = start; parent = parent; behind = 0; last = at }

-- its elements and errors, as they lie in lists
abbrev pub draft_elements : Draft → List Element
draft_elements (Outside trees) = layout trees 4294967295 0 0 0
draft_elements (Within outer kind trees) =
    let at = draft_size outer in
    draft_elements outer ++ open_element kind (innermost outer) at (draft_bytes outer)
    ∷ layout trees at (at + 1) (draft_bytes outer) (last_of trees (at + 1) at)

abbrev pub draft_errors : Draft → List TreeError
draft_errors (Outside trees) = errors_of trees 4294967295 0 0
draft_errors (Within outer kind trees) =
    let at = draft_size outer in
    draft_errors outer ++ errors_of trees at (at + 1) (length (draft_steps outer) + 1)

-- What a builder has is that of a draft. It has one root at most, and the text of each token is text, and not empty.
pub record IsDraft (growing : Growing) (draft : Draft) : Type 0 where
  pub elements : growing.elements ≡ draft_elements draft
  pub innermost_is : growing.innermost ≡ innermost draft
  pub errors : growing.errors ≡ draft_errors draft
  pub steps : growing.steps ≡ length (draft_steps draft)
  pub sent : growing.sent ≤ length growing.source
  pub text : take growing.sent growing.source ≡ encode_utf8_all (draft_text draft)
  pub root : HasOneRoot draft
  pub texts : HasTexts draft

-- and that of some draft, of no more elements, errors and bytes than numbers of 32 bits tell
pub record IsGrowing (growing : Growing) : Type 0 where
  pub draft : Draft
  pub is : IsDraft growing draft
  pub utf8 : IsUtf8 growing.source
  pub few : length growing.elements ≤ 4294967295
  pub few_errors : length growing.errors ≤ 4294967295
  pub short : growing.sent ≤ 4294967295

-- A builder stands after steps.
pub record StandsAfter (growing : Growing) (steps : List OwnedStep) : Type 0 where
  pub draft : Draft
  pub is : IsDraft growing draft
  pub walk : draft_steps draft ≡ steps

-- A sink tells no more than the list that it stands after. So a builder's list begins with a step that has the source: it stands
-- after the steps behind that one.
pub record StandsOver (growing : Growing) (list : List OwnedStep) : Type 0 where
  pub steps : List OwnedStep
  pub is : list ≡ step.Error growing.source 0 ∷ steps
  pub stands : StandsAfter growing steps
