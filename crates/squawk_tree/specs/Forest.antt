-- Trees beside each other, and their text.
use Rattle.std.specs.Prelude.{ℕ, suc, ◌+◌, List, [], ◌∷◌, ◌++◌, length, encode_utf8_all}
use Rattle.squawk_kinds.specs.KindNames.{Names}
use Rattle.squawk_table.specs.declared.shortcuts.str_step.OwnedStep.{OwnedStep}
use Rattle.squawk_table.specs.declared.shortcuts.str_step.OwnedStep.TheVariants as step
use Rattle.squawk_tree.specs.TreeText.{error_shown, line, span, token_shown}

-- trees beside each other
pub data Forest : Type 0 where
  -- none
  Nothing : Forest
  -- a token with its text, before others
  Token : ℕ → List ℕ → Forest → Forest
  -- a node with what is in it, before others
  Node : ℕ → Forest → Forest → Forest
  -- an error with its text and its position, before others
  Error : List ℕ → ℕ → Forest → Forest

-- the steps of a walk over them
abbrev pub forest_steps : Forest → List OwnedStep
forest_steps Nothing = []
forest_steps (Token kind text others) = step.Token kind text ∷ forest_steps others
forest_steps (Node kind inner others) = step.Enter kind ∷ (forest_steps inner ++ step.Exit ∷ forest_steps others)
forest_steps (Error text pos others) = step.Error text pos ∷ forest_steps others

-- how many bytes their tokens have
abbrev pub forest_bytes : Forest → ℕ
forest_bytes Nothing = 0
forest_bytes (Token kind text others) = length (encode_utf8_all text) + forest_bytes others
forest_bytes (Node kind inner others) = forest_bytes inner + forest_bytes others
forest_bytes (Error text pos others) = forest_bytes others

-- Their text, inside of so many nodes and behind so many bytes. A node has its line, and what is in it stands two
-- spaces deeper.
abbrev pub forest_text : Names → ℕ → ℕ → Forest → List ℕ
forest_text names depth start Nothing = []
forest_text names depth start (Token kind text others) =
    let end = start + length (encode_utf8_all text) in
    line depth (token_shown names kind start end text) ++ forest_text names depth end others
forest_text names depth start (Node kind inner others) =
    let end = start + forest_bytes inner in
    line depth (span names kind start end) ++ forest_text names (suc depth) start inner ++ forest_text names depth end others
forest_text names depth start (Error text pos others) = line depth (error_shown text pos) ++ forest_text names depth start others
