-- The lines of an answer.
use Rattle.std.specs.Prelude.{ℕ, Bool, true, false, Option, Some, None, List, [], ◌++◌, codes}
use Rattle.std.specs.List.{flat_map}
use Rattle.std.specs.Fmt.{decimal}
use Rattle.squawk_json.specs.JsonStrings.{json_of, json_string}
use Rattle.squawk_tokens.specs.LexicalErrors.{LexicalError as LexicalError}
use Rattle.squawk_table.specs.declared.shortcuts.str_step.OwnedStep.{OwnedStep}
use Rattle.squawk_table.specs.declared.shortcuts.str_step.OwnedStep.TheVariants.{Token, Enter, Exit, Error}

-- the hint of an error, if it has one
abbrev pub hint_part : Option (List ℕ) → List ℕ
hint_part None = []
hint_part (Some hint) = codes " " ++ json_string hint

-- the line of a lexical error
abbrev pub lex_line : LexicalError → List ℕ
lex_line e = codes "lex " ++ decimal e.start ++ codes ".." ++ decimal e.end ++ codes " " ++ json_string e.message ++ hint_part e.hint ++ codes "\n"

-- the lines of lexical errors
abbrev pub lex_lines : List LexicalError → List ℕ
lex_lines errors = flat_map lex_line errors

-- the line of a step
abbrev pub step_line : OwnedStep → List ℕ
step_line (Token kind text) = codes "token " ++ decimal kind ++ codes " " ++ json_of text ++ codes "\n"
step_line (Enter kind) = codes "enter " ++ decimal kind ++ codes "\n"
step_line Exit = codes "exit\n"
step_line (Error text pos) = codes "error " ++ decimal pos ++ codes " " ++ json_of text ++ codes "\n"

-- the lines of steps
abbrev pub step_lines : List OwnedStep → List ℕ
step_lines steps = flat_map step_line steps

-- the last line: whether all tokens were eaten
abbrev pub last_line : Bool → List ℕ
last_line true = codes "all\n"
last_line false = codes "rest\n"

-- the lines of an answer: those of the lexical errors, and those of the steps with the last one
pub record Texts : Type 0 where
  pub errors : List ℕ
  pub steps : List ℕ

-- both, in this order
abbrev pub joined : Texts → List ℕ
joined texts = texts.errors ++ texts.steps
