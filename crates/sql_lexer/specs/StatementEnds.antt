-- The law of the ends of statements: which semicolons end one. It can be checked without the machine of `Statements`.
use Rattle.std.specs.Prelude.{ℕ, ◌≡◌, ◌&&◌, Bool, true, false, not, List, [], ◌∷◌, ◌++◌, length}
use Rattle.std.specs.List.{filter, position_or_len}
use Rattle.sql_lexer.specs.declared.statements.Before.TheVariants.{Any}
use Rattle.sql_lexer.specs.declared.statements.Statement.{Statement}
use Rattle.sql_lexer.specs.declared.statements.Statement.TheVariants.{Start, OfRule, OfRoutine}
use Rattle.sql_lexer.specs.declared.statements.Word.{Word}
use Rattle.sql_lexer.specs.declared.statements.Word.TheVariants.{Trivia, Semicolon, QueryEnd, CopyCommand, Command, Open, Close, Dot, As, Begin, Atomic, Case, End, Create, Or, Replace, Function, Procedure, Rule}
use Rattle.sql_lexer.specs.ScriptEnds.{is_passed_over}
use Rattle.sql_lexer.specs.Statements.{after, ends_with}

-- ---- words

-- a semicolon, or a command of psql that ends a query
abbrev pub is_end : Word → Bool
is_end Semicolon = true
is_end QueryEnd = true
is_end word = false

-- any other command of psql
abbrev pub is_command : Word → Bool
is_command CopyCommand = true
is_command Command = true
is_command word = false

-- what may hold semicolons, where it is created
abbrev pub holds_semicolons : Word → Bool
holds_semicolons Function = true
holds_semicolons Procedure = true
holds_semicolons Rule = true
holds_semicolons word = false

abbrev pub begins_holder : List Word → Bool
begins_holder (word ∷ words) = holds_semicolons word
begins_holder [] = false

-- the same after CREATE OR, and after CREATE
abbrev pub replaces_holder : List Word → Bool
replaces_holder (Replace ∷ words) = begins_holder words
replaces_holder words = false

abbrev pub creates_holder : List Word → Bool
creates_holder (Or ∷ words) = replaces_holder words
creates_holder words = begins_holder words

-- a statement is CREATE or CREATE OR REPLACE with FUNCTION, PROCEDURE or RULE
abbrev pub is_holder : List Word → Bool
is_holder (Create ∷ words) = creates_holder words
is_holder words = false

abbrev pub begins_command : List Word → Bool
begins_command (word ∷ words) = is_command word
begins_command [] = false

-- the words that are no white space or comment
abbrev pub without_trivia : List Word → List Word
without_trivia words = filter (λ word. not (is_passed_over word)) words

-- the same without commands of psql
abbrev pub without_commands : List Word → List Word
without_commands words = filter (λ word. not (is_passed_over word) && not (is_command word)) words

-- ---- brackets and blocks

-- semicolons stand in brackets
abbrev pub is_in_rule : Bool → Word → Bool
is_in_rule inside Semicolon = inside
is_in_rule inside QueryEnd = false
is_in_rule inside Open = false
is_in_rule inside Close = false
is_in_rule inside word = true

-- the words of a rule, or those in brackets of one: each bracket is closed
pub data InRule : Bool → List Word → Type 0 where
  nothing : (inside : Bool) → InRule inside []
  one : (inside : Bool) (word : Word) (words : List Word)
      → is_in_rule inside word ≡ true → InRule inside words → InRule inside (word ∷ words)
  brackets : (inside : Bool) (inner words : List Word)
      → InRule true inner → InRule inside words → InRule inside (Open ∷ (inner ++ Close ∷ words))

-- semicolons stand in a block, and not in its CASE expressions
abbrev pub is_in_block : Bool → Word → Bool
is_in_block block Semicolon = block
is_in_block block QueryEnd = false
is_in_block block Case = false
is_in_block block End = false
is_in_block block Dot = false
is_in_block block As = false
is_in_block block word = true

abbrev pub begins_name : Word → Bool
begins_name Dot = true
begins_name As = true
begins_name word = false

-- what stands after `.` or AS; a keyword is a name there
abbrev pub is_named : Word → Bool
is_named Trivia = false
is_named Semicolon = false
is_named QueryEnd = false
is_named CopyCommand = false
is_named Command = false
is_named Dot = false
is_named word = true

-- the words of a block, or of a CASE expression in one: each CASE has its END, but where they are names
pub data InBlock : Bool → List Word → Type 0 where
  nothing : (block : Bool) → InBlock block []
  one : (block : Bool) (word : Word) (words : List Word)
      → is_in_block block word ≡ true → InBlock block words → InBlock block (word ∷ words)
  name : (block : Bool) (sign word : Word) (words : List Word)
      → begins_name sign ≡ true → is_named word ≡ true → InBlock block words → InBlock block (sign ∷ word ∷ words)
  expression : (block : Bool) (inner words : List Word)
      → InBlock false inner → InBlock block words → InBlock block (Case ∷ (inner ++ End ∷ words))

-- ---- the law

-- for each word, whether the statement ends with it
abbrev pub ends_in : Statement → List Word → List Bool
ends_in statement [] = []
ends_in statement (word ∷ words) = ends_with statement word ∷ ends_in (after statement word) words

-- how many words stand before the first that ends the statement
abbrev pub first_end : Statement → List Word → ℕ
first_end statement words = position_or_len (λ b. b) (ends_in statement words)

-- none of these words ends the statement; they lead from one state of it to another
abbrev pub LeadTo : Statement → List Word → Statement → Type 0
LeadTo statement [] other = statement ≡ other
LeadTo statement (word ∷ words) other = (ends_with statement word ≡ false) × LeadTo (after statement word) words other

pub record StatementsEnd : Type 0 where
  -- A command of psql is a statement by itself, where none is begun.
  pub command : (words : List Word)
      → begins_command (without_trivia words) ≡ true → first_end Start words ≡ position_or_len is_command words
  -- Any other statement ends with its first semicolon, or with the first command of psql that ends a query, unless it
  -- creates a function, a procedure or a rule.
  pub plain : (words : List Word)
      → begins_command (without_trivia words) ≡ false → is_holder (without_commands words) ≡ false
      → first_end Start words ≡ position_or_len is_end words
  -- A rule ends with its first semicolon outside of brackets; one in brackets ends nothing.
  pub rule : (words others : List Word)
      → InRule false words → first_end (OfRule 0) (words ++ Semicolon ∷ others) ≡ length words
  -- A semicolon in BEGIN ATOMIC .. END, outside of the brackets of a routine, ends nothing.
  pub block : (words inner : List Word)
      → without_trivia words ≡ Begin ∷ Atomic ∷ (inner ++ End ∷ []) → InBlock true inner
      → LeadTo (OfRoutine 0 Any) words (OfRoutine 0 Any)
