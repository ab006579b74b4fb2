-- How many a statement counts as unclosed.
use Rattle.std.proofs.Common.{◌≡◌, ℕ, ◌+◌, ◌-◌, ◌≤◌, ◌==◌, nat_le, arith, refl}
use Rattle.std.proofs.lemmas.Bool.{cond_both}
use Rattle.sql_lexer.specs.declared.statements.Before.{Before}
use Rattle.sql_lexer.specs.declared.statements.Before.TheVariants.{Any, Block}
use Rattle.sql_lexer.specs.declared.statements.Statement.{Statement}
use Rattle.sql_lexer.specs.declared.statements.Statement.TheVariants.{Start, Created, CreatedOr, Replaced, Plain, OfRule, OfRoutine, OfBlock, OfCopy}
use Rattle.sql_lexer.specs.declared.statements.Word.{Word}
use Rattle.sql_lexer.specs.declared.statements.Word.TheVariants.{Atomic, Case, Close, Command, Copy, CopyCommand, Create, End, Function, Open, Or, Procedure, Replace, Rule, Semicolon, Trivia}
use Rattle.sql_lexer.specs.Statements.{after, begun_by, block_after, brackets_after, created_by, creating, ends_with, goes_on, read_as, replaced_by, routine_after, routine_on, unclosed_in}

none_begun : (word : Word) → unclosed_in (begun_by word) ≡ 0
none_begun Create = refl
none_begun Copy = refl
none_begun word = refl

none_creating : (word : Word) → unclosed_in (creating word) ≡ 0
none_creating Function = refl
none_creating Procedure = refl
none_creating Rule = refl
none_creating word = refl

none_created : (word : Word) → unclosed_in (created_by word) ≡ 0
none_created Or = refl
none_created word = none_creating word

none_replaced : (word : Word) → unclosed_in (replaced_by word) ≡ 0
none_replaced Replace = refl
none_replaced word = refl

most_brackets : (unclosed : ℕ) (word : Word) → brackets_after unclosed word ≤ unclosed + 1
most_brackets unclosed Open = omega arith
most_brackets unclosed Close = omega arith
most_brackets unclosed word = omega arith

most_routine : (unclosed : ℕ) (before : Before) (word : Word) → unclosed_in (routine_after unclosed before word) ≤ unclosed + 1
most_routine unclosed Block Atomic =
    cond_both (unclosed == 0) (OfBlock 1 Any) (routine_on unclosed Block Atomic) (λ s. unclosed_in s ≤ unclosed + 1) (λ e. omega arith) (λ e. omega arith)
most_routine unclosed before word = most_brackets unclosed word

most_block : (unclosed : ℕ) (word : Word) → unclosed_in (block_after unclosed word) ≤ unclosed + 1
most_block unclosed End =
    cond_both (nat_le unclosed 1) (OfRoutine 0 Any) (OfBlock (unclosed - 1) Any) (λ s. unclosed_in s ≤ unclosed + 1) (λ e. omega arith) (λ e. omega arith)
most_block unclosed Case = omega arith
most_block unclosed Semicolon = omega arith
most_block unclosed word = omega arith

most_on : (statement : Statement) (word : Word) → unclosed_in (goes_on statement word) ≤ unclosed_in statement + 1
most_on Start word = omega (arith, none_begun word)
most_on Created word = omega (arith, none_created word)
most_on CreatedOr word = omega (arith, none_replaced word)
most_on Replaced word = omega (arith, none_creating word)
most_on Plain word = omega arith
most_on (OfRule unclosed) word = most_brackets unclosed word
most_on (OfRoutine unclosed before) word = most_routine unclosed before word
most_on (OfBlock unclosed before) word = most_block unclosed (read_as before word)
most_on (OfCopy unclosed phrase) word = most_brackets unclosed word

-- a word adds at most one
pub most_after : (statement : Statement) (word : Word) → unclosed_in (after statement word) ≤ unclosed_in statement + 1
most_after statement Trivia = omega arith
most_after statement Command = omega arith
most_after statement CopyCommand = omega arith
most_after statement word =
    cond_both (ends_with statement word) Start (goes_on statement word) (λ s. unclosed_in s ≤ unclosed_in statement + 1)
    (λ e. omega arith)
    (λ e. most_on statement word)
