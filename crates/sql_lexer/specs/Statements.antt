-- Where statements end, and which of them data follow, word by word (PostgreSQL's documentation, the reference pages of
-- CREATE FUNCTION, CREATE RULE, COPY and psql).
use Rattle.std.specs.Prelude.{ℕ, ◌+◌, ◌-◌, ◌==◌, nat_le, Bool, true, false, if◌then◌else◌}
use Rattle.sql_lexer.specs.declared.statements.Word.{Word}
use Rattle.sql_lexer.specs.declared.statements.Word.TheVariants.{Trivia, Semicolon, QueryEnd, CopyCommand, Command, Open, Close, Dot, As, Copy, From, Stdin, Create, Or, Replace, Function, Procedure, Rule, Begin, Atomic, Case, End, Other}
use Rattle.sql_lexer.specs.declared.statements.Phrase.{Phrase}
use Rattle.sql_lexer.specs.declared.statements.Phrase.TheVariants.{Nothing, Begun, Whole}
use Rattle.sql_lexer.specs.declared.statements.Before.{Before}
use Rattle.sql_lexer.specs.declared.statements.Before.TheVariants.{Any, Name, Block}
use Rattle.sql_lexer.specs.declared.statements.Statement.{Statement}
use Rattle.sql_lexer.specs.declared.statements.Statement.TheVariants.{Start, Created, CreatedOr, Replaced, Plain, OfRule, OfRoutine, OfBlock, OfCopy}

-- ---- brackets, routines and blocks

abbrev pub brackets_after : ℕ → Word → ℕ
brackets_after unclosed Open = unclosed + 1
brackets_after unclosed Close = unclosed - 1
brackets_after unclosed word = unclosed

-- after `.` and AS a word is a name
abbrev pub read_as : Before → Word → Word
read_as Name Case = Other
read_as Name End = Other
read_as Name Begin = Other
read_as Name Atomic = Other
read_as Name As = Other
read_as before word = word

abbrev pub before_next : Word → Before
before_next Dot = Name
before_next As = Name
before_next Begin = Block
before_next word = Any

-- outside of a block; BEGIN ATOMIC begins one outside of brackets
abbrev pub routine_on : ℕ → Before → Word → Statement
routine_on unclosed before word = OfRoutine (brackets_after unclosed word) (before_next (read_as before word))

abbrev pub routine_after : ℕ → Before → Word → Statement
routine_after unclosed Block Atomic = if unclosed == 0 then OfBlock 1 Any else routine_on unclosed Block Atomic
routine_after unclosed before word = routine_on unclosed before word

-- how many of a block and the CASE expressions in it: END closes the last of them, and a semicolon each CASE
abbrev pub blocks_after : ℕ → Word → ℕ
blocks_after unclosed Case = unclosed + 1
blocks_after unclosed End = unclosed - 1
blocks_after unclosed Semicolon = 1
blocks_after unclosed word = unclosed

-- the routine goes on after the block's END
abbrev pub block_after : ℕ → Word → Statement
block_after unclosed End = if nat_le unclosed 1 then OfRoutine 0 Any else OfBlock (unclosed - 1) Any
block_after unclosed word = OfBlock (blocks_after unclosed word) (before_next word)

-- ---- what a statement is

-- how much of FROM STDIN or FROM STDOUT, outside of brackets, stands after COPY
abbrev pub phrase_after : ℕ → Phrase → Word → Phrase
phrase_after unclosed Whole word = Whole
phrase_after unclosed Begun Stdin = Whole
phrase_after unclosed phrase From = if unclosed == 0 then Begun else Nothing
phrase_after unclosed phrase word = Nothing

-- a statement that creates what the word says: a routine may hold a block, and a rule semicolons in its brackets
abbrev pub creating : Word → Statement
creating Function = OfRoutine 0 Any
creating Procedure = OfRoutine 0 Any
creating Rule = OfRule 0
creating word = Plain

abbrev pub created_by : Word → Statement
created_by Or = CreatedOr
created_by word = creating word

abbrev pub replaced_by : Word → Statement
replaced_by Replace = Replaced
replaced_by word = Plain

-- a statement by its first word
abbrev pub begun_by : Word → Statement
begun_by Create = Created
begun_by Copy = OfCopy 0 Nothing
begun_by word = Plain

-- what it is with a word more, which doesn't end it
abbrev pub goes_on : Statement → Word → Statement
goes_on Start word = begun_by word
goes_on Created word = created_by word
goes_on CreatedOr word = replaced_by word
goes_on Replaced word = creating word
goes_on Plain word = Plain
goes_on (OfRule unclosed) word = OfRule (brackets_after unclosed word)
goes_on (OfRoutine unclosed before) word = routine_after unclosed before word
goes_on (OfBlock unclosed before) word = block_after unclosed (read_as before word)
goes_on (OfCopy unclosed phrase) word = OfCopy (brackets_after unclosed word) (phrase_after unclosed phrase word)

-- ---- its end

-- of what holds semicolons, how many are unclosed
abbrev pub held_by : Statement → ℕ
held_by (OfRule unclosed) = unclosed
held_by (OfBlock unclosed before) = unclosed
held_by statement = 0

abbrev pub is_start : Statement → Bool
is_start Start = true
is_start statement = false

-- A statement ends with its first semicolon where nothing that holds semicolons is unclosed, or with a command of psql
-- that ends a query. Where none is begun, any command of psql is a statement by itself.
abbrev pub ends_with : Statement → Word → Bool
ends_with statement QueryEnd = true
ends_with statement Command = is_start statement
ends_with statement CopyCommand = is_start statement
ends_with statement Semicolon = held_by statement == 0
ends_with statement word = false

-- the statement after a word, or the next one; trivia and commands of psql are passed over
abbrev pub after : Statement → Word → Statement
after statement Trivia = statement
after statement Command = statement
after statement CopyCommand = statement
after statement word = if ends_with statement word then Start else goes_on statement word

-- data follow COPY that has FROM STDIN or FROM STDOUT and ends with a semicolon, and `\copy`
abbrev pub data_follow : Statement → Word → Bool
data_follow statement CopyCommand = true
data_follow (OfCopy unclosed Whole) Semicolon = true
data_follow statement word = false

-- how many are counted as unclosed
abbrev pub unclosed_in : Statement → ℕ
unclosed_in (OfRoutine unclosed before) = unclosed
unclosed_in (OfCopy unclosed phrase) = unclosed
unclosed_in statement = held_by statement
