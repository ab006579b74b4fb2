-- What rules derive: from which token of an input to which.
use Rattle.std.specs.Prelude.{◌≡◌, ◌≢◌, ℕ, ◌+◌, ◌<◌, ◌≤◌, nat_lt, Bool, true, false, Option, Some, None, List, length, slice_get, unwrap_or, if◌then◌else◌, ◌⊎◌}
use Rattle.squawk_kinds.specs.Kinds.{EOF, IDENT}
use Rattle.squawk_kinds.specs.TokenSets.{has, no_kinds}
use Rattle.squawk_kinds.specs.declared.token_set.TokenSet.{TokenSet}
use Rattle.squawk_table.specs.ParserInput.{Entry, contextual_kind_in, kind_in}
use Rattle.squawk_output.specs.Steps.{eaten}
use Rattle.squawk_output.specs.Draft.{Draft, errors_of}
use Rattle.squawk_parser.specs.Composites.{stands_at}
use Rattle.squawk_parser.specs.Eaten.{eat_steps}
use Rattle.squawk_parser.specs.LookAhead.{seen_from}
use Rattle.squawk_parser.specs.State.{State, HasNotFailed, Keeps, ahead, kind_at}
use Rattle.squawk_parser.specs.Whole.{IsWholeFile}
use Rattle.squawk_parser.specs.Words.{Words}
use Rattle.rule_grammar.specs.Parts.{part_at, set_has}
use Rattle.rule_grammar.specs.declared.part.Part as part
use Rattle.rule_grammar.specs.declared.part.Part.TheVariants.{Nothing, Token, Word, Class, Name, Node, Becomes, Is, Guard, Look, Choice, Arm, Optional, Repeat, List as Items, Call, Operators, Operand, Tail, Some as Once}
use Rattle.rule_grammar.specs.declared.table.Table.{Table}

-- rules, the tokens that are parsed by them, and which of these are hidden from them
pub record Text : Type 0 where
  pub rows : List (List ℕ)
  pub sets : List (List ℕ)
  pub hidden : List Bool
  pub words : Words
  pub input : List Entry
  pub limit : ℕ

-- those of a parser
abbrev pub text_of : Table → State → Text
text_of table s = record { rows = table.rows.now; sets = table.sets.now; hidden = table.hidden.tokens.now; words = s.words; input = s.input; limit = s.limit }

-- whether token i is hidden
abbrev pub is_hidden : List Bool → ℕ → Bool
is_hidden hidden i = unwrap_or (slice_get hidden i) false

-- the kind of token i, as rules see it, and the tokens from it on
abbrev pub kind_of : Text → ℕ → ℕ
kind_of t i = if is_hidden t.hidden i then EOF else if nat_lt (i + 0) t.limit then kind_in t.input (i + 0) else EOF

-- and its contextual kind
abbrev pub word_of : Text → ℕ → ℕ
word_of t i = if nat_lt (i + 0) t.limit then contextual_kind_in t.input (i + 0) else EOF

abbrev pub seen_at : Text → ℕ → List Entry
seen_at t i = seen_from t.input t.limit (i + 0)

-- ---- rows

-- the row after one that ends there
abbrev pub row_after : ℕ → ℕ → ℕ
row_after k end = if nat_lt k end then end else k + 1

-- the row after a part with all that is in it
abbrev pub next_of : ℕ → part.Part → ℕ
next_of k (Node end kind) = row_after k end
next_of k (Choice end) = row_after k end
next_of k (Optional end) = row_after k end
next_of k (Repeat end) = row_after k end
next_of k (Items end separator) = row_after k end
next_of k (Operators end) = row_after k end
next_of k (Once end) = row_after k end
next_of k (Arm end) = row_after k end
next_of k (Tail end level ceiling) = row_after k end
next_of k (Is end) = row_after k end
next_of k (Look end) = row_after k end
next_of k part = k + 1

-- parts that eat nothing
abbrev pub is_silent : part.Part → Bool
is_silent Nothing = true
is_silent (Becomes kind) = true
is_silent (Is end) = true
is_silent (Guard first next) = true
is_silent (Look end) = true
is_silent (Arm end) = true
is_silent (Tail end level ceiling) = true
is_silent part = false

-- from one of the rows that stand beside one another to another
pub data Beside (list : List (List ℕ)) (start : ℕ) : ℕ → Type 0 where
  at_first : Beside list start start
  over_one : {k : ℕ} → Beside list start k → Beside list start (next_of k (part_at list k))

-- an arm, of those from start up to end: the rows in it
pub record IsArm (list : List (List ℕ)) (start end first last : ℕ) : Type 0 where
  pub at : ℕ
  pub to : Beside list start at
  pub within : at < end
  pub is : part_at list at ≡ Arm last
  pub first_is : first ≡ at + 1

-- an operator, of those from start up to end: the rows in it
pub record IsTail (list : List (List ℕ)) (start end first last level ceiling : ℕ) : Type 0 where
  pub at : ℕ
  pub to : Beside list start at
  pub within : at < end
  pub is : part_at list at ≡ Tail last level ceiling
  pub first_is : first ≡ at + 1

-- the row after one
abbrev pub next_row : List (List ℕ) → ℕ → ℕ
next_row list k = next_of k (part_at list k)

-- the only part in some rows, also after one that eats nothing
pub data IsOnly (list : List (List ℕ)) (start end : ℕ) : ℕ → Type 0 where
  alone : end ≤ next_row list start → IsOnly list start end start
  after_silent : is_silent (part_at list start) ≡ true → end ≤ next_row list (next_row list start) → IsOnly list start end (next_row list start)

-- a row that some rows are parsed up to, in place of another: the same, or the one before it, which names a kind
pub data IsEnd (list : List (List ℕ)) : ℕ → ℕ → Type 0 where
  itself : {end : ℕ} → IsEnd list end end
  before_kind : {k kind : ℕ} → part_at list k ≡ Becomes kind → IsEnd list k (k + 1)

-- ---- derivations

-- what derives tokens: rows one after another up to one; a part; a block of rows; an arm of those in a block; a block any
-- number of times; a block once or more, with separators; by a table of operators an operand and operators after it, of
-- levels from a floor on, after which one of a level up to a ceiling may come
pub data Span : Type 0 where
  rows : ℕ → ℕ → Span
  single : ℕ → Span
  block : ℕ → ℕ → Span
  choice : ℕ → ℕ → Span
  turns : ℕ → ℕ → Span
  items : ℕ → ℕ → ℕ → Span
  operation : ℕ → ℕ → ℕ → Span

-- it derives the tokens from one up to another
pub data Derives (t : Text) : Span → ℕ → ℕ → Type 0 where
  none : {k i : ℕ} → Derives t (rows k k) i i
  more : {start k i j m : ℕ} → Derives t (rows start k) i j → Derives t (single k) j m → Derives t (rows start (next_of k (part_at t.rows k))) i m
  all : {start k end i j : ℕ} → end ≤ k → Derives t (rows start k) i j → Derives t (block start end) i j
  silent : {k i : ℕ} → is_silent (part_at t.rows k) ≡ true → Derives t (single k) i i
  token : {k i kind : ℕ} → part_at t.rows k ≡ Token kind → kind_of t i ≡ kind → Derives t (single k) i (i + 1)
  composite : {k i kind : ℕ} → part_at t.rows k ≡ Token kind → is_hidden t.hidden i ≡ false → stands_at (has t.words.operator_first) kind (seen_at t i) ≡ true
      → Derives t (single k) i (i + eaten (eat_steps t.words kind (seen_at t i)))
  word : {k i set : ℕ} → part_at t.rows k ≡ Word set → kind_of t i ≡ IDENT → set_has t.sets set (word_of t i) ≡ true → Derives t (single k) i (i + 1)
  class : {k i set : ℕ} → part_at t.rows k ≡ Class set → set_has t.sets set (kind_of t i) ≡ true → Derives t (single k) i (i + 1)
  name : {k i kind set : ℕ} → part_at t.rows k ≡ Name kind set → set_has t.sets set (kind_of t i) ≡ true → Derives t (single k) i (i + 1)
  node : {k i j end kind : ℕ} → part_at t.rows k ≡ Node end kind → Derives t (block (k + 1) end) i j → Derives t (single k) i j
  call : {k i j start end : ℕ} → part_at t.rows k ≡ Call start end → Derives t (block start end) i j → Derives t (single k) i j
  one : {k i j end : ℕ} → part_at t.rows k ≡ Choice end → Derives t (choice (k + 1) end) i j → Derives t (single k) i j
  taken : {k i j end : ℕ} → part_at t.rows k ≡ Optional end → Derives t (block (k + 1) end) i j → Derives t (single k) i j
  left_out : {k i end : ℕ} → part_at t.rows k ≡ Optional end → Derives t (single k) i i
  some : {k i j m end : ℕ} → part_at t.rows k ≡ Once end → Derives t (block (k + 1) end) i j → Derives t (turns (k + 1) end) j m → Derives t (single k) i m
  repeated : {k i j end : ℕ} → part_at t.rows k ≡ Repeat end → Derives t (turns (k + 1) end) i j → Derives t (single k) i j
  listed : {k i j end separator : ℕ} → part_at t.rows k ≡ Items end separator → Derives t (items (k + 1) end separator) i j → Derives t (single k) i j
  operators : {k i j end ceiling : ℕ} → part_at t.rows k ≡ Operators end → Derives t (operation k 0 ceiling) i j → Derives t (single k) i j
  operand : {k i j table floor ceiling : ℕ} → part_at t.rows k ≡ Operand table floor → Derives t (operation table floor ceiling) i j → Derives t (single k) i j
  arm : {start end first last i j : ℕ} → IsArm t.rows start end first last → Derives t (block first last) i j → Derives t (choice start end) i j
  no_turn : {start end i : ℕ} → Derives t (turns start end) i i
  turn : {start end i j m : ℕ} → Derives t (turns start end) i j → Derives t (block start end) j m → Derives t (turns start end) i m
  first : {start end separator i j : ℕ} → Derives t (block start end) i j → Derives t (items start end separator) i j
  next : {start end separator i j m : ℕ} → Derives t (items start end separator) i j → kind_of t j ≡ separator → Derives t (block start end) (j + 1) m
      → Derives t (items start end separator) i m
  stands : {k i j floor end : ℕ} → part_at t.rows k ≡ Operators end → Derives t (choice (k + 1) end) i j → Derives t (operation k floor 65535) i j
  operates : {k i j m floor ceiling end first last level next_ceiling : ℕ} → Derives t (operation k floor ceiling) i j
      → part_at t.rows k ≡ Operators end → IsTail t.rows (k + 1) end first last level next_ceiling → floor ≤ level → level ≤ ceiling
      → Derives t (block first last) j m → Derives t (operation k floor next_ceiling) i m

-- What some rows derive, those around them do.
abbrev pub AreInside : List (List ℕ) → ℕ → ℕ → ℕ → ℕ → Type 0
AreInside list start end outer_start outer_end =
    (t : Text) → t.rows ≡ list → (i j : ℕ) → Derives t (block start end) i j → Derives t (block outer_start outer_end) i j

-- ---- runs

-- A token of a kind is eaten, or the tokens of a composite one.
abbrev pub EatsKind : Table → ℕ → State → State → Type 0
EatsKind table kind old new = ((kind_of (text_of table old) old.position ≡ kind) × (new.position ≡ old.position + 1))
    ⊎ ((is_hidden table.hidden.tokens.now old.position ≡ false) × (stands_at (has old.words.operator_first) kind (ahead old 0) ≡ true)
    × (new.position ≡ old.position + eaten (eat_steps old.words kind (ahead old 0))))

-- Nothing is eaten, and where a list goes on, its separator is next.
abbrev pub IsSeparated : Table → ℕ → Bool → State → State → Type 0
IsSeparated table separator goes_on old new = (new.position ≡ old.position)
    × (goes_on ≡ true → (kind_of (text_of table new) new.position ≡ separator) × (kind_at new 0 ≡ separator) × (kind_at new 0 ≢ EOF))

-- If a run told no error, it had told none before, and the span derives what it ate.
pub record Derived (t : Text) (span : Span) (before after : Option ℕ) (i j : ℕ) : Type 0 where
  pub clean : after ≡ None → before ≡ None
  pub derives : after ≡ None → Derives t span i j

-- If a run told no error, it had told none before, and this holds.
pub record IfClean (before after : Option ℕ) (fact : Type 0) : Type 0 where
  pub clean : after ≡ None → before ≡ None
  pub holds : after ≡ None → fact

abbrev pub weight : Option ℕ → ℕ
weight None = 0
weight (Some place) = 1

-- Where an error is told for the first time, one more is recorded than before.
pub record Counts (before after : Option ℕ) (old new : State) : Type 0 where
  pub keeps : Keeps old new
  pub errors : HasNotFailed new → errors_of old.draft.items + weight after ≤ errors_of new.draft.items + weight before

-- the kinds of operators: none where the end is one
abbrev pub operators_of : TokenSet → TokenSet
operators_of kinds = if has kinds EOF then no_kinds else kinds

-- One node over all tokens. If there is no error in it, the rule of a file derives them.
pub record IsFile (rows sets : List (List ℕ)) (hidden : List Bool) (words : Words) (start end : ℕ) (input : List Entry) (draft : Draft) : Type 0 where
  pub whole : IsWholeFile input draft
  pub derived : errors_of draft.items ≡ 0
      → Derives (record { rows = rows; sets = sets; hidden = hidden; words = words; input = input; limit = length input }) (block start end) 0 (length input)
