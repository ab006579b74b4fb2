-- What a file of statements leaves.
use Rattle.std.specs.Prelude.{◌≡◌, ℕ, ◌+◌, ◌<◌, ◌==◌, ◌&&◌, nat_lt, not, min, Option, Some, None, List, [], ◌∷◌, ◌++◌, ◌≢◌, if◌then◌else◌}
use Rattle.std.specs.Borrow.{Bor}
use Rattle.squawk_kinds.specs.Kinds.{TOMBSTONE}
use Rattle.squawk_output.specs.Draft.{Draft, plain}
use Rattle.squawk_output.specs.OneRoot.{IsBalanced}
use Rattle.squawk_output.specs.Steps.{Step, Token, eaten, errors_in}
use Rattle.squawk_table.specs.ParserInput.{Entry, kinds_in}
use Rattle.squawk_parser.specs.Composed.{Adds}
use Rattle.squawk_parser.specs.Eaten.{node}
use Rattle.squawk_parser.specs.SomeSteps.{Spends}
use Rattle.squawk_parser.specs.State.{State, HasNotFailed}
use Rattle.squawk_parser.specs.Whole.{IsWholeFile}
use Rattle.squawk_parser.specs.Words.{Words}
use Rattle.rule_grammar.specs.Derivations.{Derives}
use Rattle.rule_grammar.specs.Derivations.Span.{block}
use Rattle.rule_grammar.specs.declared.rules.RuleGrammar.{RuleGrammar}
use Rattle.sql_grammar.specs.Kinds.{PSQL_COMMAND, SOURCE_FILE, sql_words}
use Rattle.sql_grammar.specs.Statements.{Statement, statements_of}
use Rattle.sql_grammar.specs.declared.Detail.{Detail}
use Rattle.sql_grammar.specs.declared.Detail.TheVariants.{Tokens, Nodes}

-- The rules for a statement of a kind with so many tokens before its sign. There are none for a command of psql, nor for a
-- sign alone.
abbrev pub rules_for : Detail → ℕ → ℕ → Option (Bor RuleGrammar)
rules_for Tokens kind n = None
rules_for (Nodes rules) kind n = if nat_lt 0 n && not (kind == PSQL_COMMAND) then Some rules else None

-- the first of some rules derives the tokens of an input from one up to another, and sees no more of it
abbrev pub RulesDerive : Words → List Entry → ℕ → ℕ → Bor RuleGrammar → Type 0
RulesDerive words input from to rules =
    Derives (record { rows = rules.now.table.rows.now; sets = rules.now.table.sets.now; hidden = rules.now.table.hidden.tokens.now; words = words; input = input; limit = to })
    (block rules.now.start rules.now.end) from to

-- How a statement is parsed. By rules: where they told no error, they derive its tokens. Without: its node has its kind and
-- no error.
abbrev pub IsParsed : Option (Bor RuleGrammar) → (Bor RuleGrammar → Type 0) → ℕ → ℕ → ℕ → Type 0
IsParsed None derive of kind errors = (kind ≡ of) × (errors ≡ 0)
IsParsed (Some rules) derive of kind errors = errors ≡ 0 → derive rules

-- how many of n tokens are left to rules, where there are some
abbrev pub left_to : Option (Bor RuleGrammar) → ℕ → ℕ
left_to None n = 0
left_to (Some rules) n = n

-- the last step is a token of the input
abbrev pub EndWithToken : List Step → Type 0
EndWithToken steps = (front : List Step) × (kind : ℕ) × (steps ≡ front ++ Token kind 1 ∷ [])

-- The node of a statement stands first: balanced steps that eat its tokens, from one on. Those that no rule sees stand last. What stands behind is told of the
-- others.
pub record BeginsWith (detail : Detail) (input : List Entry) (from : ℕ) (statement : Statement) (are_others : List Step → Type 0) (steps : List Step) : Type 0 where
  pub kind : ℕ
  pub inner : List Step
  pub others : List Step
  pub is : steps ≡ node kind inner ++ others
  pub balanced : IsBalanced inner
  pub len : eaten inner ≡ statement.len
  pub parsed : IsParsed (rules_for detail statement.kind statement.content) (RulesDerive sql_words input from (from + statement.content)) statement.kind kind (errors_in inner)
  pub last : left_to (rules_for detail statement.kind statement.content) statement.content < statement.len → EndWithToken inner
  pub rest : are_others others

-- the steps are the nodes of these statements, one behind another from a token on, and nothing else
abbrev pub AreNodesOf : Detail → List Entry → ℕ → List Statement → List Step → Type 0
AreNodesOf detail input from [] steps = steps ≡ []
AreNodesOf detail input from (statement ∷ statements) steps = BeginsWith detail input from statement (AreNodesOf detail input (from + statement.len) statements) steps

-- One node over all tokens, and in it the nodes of the statements.
pub record IsFile (detail : Detail) (input : List Entry) (draft : Draft) : Type 0 where
  pub whole : IsWholeFile input draft
  pub nodes : List Step
  pub is : plain draft.items ≡ node SOURCE_FILE nodes
  pub statements : AreNodesOf detail input 0 (statements_of (kinds_in input)) nodes

-- ---- parts of it

-- so many events at most are recorded for each token, and so many more, where no rules are asked
abbrev pub Runs : Detail → ℕ → ℕ → State → State → Type 0
Runs Tokens each more old new = Spends each more old new
Runs (Nodes rules) each more old new = Unit {0}

-- some steps are added up to the limit, for the node of a statement of a kind with so many tokens before its sign
pub record AddsRest (detail : Detail) (of n kind : ℕ) (old new : State) : Type 0 where
  pub steps : List Step
  pub adds : Adds steps old new
  pub balanced : IsBalanced steps
  pub end : new.position ≡ new.limit
  pub is_node : kind ≢ TOMBSTONE
  pub parsed : HasNotFailed new → IsParsed (rules_for detail of n) (RulesDerive old.words old.input old.position (min old.limit (old.position + n))) of kind (errors_in steps)
  pub last : HasNotFailed new → old.position + left_to (rules_for detail of n) n < new.position → EndWithToken steps
  pub runs : Runs detail 1 0 old new

-- the same, as far as rules go
pub record IsRuled (rules : Bor RuleGrammar) (kind : ℕ) (old new : State) : Type 0 where
  pub steps : List Step
  pub adds : Adds steps old new
  pub balanced : IsBalanced steps
  pub is_node : kind ≢ TOMBSTONE
  pub derives : HasNotFailed new → errors_in steps ≡ 0 → RulesDerive old.words old.input old.position old.limit rules

-- the node of a statement is added
pub record AddsStatement (detail : Detail) (statement : Statement) (old new : State) : Type 0 where
  pub kind : ℕ
  pub inner : List Step
  pub adds : Adds (node kind inner) old new
  pub balanced : IsBalanced inner
  pub len : eaten inner ≡ statement.len
  pub parsed : HasNotFailed new → IsParsed (rules_for detail statement.kind statement.content) (RulesDerive old.words old.input old.position (old.position + statement.content)) statement.kind kind (errors_in inner)
  pub last : HasNotFailed new → left_to (rules_for detail statement.kind statement.content) statement.content < statement.len → EndWithToken inner
