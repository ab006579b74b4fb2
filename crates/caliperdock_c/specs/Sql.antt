-- What is written of a text of SQL, and why nothing is.
use Rattle.std.specs.Prelude.{◌≡◌, ◌<◌, ◌≤◌, ℕ, List, IsUtf8, length, map}
use Rattle.std.specs.Borrow.{Bor}
use Rattle.std.specs.Str.{chars}
use Rattle.std.specs.Str.Lossy.{utf8_valid_len}
use Rattle.squawk_keywords.specs.KeywordAnswers.{contextual_keyword_of, keyword_of}
use Rattle.squawk_keywords.specs.declared.keywords.Keywords.{Keywords}
use Rattle.squawk_output.specs.Steps.{Step}
use Rattle.squawk_parser.specs.declared.parser.parse_error.ParseError.{ParseError}
use Rattle.squawk_parser.specs.declared.parser.parse_error.ParseError.TheVariants as parse
use Rattle.squawk_table.specs.RawTable.{table_of}
use Rattle.squawk_table.specs.RawTable.{Table as RawTable}
use Rattle.squawk_table.specs.Sent.{sent_list, texts_of}
use Rattle.squawk_table.specs.Shape.{Fits}
use Rattle.squawk_tokens.specs.declared.check.TableError.TheVariants as table
use Rattle.rule_grammar.specs.declared.rules.RuleGrammar.{RuleGrammar}
use Rattle.sql_grammar.specs.Parses.{AreOfFile, IsRefusedParse}
use Rattle.sql_grammar.specs.StrayStrings.{stray_strings}
use Rattle.sql_grammar.specs.declared.Detail.{Detail}
use Rattle.sql_grammar.specs.declared.Detail.TheVariants.{Nodes}
use Rattle.sql_lexer.specs.Scripts.{script_tokens}
use Rattle.sql_report.specs.Statements.{statements_of}
use Rattle.sql_words.specs.SqlVocabulary.{KnowsKeywords}
use Rattle.caliperdock_c.specs.Overlays.{over}
use Rattle.caliperdock_c.specs.Sent.{AreWritten, HasRoom, no_counts}
use Rattle.caliperdock_c.specs.Statements.{numbered_statement}
use Rattle.caliperdock_c.specs.TokenNumbers.{number_of}
use Rattle.caliperdock_c.specs.declared.answer.Refusal.{Refusal}
use Rattle.caliperdock_c.specs.declared.answer.Refusal.TheVariants.{OutOfMemory, NotUtf8, Table, TooManyEvents, TooManyErrors}
use Rattle.caliperdock_c.specs.declared.errors.CError.{CError}
use Rattle.caliperdock_c.specs.declared.sql_lists.CSqlCounts.{CSqlCounts}
use Rattle.caliperdock_c.specs.declared.statement.CStatement.{CStatement}
use Rattle.caliperdock_c.specs.declared.steps.CStep.{CStep}
use Rattle.caliperdock_c.specs.declared.token.CToken.{CToken}

-- ---- the parse

-- the table of a text of SQL by a vocabulary: its raw tokens are the lexer's, and its keywords PostgreSQL's
pub record HasSqlTable (text : List ℕ) (keywords : Keywords) (table : RawTable) : Type 0 where
  pub utf8 : IsUtf8 text
  pub known : KnowsKeywords keywords
  pub is : table ≡ table_of (keyword_of keywords) text (script_tokens text)

-- the steps of a text of SQL in some detail
pub record AreOfSql (detail : Detail) (text : List ℕ) (table : RawTable) (steps : List Step) : Type 0 where
  pub keywords : Keywords
  pub of_text : HasSqlTable text keywords table
  pub of_file : AreOfFile detail (contextual_keyword_of keywords) table steps

-- ---- refusals

-- the parse of a text is refused
pub record IsRefusedSql (detail : Detail) (text : List ℕ) (reason : ParseError) : Type 0 where
  pub keywords : Keywords
  pub table : RawTable
  pub of_text : HasSqlTable text keywords table
  pub refused : IsRefusedParse detail (contextual_keyword_of keywords) table reason

-- Why nothing is written, where a parse is refused so: what stands before in this list is good.
abbrev pub RefusesSql : (List ℕ → ParseError → Type 0) → List ℕ → Refusal → Type 0
RefusesSql refused text OutOfMemory = IsUtf8 text
RefusesSql refused text (NotUtf8 at) = (¬ (IsUtf8 text)) × (at ≡ utf8_valid_len text)
RefusesSql refused text (Table table.TextTooLong) = IsUtf8 text × (4294967295 < length text)
RefusesSql refused text TooManyEvents = refused text parse.TooManyEvents
RefusesSql refused text TooManyErrors = refused text parse.TooManyErrors
RefusesSql refused text reason = ⊥

-- ---- by some rules

-- by rules from which stray strings are hidden
abbrev pub AreByRules : List ℕ → RawTable → List Step → Type 0
AreByRules text table steps =
    (rules : Bor RuleGrammar) × (rules.now.table.hidden.tokens.now ≡ stray_strings text (script_tokens text)) × AreOfSql (Nodes rules) text table steps

abbrev pub IsRefusedByRules : List ℕ → ParseError → Type 0
IsRefusedByRules text reason = (rules : Bor RuleGrammar) × IsRefusedSql (Nodes rules) text reason

-- ---- what is written

abbrev pub no_sql_counts : CSqlCounts
no_sql_counts = record { tokens = 0; statements = 0; sent = no_counts }

-- there is room for all
pub record HasSqlRoom (tokens : List CToken) (statements : List CStatement) (steps : List CStep) (errors : List CError) (texts : List ℕ)
    (counts : CSqlCounts) : Type 0 where
  pub tokens_fit : counts.tokens ≤ length tokens
  pub statements_fit : counts.statements ≤ length statements
  pub sent_fit : HasRoom steps errors texts counts.sent

-- The statements of such a parse of the text, in numbers, over what stood there before; and how many there are.
pub record AreStatementsWritten (parse : List ℕ → RawTable → List Step → Type 0) (text : List ℕ) (statements new_statements : List CStatement) (count : ℕ) : Type 0 where
  pub table : RawTable
  pub walk : List Step
  pub of_text : parse text table walk
  pub are : new_statements ≡ over (map numbered_statement (statements_of (sent_list table walk))) statements
  pub count_is : count ≡ length (statements_of (sent_list table walk))

-- The same of a parse by rules, the raw tokens of the text, and what is sent for the parse, whose texts are all of the text.
pub record AreSqlWritten (text : List ℕ) (tokens : List CToken) (statements : List CStatement) (steps : List CStep) (errors : List CError) (texts : List ℕ)
    (new_tokens : List CToken) (new_statements : List CStatement) (new_steps : List CStep) (new_errors : List CError) (new_texts : List ℕ)
    (counts : CSqlCounts) : Type 0 where
  pub cut : AreStatementsWritten AreByRules text statements new_statements counts.statements
  pub fits : Fits cut.table cut.walk
  pub whole : texts_of (sent_list cut.table cut.walk) ≡ chars text
  pub tokens_are : new_tokens ≡ over (map number_of (script_tokens text)) tokens
  pub token_count : counts.tokens ≡ length (script_tokens text)
  pub written : AreWritten cut.table (sent_list cut.table cut.walk) steps errors texts new_steps new_errors new_texts counts.sent
