-- The refusals of stages as those of a call on a text of SQL.
use Rattle.std.proofs.Common.{Bor, ◌≡◌, ℕ, ◌≢◌, List, subst}
use Rattle.std.specs.Prelude.{IsUtf8}
use Rattle.squawk_keywords.specs.KeywordAnswers.{contextual_keyword_of}
use Rattle.squawk_keywords.specs.declared.keywords.Keywords.{Keywords}
use Rattle.squawk_parser.specs.declared.parser.parse_error.ParseError.{ParseError}
use Rattle.squawk_parser.specs.declared.parser.parse_error.ParseError.TheVariants as parse
use Rattle.squawk_table.specs.RawTable.{Table as RawTable}
use Rattle.squawk_output.specs.Steps.{Step}
use Rattle.rule_grammar.specs.declared.rules.RuleGrammar.{RuleGrammar}
use Rattle.sql_grammar.specs.Parses.{IsRefusedParse}
use Rattle.sql_grammar.specs.StrayStrings.{stray_strings}
use Rattle.sql_grammar.specs.declared.Detail.{Detail}
use Rattle.sql_grammar.specs.declared.Detail.TheVariants.{Nodes}
use Rattle.sql_lexer.specs.Scripts.{script_tokens}
use Rattle.sql_lexer.specs.Tokens as lexer_rules
use Rattle.sql_lexer.specs.declared.tokenizer.TokenizeError.{TokenizeError}
use Rattle.sql_lexer.specs.declared.tokenizer.TokenizeError.TheVariants as lexer
use Rattle.caliperdock_c.specs.Answers.{refusal_of_lexer, refusal_of_parse}
use Rattle.caliperdock_c.specs.Refusals.{RefusesText}
use Rattle.caliperdock_c.specs.Sql.{AreByRules, AreOfSql, HasSqlTable, IsRefusedSql, RefusesSql}
use Rattle.caliperdock_c.specs.declared.answer.Refusal.{Refusal}
use Rattle.caliperdock_c.specs.declared.answer.Refusal.TheVariants.{OutOfMemory, NotUtf8, UnknownToken, Table, TooManyEvents, UnknownEvent, BadLink, NoRoot, DoesNotFit, TooManyErrors}

pub of_bytes : (refused : List ℕ → ParseError → Type 0) (text : List ℕ) (reason : Refusal) → RefusesText text reason → RefusesSql refused text reason
of_bytes refused text (NotUtf8 at) r = r
of_bytes refused text OutOfMemory r = absurd r
of_bytes refused text (UnknownToken i) r = absurd r
of_bytes refused text (Table reason) r = absurd r
of_bytes refused text TooManyEvents r = absurd r
of_bytes refused text (UnknownEvent i) r = absurd r
of_bytes refused text (BadLink i) r = absurd r
of_bytes refused text NoRoot r = absurd r
of_bytes refused text DoesNotFit r = absurd r
of_bytes refused text TooManyErrors r = absurd r

pub of_lexer : (refused : List ℕ → ParseError → Type 0) (text : List ℕ) (reason : TokenizeError) → IsUtf8 text → lexer_rules.RefusesText text reason → RefusesSql refused text (refusal_of_lexer reason)
of_lexer refused text lexer.TextTooLong utf8 r = (utf8, r)
of_lexer refused text lexer.OutOfMemory utf8 r = utf8

pub of_parse : (detail : Detail) (text : List ℕ) (keywords : Keywords) (table : RawTable) (reason : ParseError) → HasSqlTable text keywords table
    → (reason ≢ parse.OutOfMemory → IsRefusedParse detail (contextual_keyword_of keywords) table reason) → RefusesSql (IsRefusedSql detail) text (refusal_of_parse reason)
of_parse detail text keywords table parse.OutOfMemory has r = has.utf8
of_parse detail text keywords table parse.TooManyEvents has r = record { keywords = keywords; table = table; of_text = has; refused = r (λ same. let p = same in cc) }
of_parse detail text keywords table parse.TooManyErrors has r = record { keywords = keywords; table = table; of_text = has; refused = r (λ same. let p = same in cc) }

-- the steps of a parse by rules
pub steps_by_rules : {rules : Bor RuleGrammar} {text other : List ℕ} {table : RawTable} {walk : List Step} → rules.now.table.hidden.tokens.now ≡ stray_strings text (script_tokens text)
    → AreOfSql (Nodes rules) text table walk → text ≡ other → AreByRules other table walk
steps_by_rules {rules} {text} {table = table} {walk = walk} hides are same =
    subst (λ (text : List ℕ). AreByRules text table walk) same (rules, hides, are)
