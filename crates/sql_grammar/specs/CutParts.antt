-- A part that is cut and parsed. Only private functions speak of it.
use Rattle.std.specs.Prelude.{◌≡◌, ◌<◌, ◌≤◌, ◌⊎◌, ℕ, ◌+◌, nat_le, Bool, true, false, Option, Some, None, List, [], ◌∷◌, ◌++◌, Vec, length, sum_by}
use Rattle.std.specs.declared.alloc.Global.{Global}
use Rattle.squawk_keywords.specs.KeywordAnswers.{contextual_keyword_of, keyword_of}
use Rattle.squawk_keywords.specs.declared.keywords.Keywords.{Keywords}
use Rattle.squawk_parser.specs.declared.parser.parse_error.ParseError.{ParseError}
use Rattle.squawk_table.specs.RawTable.{table_of}
use Rattle.squawk_tokens.specs.AcceptedTokens.{AreAcceptedTokens}
use Rattle.squawk_tokens.specs.declared.token.Token.{Token}
use Rattle.sql_lexer.specs.ScriptEnds.{statement_at, words_from}
use Rattle.sql_lexer.specs.Lines.{EndsLine}
use Rattle.sql_lexer.specs.ScriptLexing.{Lexing, after_statements, longer, tokens_left}
use Rattle.sql_lexer.specs.Statements.{after, ends_with, is_start}
use Rattle.sql_lexer.specs.declared.statements.Statement.{Statement}
use Rattle.sql_lexer.specs.declared.statements.Word.{Word}
use Rattle.sql_grammar.specs.Parses.{IsRefusedByRules}
use Rattle.sql_grammar.specs.ReadParts.{NoneEnds, NoneLeft, Reading, can_end_part}
use Rattle.sql_grammar.specs.declared.script_parts.Progress.{Progress}
use Rattle.sql_grammar.specs.declared.script_parts.Progress.TheVariants.{Front, Inside}

-- the last of these words ends a statement, where this one is begun before the first
abbrev pub LastEnds : Statement → List Word → Type 0
LastEnds statement [] = ⊥
LastEnds statement (word ∷ []) = ends_with statement word ≡ true
LastEnds statement (word ∷ next ∷ words) = LastEnds (after statement word) (next ∷ words)

-- The tokens of so many statements are cut. Where the text goes on after one or more, a statement ends with the last of them,
-- and another begins.
pub record CutsStatements (count : ℕ) (old new : Lexing) (cut : List Token) : Type 0 where
  pub after : new ≡ after_statements count old
  pub left : tokens_left old ≡ cut ++ tokens_left new
  pub at : new.at ≡ old.at + sum_by (λ (t : Token). t.len) cut
  pub none : count ≡ 0 → cut ≡ []
  pub goes_on : 0 < count → old.at < length old.text → old.at < new.at
  pub begins : 0 < count → new.at < length old.text → is_start (statement_at new.place) ≡ true
  pub ends : 0 < count → new.at < length old.text → LastEnds (statement_at old.place) (words_from old.text old.at cut)

-- the same of one or more, or of all that is left
pub record CutsPart (old new : Lexing) (cut : List Token) : Type 0 where
  pub count : ℕ
  pub some : old.at < length old.text → 0 < count
  pub cuts : CutsStatements count old new cut

-- The same whatever texts follow, where there may be some. So many bytes are cut, or there is no other part.
pub record CutsInScript (least : ℕ) (is_last : Bool) (old new : Lexing) (cut : List Token) : Type 0 where
  pub text : new.text ≡ old.text
  pub part : CutsPart old new cut
  pub ends : is_last ≡ false → can_end_part new ≡ true
  pub longer : is_last ≡ false → EndsLine old.text → (rest : List ℕ) → tokens_left (longer rest old) ≡ cut ++ tokens_left (longer rest new)
  pub full : (old.at + least ≤ new.at) ⊎ NoneLeft is_last new

-- some statements are cut, or none before other texts
abbrev pub CutsInText : ℕ → Bool → Lexing → Option (Lexing × Vec Token Global) → Type 0
CutsInText least is_last old (Some found) = CutsInScript least is_last old found.0 found.1.items
CutsInText least is_last old None = (is_last ≡ false) × NoneEnds old

-- all is read
abbrev pub is_over_at : Progress → Lexing → Bool
is_over_at Front lexer = false
is_over_at Inside lexer = nat_le (length lexer.text) lexer.at

abbrev pub is_over : Reading → Bool
is_over r = is_over_at r.progress r.lexer

-- the parse of such a text of accepted tokens is refused
abbrev pub RefusesTokens : Keywords → List ℕ → List Token → ParseError → Type 0
RefusesTokens vocabulary text tokens reason = AreAcceptedTokens text tokens × IsRefusedByRules (contextual_keyword_of vocabulary) (table_of (keyword_of vocabulary) text tokens) reason
