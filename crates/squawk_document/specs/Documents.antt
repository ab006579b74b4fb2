-- The content of a document.
use Rattle.std.specs.Prelude.{ℕ, List, map, Result, Ok}
use Rattle.serde_json.specs.Data.{Data}
use Rattle.squawk_parser.specs.Words.{Words}
use Rattle.squawk_tokens.specs.declared.token.Token.{Token}
use Rattle.squawk_document.specs.declared.document.Document.{Document}
use Rattle.squawk_document.specs.declared.document_error.DocumentError.{DocumentError}
use Rattle.squawk_document.specs.DocumentGrammars.{GrammarContent, grammar_in, grammar_content}
use Rattle.squawk_document.specs.DocumentParts.{members_in}
use Rattle.squawk_document.specs.GrammarWords.{names_in, word_members_in}
use Rattle.squawk_document.specs.KindSets.{set_in}
use Rattle.squawk_document.specs.TokenShapes.{tokens_in}
use Rattle.squawk_document.specs.Values.{◌>>=◌, string_in}
use Rattle.squawk_document.specs.KeywordPairs.{VocabularyAnswers, answered, vocabulary_in}
use Rattle.squawk_document.specs.KeywordAnswers.{answers}

-- a text, its raw tokens, the grammar's words, the answers of the vocabulary, and the grammar
pub record Content : Type 0 where
  pub text : List ℕ
  pub tokens : List Token
  pub words : Words
  pub vocabulary : VocabularyAnswers
  pub grammar : GrammarContent

-- the kinds that operators are made of, and the names of kinds
abbrev pub words_in : Data → Result Words DocumentError
words_in d = word_members_in d
    >>= λ members. set_in 1 members.operator_first
    >>= λ operator_first. names_in members.names
    >>= λ names. Ok (record { operator_first = operator_first; names = names })

-- the content of an object with the six members
abbrev pub document_in : Data → Result Content DocumentError
document_in d = members_in d
    >>= λ members. string_in members.text
    >>= λ text. tokens_in members.tokens
    >>= λ tokens. words_in members.words
    >>= λ words. answered (vocabulary_in members.vocabulary)
    >>= λ vocabulary. grammar_in members.entry members.calls
    >>= λ grammar. Ok (record { text = text; tokens = tokens; words = words; vocabulary = vocabulary; grammar = grammar })

-- the content of a document that was read
abbrev pub content_of : Document → Content
content_of d = record {
  text = d.text.now;
  tokens = d.tokens.items;
  words = record { operator_first = d.operator_first; names = map (λ pair. (pair.0, pair.1.now)) d.names.items };
  vocabulary = answers d.vocabulary;
  grammar = grammar_content d.grammar;
}
