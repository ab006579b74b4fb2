-- Why texts are refused.
use Rattle.std.proofs.Common.{◌≡◌, ◌≢◌, ◌∙◌, ℕ, Bool, true, false, List, [], ◌++◌, drop, take, append_assoc, arith, ap, sym, subst, length-append, take-append-drop}
use Rattle.std.proofs.lemmas.Bool.{false≢true}
use Rattle.squawk_keywords.specs.declared.keywords.Keywords.{Keywords}
use Rattle.squawk_parser.specs.declared.parser.parse_error.ParseError.{ParseError}
use Rattle.squawk_parser.specs.declared.parser.parse_error.ParseError.TheVariants as parse
use Rattle.sql_lexer.specs.declared.script.script_place.ScriptPlace.{ScriptPlace}
use Rattle.sql_words.specs.SqlVocabulary.{KnowsKeywords}
use Rattle.sql_grammar.specs.ReadParts.{IsRefusedPart}
use Rattle.sql_document.specs.EditErrors.{RefusesText, error_of_parse}
use Rattle.sql_document.specs.Pieces.{text_of}
use Rattle.sql_document.specs.Recuts.{Grows}
use Rattle.sql_document.specs.declared.edit_error.EditError.{EditError}
use Rattle.sql_document.specs.declared.edit_error.EditError.TheVariants.{NoRange, OutOfMemory, Parse, TextTooLong}
use Rattle.sql_document.specs.declared.piece.Piece.{Piece}

-- a text that stands in another one
pub refused_in : (before text after : List ℕ) (error : EditError) → RefusesText text error → RefusesText (before ++ (text ++ after)) error
refused_in before text after NoRange why = why
refused_in before text after TextTooLong long = omega (arith, long, length-append before (text ++ after), length-append text after)
refused_in before text after OutOfMemory why = why
refused_in before text after (Parse reason) why = record {
  vocabulary = why.vocabulary;
  knows = why.knows;
  before = before ++ why.before;
  part = why.part;
  after = why.after ++ after;
  are = ap (λ xs. before ++ (xs ++ after)) why.are
      ∙ (ap (λ xs. before ++ xs) (append_assoc why.before (why.part ++ why.after) after ∙ ap (λ xs. why.before ++ xs) (append_assoc why.part why.after after))
      ∙ sym (append_assoc before why.before (why.part ++ (why.after ++ after))));
  place = why.place;
  refused = why.refused;
}

-- a text from a byte on, with what stands after it
pub refused_after : (text rest : List ℕ) (at : ℕ) (error : EditError) → RefusesText (drop at text) error → RefusesText (text ++ rest) error
refused_after text rest at error why =
    subst (λ text. RefusesText text error) (sym (append_assoc (take at text) (drop at text) rest) ∙ ap (λ xs. xs ++ rest) (take-append-drop at text)) (refused_in (take at text) (drop at text) rest error why)

-- a text to which old pieces are added
pub refused_grown : {Kept : Type 0} (old : List (Piece Kept)) (text now : List ℕ) (from last : ℕ) (error : EditError) → Grows old text now from last → RefusesText (now ++ text_of (drop last old)) error
    → RefusesText (text ++ text_of (drop from old)) error
refused_grown old text now from last error grows why =
    subst (λ text. RefusesText text error)
    (ap (λ xs. xs ++ text_of (drop last old)) grows.text_is ∙ (append_assoc text grows.added (text_of (drop last old)) ∙ ap (λ xs. text ++ xs) (sym grows.tail_is))) why

abbrev is_memory : ParseError → Bool
is_memory parse.OutOfMemory = true
is_memory parse.TooManyEvents = false
is_memory parse.TooManyErrors = false

-- what is read of a text stands at its front
pub refused_by_parse : (vocabulary : Keywords) (text part rest : List ℕ) (place : ScriptPlace) (reason : ParseError) → KnowsKeywords vocabulary → text ≡ part ++ rest
    → (reason ≢ parse.OutOfMemory → IsRefusedPart vocabulary place part reason) → RefusesText text (error_of_parse reason)
refused_by_parse vocabulary text part rest place parse.OutOfMemory knows are refused = tt
refused_by_parse vocabulary text part rest place parse.TooManyEvents knows are refused =
    record { vocabulary = vocabulary; knows = knows; before = []; part = part; after = rest; are = are; place = place; refused = refused (λ e. false≢true (ap is_memory e)) }
refused_by_parse vocabulary text part rest place parse.TooManyErrors knows are refused =
    record { vocabulary = vocabulary; knows = knows; before = []; part = part; after = rest; are = are; place = place; refused = refused (λ e. false≢true (ap is_memory e)) }
