use Rattle.std.proofs.Common.{◌∙◌, refl}
use Rattle.squawk_kinds.proofs.ConstantSets.{has-words_of}
use Rattle.sql_words.specs.SqlKinds.{table}
use Rattle.sql_words.specs.SqlVocabulary.{operators, punctuation}
use Rattle.sql_words.specs.declared.category.Category.TheVariants.{ColName, Reserved, TypeFuncName}
use Rattle.sql_words.proofs.VocabularyLemmas.{any-in, kinds_in}
use Rattle.sql_words.proofs.sql_vocabulary.classes.Goals as goal

pub returns : goal.returns
unfolding table
returns c = record {
  operators = has-words_of operators refl;
  punctuation = has-words_of punctuation refl;
  reserved_keywords = λ kind. has-words_of (kinds_in Reserved table) refl kind ∙ any-in Reserved table kind;
  col_name_keyword_first = λ kind. has-words_of (kinds_in ColName table) refl kind ∙ any-in ColName table kind;
  type_func_name_keywords = λ kind. has-words_of (kinds_in TypeFuncName table) refl kind ∙ any-in TypeFuncName table kind;
}
