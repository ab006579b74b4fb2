use Rattle.std.proofs.Common.{refl}
use Rattle.squawk_keywords.specs.TextKeys.{key_of, text_of}
use Rattle.squawk_keywords.proofs.ReadyLemmas.{are-ready}
use Rattle.sql_words.specs.SqlKinds.{keyword_kinds, table}
use Rattle.sql_words.proofs.sql_vocabulary.keyword_tables.Goals as goal

pub returns-clause-ready : goal.returns-clause-ready
unfolding table key_of text_of
returns-clause-ready c = are-ready _ keyword_kinds c.keyword_pairs.ensures refl
