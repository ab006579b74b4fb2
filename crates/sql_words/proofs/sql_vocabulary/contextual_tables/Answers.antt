use Rattle.std.proofs.Common.{refl}
use Rattle.squawk_keywords.specs.TextKeys.{key_of, text_of}
use Rattle.squawk_keywords.proofs.ReadyLemmas.{are-ready}
use Rattle.sql_words.specs.SqlKinds.{contextual_kinds}
use Rattle.sql_words.proofs.sql_vocabulary.contextual_tables.Goals as goal

pub returns-clause-ready : goal.returns-clause-ready
unfolding contextual_kinds key_of text_of
returns-clause-ready c = are-ready _ contextual_kinds c.contextual_keywords.ensures refl
