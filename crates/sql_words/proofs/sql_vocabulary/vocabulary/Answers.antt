use Rattle.squawk_keywords.specs.KeywordPairs.{pairs_of}
use Rattle.sql_words.proofs.VocabularyLemmas.{knows}
use Rattle.sql_words.proofs.sql_vocabulary.vocabulary.Goals as goal

pub returns : goal.returns
returns c =
    knows (pairs_of c.keyword_tables.result.words.now) (pairs_of c.contextual_tables.result.words.now) c.in_ok-keywords.keywords c.with_classes.result c.classes.result
    c.keyword_tables.ensures.pairs c.contextual_tables.ensures.pairs c.in_ok-keywords.ensures c.with_classes.ensures c.classes.ensures
