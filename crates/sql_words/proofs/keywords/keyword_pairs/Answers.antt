use Rattle.std.proofs.Common.{refl}
use Rattle.sql_words.specs.SqlKinds.{table}
use Rattle.sql_words.proofs.keywords.keyword_pairs.Goals as goal

pub returns : goal.returns
unfolding table
returns c = refl
