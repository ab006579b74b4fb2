use Rattle.std.proofs.Common.{refl}
use Rattle.sql_words.specs.SqlKinds.{contextual_kinds}
use Rattle.sql_words.proofs.contextual.contextual_keywords.Goals as goal

pub returns : goal.returns
unfolding contextual_kinds
returns c = refl
