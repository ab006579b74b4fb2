use Rattle.std.proofs.Common.{refl}
use Rattle.sql_words.specs.SqlKinds.{node_names}
use Rattle.sql_words.proofs.kind_names.nodes.Goals as goal

pub returns : goal.returns
unfolding node_names
returns c = refl
