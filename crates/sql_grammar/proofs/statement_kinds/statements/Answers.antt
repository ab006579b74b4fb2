use Rattle.std.proofs.Common.{refl}
use Rattle.sql_words.specs.SqlKinds as kinds
use Rattle.sql_words.specs.SqlKinds.{node_names}
use Rattle.sql_grammar.specs.StatementKinds.{statement_kinds}
use Rattle.sql_grammar.proofs.statement_kinds.statements.Goals as goal

pub returns : goal.returns
unfolding statement_kinds kinds.table node_names
returns c = refl
