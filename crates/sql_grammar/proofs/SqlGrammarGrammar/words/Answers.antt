use Rattle.std.proofs.Common.{refl}
use Rattle.squawk_kinds.specs.Kinds.{EOF}
use Rattle.squawk_kinds.proofs.ConstantSets.{has-words_of}
use Rattle.sql_grammar.specs.Kinds.{operator_kinds}
use Rattle.sql_grammar.proofs.SqlGrammarGrammar.words.Goals as goal

pub returns-clause-operators : goal.returns-clause-operators
returns-clause-operators c = has-words_of operator_kinds refl EOF
