use Rattle.std.proofs.Common.{refl, arith, get_or, ◌==◌}
use Rattle.std.proofs.lemmas.Bool.{agree_below_at}
use denote.Enum.Declared.{tag_of}
use Rattle.sql_lexer.specs.Bytes.{stands_alone}
use Rattle.sql_lexer.specs.contracts.bytes.Class.{the_type}
use Rattle.sql_lexer.specs.declared.bytes.Class.TheVariants.{Other}
use Rattle.sql_lexer.specs.declared.bytes.TheConstants.{CLASSES}
use Rattle.sql_lexer.proofs.bytes.stands_alone.Goals as goal

pub returns : goal.returns
returns c = agree_below_at (λ b. let tag = tag_of the_type (get_or CLASSES b Other) in tag == 2) stands_alone 256 c.args.b refl (omega arith)
