use Rattle.std.proofs.Common.{subst}
use Rattle.std.specs.Str.{chars}
use Rattle.squawk_kinds.specs.TokenSets.{has, no_kinds}
use Rattle.squawk_kinds.proofs.TokenSetLemmas.{has-no_kinds}
use Rattle.squawk_parser.specs.Eaten.{no_recovery}
use Rattle.squawk_parser.specs.Recorded.{Puts}
use Rattle.squawk_parser.specs.State.{ahead}
use Rattle.squawk_parser.proofs.Recovery.{recovery-same}
use Rattle.squawk_parser.proofs.SomeSteps.{puts_some}
use Rattle.squawk_parser.proofs.parser.Parser.err_and_bump.Goals as goal

pub returns-clause-puts : goal.returns-clause-puts
returns-clause-puts c =
    subst (λ steps. Puts steps c.args.self.now c.err_recover.new.self)
    (recovery-same (chars c.args.msg.now) (has no_kinds) no_recovery (ahead c.args.self.now 0) has-no_kinds) c.err_recover.ensures.puts

pub returns-clause-eats : goal.returns-clause-eats
returns-clause-eats c some = c.err_recover.ensures.eats (has-no_kinds _) some

pub returns-clause-some : goal.returns-clause-some
returns-clause-some c = puts_some (returns-clause-puts c)
