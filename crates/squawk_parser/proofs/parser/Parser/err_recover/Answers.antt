use Rattle.std.proofs.Common.{subst, sym, ◌∙◌}
use Rattle.std.specs.Str.{chars}
use Rattle.squawk_kinds.specs.TokenSets.{has}
use Rattle.squawk_parser.specs.Recorded.{Puts}
use Rattle.squawk_parser.proofs.Markers.{open_marker-put}
use Rattle.squawk_parser.proofs.RecordedSteps.{puts-then}
use Rattle.squawk_parser.proofs.Recovery.{recovery-there, recovery_puts}
use Rattle.squawk_parser.proofs.SomeSteps.{puts_some}
use Rattle.squawk_parser.proofs.parser.Parser.err_recover.Goals as goal

pub returns-then-at_ts-clause-puts : goal.returns-then-at_ts-clause-puts
returns-then-at_ts-clause-puts c =
    let old = c.args.self.now in
    subst (λ steps. Puts steps old c.error.new.self)
    (sym (recovery-there (chars c.args.msg.now) (has c.args.recovery) old (sym c.at_ts.ensures ∙ c.if-at_ts.true))) c.error.ensures.puts

pub complete-requires-clause-open_marker : goal.complete-requires-clause-open_marker
complete-requires-clause-open_marker c = open_marker-put c.start-node.result c.start-node.ensures.open_marker (puts-then c.error-2.ensures.puts c.bump_any.ensures.puts)

pub returns-clause-puts : goal.returns-clause-puts
returns-clause-puts c =
    recovery_puts (chars c.args.msg.now) (has c.args.recovery) (sym c.at_ts.ensures ∙ c.if-at_ts.false) c.start-node.ensures.begins c.error-2.ensures.puts
    c.bump_any.ensures.puts c.complete.ensures.completes

pub returns-then-at_ts-clause-some : goal.returns-then-at_ts-clause-some
returns-then-at_ts-clause-some c = puts_some (returns-then-at_ts-clause-puts c)

pub returns-clause-some : goal.returns-clause-some
returns-clause-some c = puts_some (returns-clause-puts c)
