use Rattle.std.proofs.Common.{ap, refl}
use Rattle.rule_text.specs.Written.{is_end}
use Rattle.rule_text.specs.Written.Separated.{by_comma}
use Rattle.rule_text.proofs.Leaves.{gives_none, no_separator, separator_read}
use Rattle.rule_text.proofs.Decisions.{if_ok, on_err}
use Rattle.rule_text.proofs.Reading.{over_one, sort_not_from}
use Rattle.rule_text.proofs.expression.separator.Goals as goal

pub returns-then-not-is_at-clause-read : goal.returns-then-not-is_at-clause-read
returns-then-not-is_at-clause-read c =
    gives_none c.args.reader.now (by_comma (c.is_at.ensures.is_not c.if-not-is_at.true) (record { text = refl; at = refl }))

pub returns-clause-read : goal.returns-clause-read
returns-clause-read c =
    let is = c.is_at.ensures.is c.if-not-is_at.false in
    if_ok c.expect.result (λ name t. separator_read is (c.bump.ensures (ap is_end is)) t) (c.expect.ensures.takes refl)

pub returns-clause-missed : goal.returns-clause-missed
returns-clause-missed c =
    let there = c.is_at.ensures.is c.if-not-is_at.false in
    on_err c.expect.result (λ n. no_separator there (sort_not_from (over_one (c.bump.ensures (ap is_end there))) n)) c.expect.ensures.misses
