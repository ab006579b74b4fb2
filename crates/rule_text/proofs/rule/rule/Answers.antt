use Rattle.std.proofs.Common.{ap, refl}
use Rattle.rule_parts.specs.declared.Part.TheVariants as parts
use Rattle.rule_text.specs.declared.word.Sort.TheVariants as sorts
use Rattle.rule_text.specs.Rules.{Definition as definitions}
use Rattle.rule_text.specs.Written.{is_end}
use Rattle.rule_text.proofs.Definitions.{headed, miss_body, miss_rule_equals, rule_head_read}
use Rattle.rule_text.proofs.Decisions.{decides_by, exits, exits_as, missed_from}
use Rattle.rule_text.proofs.rule.rule.Goals as goal

pub returns : goal.returns
returns c =
    let h = rule_head_read (c.name-name.ensures sorts.Rule c.requires refl) (c.bump.ensures (ap is_end c.requires)) c.message-message.ensures
    (c.in_ok-expect.ensures.takes refl) in
    decides_by c.wrap.result c.wrap.ensures.wraps c.wrap.ensures.only
    (λ w. headed (λ n. parts.Rule c.name-name.result c.message-message.result n) h c.in_ok-body.ensures.reads c.len-start.ensures c.size_from-size.ensures w
    (λ ps g v. definitions.rule g v))

pub returns-in_err-expect : goal.returns-in_err-expect
returns-in_err-expect c =
    exits c.from_residual.ensures.0
    (miss_rule_equals (c.bump.ensures (ap is_end c.requires)) c.message-message.ensures c.in_err-expect.ensures.misses)

pub returns-in_err-body : goal.returns-in_err-body
returns-in_err-body c =
    let h = rule_head_read (c.name-name.ensures sorts.Rule c.requires refl) (c.bump.ensures (ap is_end c.requires)) c.message-message.ensures
    (c.in_ok-expect.ensures.takes refl) in
    exits_as c.in_err-body.ensures c.from_residual-in_err-body.ensures (λ m. miss_body h.given (missed_from h.words m))
