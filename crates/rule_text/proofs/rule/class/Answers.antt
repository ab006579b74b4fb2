use Rattle.rule_parts.specs.declared.Part.TheVariants as parts
use Rattle.rule_text.specs.Rules.{Definition as definitions}
use Rattle.rule_text.proofs.Definitions.{headed, miss_members}
use Rattle.rule_text.proofs.Decisions.{decides_by, exits_as, missed_from}
use Rattle.rule_text.proofs.rule.class.Goals as goal

pub returns : goal.returns
returns c =
    decides_by c.wrap.result c.wrap.ensures.wraps c.wrap.ensures.only
    (λ w. headed (λ n. parts.Set c.in_ok-name.name n) c.in_ok-name.ensures.read c.in_ok-members.ensures.reads c.len-start.ensures c.size_from-size.ensures w
    (λ ps h v. definitions.class_of h v))

pub returns-in_err-members : goal.returns-in_err-members
returns-in_err-members c =
    let h = c.in_ok-name.ensures.read in
    exits_as c.in_err-members.ensures c.from_residual-in_err-members.ensures (λ m. miss_members h.given (missed_from h.words m))
