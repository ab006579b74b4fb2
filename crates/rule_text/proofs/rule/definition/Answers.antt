use Rattle.std.proofs.Common.{sym, ◌∙◌}
use Rattle.rule_text.proofs.Definitions.{first_decided, no_definition}
use Rattle.rule_text.proofs.Decisions.{refused}
use Rattle.rule_text.proofs.rule.definition.Goals as goal

pub returns-in-ClassOf : goal.returns-in-ClassOf
returns-in-ClassOf c = first_decided (sym c.sort.ensures ∙ c.in-ClassOf.is) c.class.ensures

pub returns-in-WordsOf : goal.returns-in-WordsOf
returns-in-WordsOf c = first_decided (sym c.sort.ensures ∙ c.in-WordsOf.is) c.words.ensures

pub returns-in-GuardOf : goal.returns-in-GuardOf
returns-in-GuardOf c = first_decided (sym c.sort.ensures ∙ c.in-GuardOf.is) c.guard.ensures

pub returns-in-Rule : goal.returns-in-Rule
returns-in-Rule c = first_decided (sym c.sort.ensures ∙ c.in-Rule.is) c.rule.ensures

pub returns-in_default : goal.returns-in_default
returns-in_default c =
    let n = c.in_default in
    refused (record {
      no = λ k ps v. no_definition (λ e. n.not-ClassOf (c.sort.ensures ∙ e)) (λ e. n.not-WordsOf (c.sort.ensures ∙ e))
          (λ e. n.not-GuardOf (c.sort.ensures ∙ e)) (λ e. n.not-Rule (c.sort.ensures ∙ e)) v;
    })
