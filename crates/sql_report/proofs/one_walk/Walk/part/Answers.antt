use Rattle.std.proofs.Common.{◌∙◌, ◌+◌, ◌++◌, [], ◌∷◌, arith, length, refl}
use Rattle.std.proofs.lemmas.Result.{on_ok_weaker}
use Rattle.squawk_table.specs.declared.shortcuts.str_step.OwnedStep.TheVariants.{Enter, Exit}
use Rattle.sql_report.proofs.HeldSteps.{rest_below, rest_bytes, rest_is, walked_at}
use Rattle.sql_report.proofs.one_walk.Walk.part.Goals as goal

pub inside-requires : goal.inside-requires
inside-requires c =
    let all = c.steps_of-steps.result.steps in
    let rest = c.next.new.self.steps in
    let n = length c.args.table.now.text in
    let short = c.requires.short in
    let few = rest_bytes c.next.result all rest c.next.ensures.steps.0 in
    record {
      short = omega (arith, short, few, c.steps_of-steps.ensures.within);
      at = refl;
      within = (
        n + 1,
        omega (arith, short),
        rest_below c.next.result all rest c.next.ensures.steps.0 (n + 1) c.steps_of-steps.ensures.placed,
      );
    }

pub returns : goal.returns
returns c =
    let walk = c.args.self.now in
    let all = c.steps_of-steps.result.steps in
    let rest = c.next.new.self.steps in
    record {
      same = on_ok_weaker c.inside.result (λ same. record { asked = same.asked; names = same.names; kind_names = same.kind_names }) c.inside.ensures.same;
      walks = on_ok_weaker c.inside.result
          (λ walks given done inner kind sent bytes walked.
          walks given done inner Exit (rest_is c.next.result all rest c.next.ensures.steps.0 (Enter kind) (inner ++ Exit ∷ []) (c.steps_of-steps.ensures.steps ∙ sent))
          (walked_at given walk done c.args.start c.in_default.not-Nothing bytes walked))
          c.inside.ensures.walks;
    }
