use Rattle.std.proofs.Common.{◌∙◌, [], ◌∷◌, ◌++◌, append_assoc, arith}
use Rattle.std.proofs.lemmas.List.Sums.{sum_by-append}
use Rattle.std.proofs.lemmas.Result.{on_ok_weaker}
use Rattle.squawk_table.specs.SinkViews.{owned_step_of}
use Rattle.squawk_tree.specs.TreeText.{bytes_in}
use Rattle.sql_report.proofs.one_walk.Walk.step.Goals as goal

pub returns-clause-walks : goal.returns-clause-walks
returns-clause-walks c =
    on_ok_weaker c.step.result
    (λ draws given done walked.
    let step = owned_step_of c.args.step.now in
    record {
      drawing = c.step.ensures.asked ∙ walked.drawing;
      at = λ some. omega (arith, walked.at some, c.bytes_in.ensures, sum_by-append bytes_in done (step ∷ []));
      draws = λ rest. rw (c.step.ensures.same, c.bytes_in.ensures, append_assoc done (step ∷ []) rest) (draws given (done ++ step ∷ rest) rest (walked.draws (step ∷ rest)));
      names = c.step.ensures.same ∙ walked.names;
    })
    c.step.ensures.draws
