use Rattle.std.proofs.Common.{◌≡◌, ◌∙◌, length, arith, ap}
use Rattle.std.proofs.lemmas.Bool.{eqb-true, eq-eqb}
use Rattle.squawk_table.specs.Sending.{end_from}
use Rattle.squawk_table.specs.Sent.{errors_moved}
use Rattle.squawk_table.proofs.AllSent.{all_eaten, end_if_eaten, beginning, whole_text, end_if_whole}
use Rattle.squawk_table.proofs.ErrorsMoved.{length-moved}
use Rattle.squawk_table.proofs.NextStep.{end_within}
use Rattle.squawk_table.proofs.SentFrom.{sends_all, sent_from-sent_list}
use Rattle.squawk_table.proofs.lexed_str.LexedStr.str_steps.Goals as goal
use Rattle.squawk_table.proofs.lexed_str.LexedStr.str_steps.Goals.{After-len}

-- the walk is that of the output, its errors moved
moved : (c : After-len) → c.new.result ≡ errors_moved c.args.output.now.steps
moved c = c.new.ensures ∙ ap errors_moved c.iter.ensures.steps

pub invariant_of-result : goal.invariant_of-result
invariant_of-result c =
    let t = c.args.self.now in
    let steps = c.args.output.now.steps in
    rw (moved (goal.at.invariant_of-result c).After-len) (
      c.len.ensures.len,
      record {
        within = omega arith;
        tokens = (sends_all t c.len.ensures.table steps c.requires).tokens;
        few = omega arith;
        low = omega (arith, length-moved steps, c.iter.ensures.few);
      },
    )

pub returns-clause-steps : goal.returns-clause-steps
returns-clause-steps c =
    rw (moved (goal.at.returns-clause-steps c).After-len) (sent_from-sent_list c.args.self.now c.len.ensures.table c.args.output.now.steps c.requires)

pub returns-clause-left : goal.returns-clause-left
returns-clause-left c =
    rw (moved (goal.at.returns-clause-left c).After-len) (length-moved c.args.output.now.steps, omega arith)

-- ---- at the end

pub returns-clause-all : goal.returns-clause-all
returns-clause-all c =
    let t = c.args.self.now in
    let steps = c.args.output.now.steps in
    let table = c.len.ensures.table in
    let all = sends_all t table steps c.requires in
    let end = end_from t 0 0 (errors_moved steps) in
    let within = end_within t 0 0 (errors_moved steps) all.tokens in
    rw (moved (goal.at.returns-clause-all c).After-len) (
      λ e. all_eaten t table steps c.requires end within all.raw_left (eqb-true end (length t.kinds) e),
      λ e. eq-eqb end (length t.kinds) (end_if_eaten t table steps c.requires end within all.raw_left e),
    )

pub returns-clause-whole : goal.returns-clause-whole
returns-clause-whole c =
    let t = c.args.self.now in
    let steps = c.args.output.now.steps in
    let table = c.len.ensures.table in
    let all = sends_all t table steps c.requires in
    let end = end_from t 0 0 (errors_moved steps) in
    let within = end_within t 0 0 (errors_moved steps) all.tokens in
    rw (moved (goal.at.returns-clause-whole c).After-len) (
      λ e. whole_text t table steps c.requires end within all.raw_left (eqb-true end (length t.kinds) e),
      λ e. eq-eqb end (length t.kinds) (end_if_whole t table steps c.requires end within all.raw_left e),
    )

pub returns-clause-beginning : goal.returns-clause-beginning
returns-clause-beginning c =
    let t = c.args.self.now in
    let steps = c.args.output.now.steps in
    let all = sends_all t c.len.ensures.table steps c.requires in
    beginning t c.len.ensures.table steps c.requires (end_from t 0 0 (errors_moved steps)) (end_within t 0 0 (errors_moved steps) all.tokens) all.raw_left
