use Rattle.std.proofs.Common.{◌≡◌, ◌∙◌, ap, arith, length, slice_index}
use Rattle.squawk_table.specs.Sent.{sent_list}
use Rattle.sql_report.proofs.Bounds.{bytes_of-beginning, sent_within}
use Rattle.sql_report.proofs.statement_list.steps_of.Goals as goal

pub returns-clause-few : goal.returns-clause-few
returns-clause-few c =
    let table = c.args.table.now in
    let steps = sent_list table c.args.output.now.steps in
    let is_table = c.len.ensures.table in
    let few = bytes_of-beginning steps table.text is_table.utf8 c.str_steps.ensures.beginning in
    let end : c.text_start-text_len.result ≡ length table.text =
    c.text_start-text_len.ensures ∙ (ap (slice_index table.starts) c.len.ensures.len ∙ is_table.ends) in
    rw c.str_steps.ensures.steps (omega (arith, few, end))

pub returns-clause-within : goal.returns-clause-within
returns-clause-within c =
    let table = c.args.table.now in
    rw c.str_steps.ensures.steps (bytes_of-beginning (sent_list table c.args.output.now.steps) table.text c.len.ensures.table.utf8 c.str_steps.ensures.beginning)

pub returns-clause-placed : goal.returns-clause-placed
returns-clause-placed c = rw c.str_steps.ensures.steps (sent_within c.args.table.now c.len.ensures.table c.args.output.now.steps c.requires)
