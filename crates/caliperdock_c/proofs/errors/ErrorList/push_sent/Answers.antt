use Rattle.std.proofs.Common.{◌∙◌, length, sym}
use Rattle.std.specs.List.{flat_map}
use Rattle.squawk_table.specs.Sent.{sent_list}
use Rattle.caliperdock_c.specs.Errors.{error_in}
use Rattle.caliperdock_c.proofs.ErrorLists.{no_numbers, no_texts}
use Rattle.caliperdock_c.proofs.SentNumbers.{sent_low, tells}
use Rattle.sql_report.proofs.SentErrors.{none_sent}
use Rattle.caliperdock_c.proofs.errors.ErrorList.push_sent.Goals as goal

pub push_steps-requires : goal.push_steps-requires
push_steps-requires c =
    let table = c.args.table.now in
    let steps = c.args.output.now.steps in
    rw c.str_steps.ensures.steps
    (sent_low table c.len-raw_count.ensures.table steps c.requires.fits c.str_steps.ensures.placed c.str_steps.ensures.beginning c.requires.short)

pub returns-then-error_count-eq0-clause-numbers : goal.returns-then-error_count-eq0-clause-numbers
returns-then-error_count-eq0-clause-numbers c =
    no_numbers c.args.self.now.numbers.items (length c.args.self.now.texts.items) (flat_map error_in (sent_list c.args.table.now c.args.output.now.steps))
    (none_sent error_in tells c.args.table.now c.len-raw_count.ensures.table c.args.output.now.steps c.requires.fits (sym c.error_count.ensures ∙ c.if-error_count-eq0.true))

pub returns-then-error_count-eq0-clause-texts : goal.returns-then-error_count-eq0-clause-texts
returns-then-error_count-eq0-clause-texts c =
    no_texts c.args.self.now.texts.items (flat_map error_in (sent_list c.args.table.now c.args.output.now.steps))
    (none_sent error_in tells c.args.table.now c.len-raw_count.ensures.table c.args.output.now.steps c.requires.fits (sym c.error_count.ensures ∙ c.if-error_count-eq0.true))

pub returns-clause-numbers : goal.returns-clause-numbers
returns-clause-numbers c = rw (sym c.str_steps.ensures.steps) c.push_steps.ensures.numbers

pub returns-clause-texts : goal.returns-clause-texts
returns-clause-texts c = rw (sym c.str_steps.ensures.steps) c.push_steps.ensures.texts
