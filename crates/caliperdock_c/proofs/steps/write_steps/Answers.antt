use Rattle.std.proofs.Common.{ap, arith, length}
use Rattle.caliperdock_c.proofs.SentNumbers.{sent_few, sent_numbers}
use Rattle.caliperdock_c.proofs.steps.write_steps.Goals as goal

pub write_front-written-requires : goal.write_front-written-requires
write_front-written-requires c =
    let sent = c.str_steps-steps.ensures in
    rw sent.steps
    (sent_numbers c.args.table.now c.len-raw_count.ensures.table c.args.output.now.steps c.requires.fits sent.placed sent.beginning c.requires.short
    c.requires.errors)

pub count_rest-count-requires : goal.count_rest-count-requires
count_rest-count-requires c =
    let sent = c.str_steps-steps.ensures in
    let few =
    sent_few c.args.table.now c.len-raw_count.ensures.table c.args.output.now.steps c.requires.fits sent.placed sent.beginning c.requires.short c.requires.few in
    omega (arith, few, ap length sent.steps, c.write_front-written.ensures.count)
