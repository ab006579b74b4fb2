use Rattle.std.proofs.Common.{arith}
use Rattle.std.specs.List.{flat_map}
use Rattle.squawk_table.specs.Sent.{sent_list}
use Rattle.caliperdock_c.specs.Errors.{error_in}
use Rattle.caliperdock_c.proofs.ErrorLists.{both_numbers, first_count}
use Rattle.caliperdock_c.proofs.errors.ErrorList.new.Goals as goal

pub returns-clause-numbers : goal.returns-clause-numbers
returns-clause-numbers c =
    let sent = sent_list c.args.table.now c.args.output.now.steps in
    let first = c.push_sent.new.self in
    let lexical = c.args.table.now.errors in
    both_numbers c.new.result.items first.numbers.items c.push_lexical.new.self.numbers.items c.new-2.result.items first.texts.items
    (flat_map error_in sent) lexical c.new.ensures.items c.new-2.ensures.items c.in_ok-push_sent.ensures.numbers
    c.in_ok-push_sent.ensures.texts c.in_ok-push_lexical.ensures.numbers

pub returns-clause-of_steps : goal.returns-clause-of_steps
returns-clause-of_steps c =
    let first = c.push_sent.new.self in
    let xs = flat_map error_in (sent_list c.args.table.now c.args.output.now.steps) in
    let count =
    first_count c.new.result.items first.numbers.items c.push_lexical.new.self.numbers.items c.new-2.result.items first.texts.items xs c.args.table.now.errors
    c.new.ensures.items c.new-2.ensures.items c.in_ok-push_sent.ensures.numbers c.in_ok-push_sent.ensures.texts in
    omega (arith, c.in_ok-push_lexical.ensures.of_steps, c.len.ensures, count)
