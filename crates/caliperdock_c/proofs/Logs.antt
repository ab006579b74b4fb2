-- How many steps a log gives.
use Rattle.std.proofs.Common.{◌≡◌, ◌≤◌, Some, ap, arith, length, List, map}
use Rattle.std.proofs.lemmas.List.{length-map}
use Rattle.std.proofs.lemmas.List.Sums.{count_by-le-length}
use Rattle.squawk_output.specs.EventLog.{LinksLead, Log, list_of}
use Rattle.squawk_output.specs.Steps.{Step, errors_in, is_error}
use Rattle.squawk_table.specs.RawTable.{Table as RawTable}
use Rattle.caliperdock_c.specs.Events.{event_of}
use Rattle.caliperdock_c.specs.Refusals.{Given, HasSteps, HasTable}
use Rattle.squawk_output.proofs.ListLength.{length-list_of}

pub few_steps : (log : Log) (steps : List Step) → steps ≡ list_of log → length log ≤ 2147483648 → length steps ≤ 2147483648
few_steps log steps are few = omega (arith, ap length are, length-list_of log)

pub few_errors : (log : Log) (steps : List Step) → steps ≡ list_of log → length log ≤ 2147483648 → errors_in steps ≤ 2147483648
few_errors log steps are few = omega (arith, few_steps log steps are few, count_by-le-length is_error steps)

-- a log that is read gives the steps of a call
pub has_steps : (g : Given) (table : RawTable) (log : Log) (steps : List Step) → HasTable g.text g.tokens table → length log ≤ 2147483648
    → map Some log ≡ map (event_of g.messages) g.events → LinksLead log → steps ≡ list_of log → HasSteps g table steps
has_steps g table log steps of_text few log_is links are = record {
  log = log;
  of_log = record {
    of_text = of_text;
    few = omega (arith, few, ap length log_is, length-map log Some, length-map g.events (event_of g.messages));
    log_is = log_is;
  };
  links = links;
  are = are;
}
