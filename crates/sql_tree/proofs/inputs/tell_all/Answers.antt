use Rattle.std.proofs.lemmas.List.{length-map}
use Rattle.sql_tree.proofs.inputs.tell_all.Goals as goal

pub returns-clause-told : goal.returns-clause-told
returns-clause-told g c = record {
  totals = c.in_ok-totals.totals;
  before_last = g.E.Write.contents c.tell_texts.new.printer.errors;
  texts = rw (c.print_last.ensures.out, length-map) c.in_ok-totals.ensures.told;
  last = c.in_ok-print_last.ensures.ok;
  status_is = c.status.ensures;
}
