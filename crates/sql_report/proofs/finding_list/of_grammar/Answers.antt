use Rattle.std.proofs.Common.{ℕ, List, None, ap, sym}
use Rattle.std.proofs.lemmas.Str.{encodes-chars}
use Rattle.sql_report.specs.Findings.{Told}
use Rattle.sql_report.proofs.finding_list.of_grammar.Goals as goal

abbrev plain_error : ℕ → List ℕ → Told
plain_error at message = record { at = at; message = message; hint = None }

pub returns : goal.returns
returns c = ap (plain_error c.args.at) (sym (encodes-chars c.args.message.now c.utf8.message))
