-- What a grammar that always leaves one node over all of an input gives: a parse that stands in one root and has all tokens.
use Rattle.std.proofs.Common.{◌≡◌, true, List, length, arith, ap, sym, refl, subst}
use Rattle.squawk_kinds.specs.Keywords.{Keywords}
use Rattle.squawk_output.specs.Draft.{Draft}
use Rattle.squawk_output.specs.OneRoot.{StandsInOneRoot}
use Rattle.squawk_output.specs.Steps.{Walk, eaten, without_errors}
use Rattle.squawk_table.specs.ParserInput.{Entry, HasNoEndToken, input_of}
use Rattle.squawk_table.specs.RawTable.{Table, raw_tokens}
use Rattle.squawk_table.specs.Sent.{StopsWithin, sent_list}
use Rattle.squawk_table.specs.Shape.{no_keywords}
use Rattle.squawk_table.specs.declared.shortcuts.str_step.OwnedStep.{OwnedStep}
use Rattle.squawk_table.proofs.Over.{eaten-le}
use Rattle.squawk_table.proofs.OverTable.{length-keywords}
use Rattle.squawk_parser.specs.Parse.{IsParse}
use Rattle.squawk_parser.specs.Pipeline.{Given, IsParsed, IsParsedInto, IsSent, IsStopped, table_for}
use Rattle.squawk_parser.specs.Whole.{IsWholeFile}
use Rattle.squawk_parser.specs.declared.pipeline.Sent.{Sent}

module _ {leaves : Draft → Type 0} {input : List Entry} {output : Walk} (table : Table) (k : Keywords) (is : input ≡ input_of k table)
    (parse : IsParse leaves input output) (law : (draft : Draft) → HasNoEndToken input → leaves draft → IsWholeFile input draft) where
  whole : IsWholeFile input parse.draft
  whole = law parse.draft parse.no_end parse.left

  pub whole_root : StandsInOneRoot (without_errors output.steps)
  whole_root = subst (λ steps. StandsInOneRoot (without_errors steps)) (sym parse.steps) whole.root

  pub whole_eaten : eaten output.steps ≡ length (input_of no_keywords table)
  whole_eaten =
      let all = whole.all in
      omega (arith, all, ap eaten parse.steps, eaten-le output.steps input parse.over, ap length is, length-keywords k no_keywords (raw_tokens table))

-- ---- one call for the whole

module _ {g : Given} {leaves : List Entry → Draft → Type 0} {output : Walk} (parsed : IsParsed g leaves output)
    (law : (input : List Entry) (draft : Draft) → HasNoEndToken input → leaves input draft → IsWholeFile input draft) where
  pub parsed_root : StandsInOneRoot (without_errors output.steps)
  parsed_root = whole_root (table_for g) g.contextual refl parsed.parse (law _)

  module _ {table : Table} (is : table ≡ table_for g) {before after : List OwnedStep → Type 0} where
    pub parsed_into : {sent : Sent} → IsSent table output before after sent → IsParsedInto g leaves before after sent
    parsed_into {sent} sending = record {
      output = output;
      parsed = parsed;
      root = parsed_root;
      sending = subst (λ table. IsSent table output before after sent) is sending;
      few = omega (arith, sending.recorded, sending.turns, parsed.parse.bound);
    }

    pub all_sent : {sent : Sent} → IsSent table output before after sent → sent.all ≡ true
    all_sent {sent} sending = sending.eaten_all.1 (subst (λ table. eaten output.steps ≡ length (input_of no_keywords table)) (sym is) (whole_eaten (table_for g) g.contextual refl parsed.parse (law _)))

    pub stopped : {R : Type 0} {refuses : List OwnedStep → OwnedStep → R → Type 0} {answer : R}
        → ((l : List OwnedStep) → before l → StopsWithin after refuses l (sent_list table output.steps) answer) → IsStopped g leaves before after refuses answer
    stopped {R} {refuses} {answer} stops = record {
      output = output;
      parsed = parsed;
      root = parsed_root;
      stops = subst (λ table. (l : List OwnedStep) → before l → StopsWithin after refuses l (sent_list table output.steps) answer) is stops;
    }
