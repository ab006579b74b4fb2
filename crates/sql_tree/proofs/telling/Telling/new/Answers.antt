use Rattle.std.proofs.Common.{[], refl}
use Rattle.sql_tree.proofs.Lists.{nothing_listed}
use Rattle.sql_tree.proofs.telling.Telling.new.Goals as goal

pub returns-clause-begins : goal.returns-clause-begins
returns-clause-begins c = λ script.
    let shown = c.new.ensures.none script in
    record {
      shown = record { findings = shown.findings; in_order = shown.in_order; lines = shown.lines; count = shown.count };
      none = c.new.ensures.empty;
      listed = record {
        drawn = [];
        walked = c.in_ok-new.ensures.begins;
        ended = [];
        counted = λ some. ((λ rest. refl), refl);
        out_is = nothing_listed c.args.listing script c.new-2.result.names;
      };
    }
