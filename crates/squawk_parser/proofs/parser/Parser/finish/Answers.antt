use Rattle.std.proofs.Common.{◌≤◌, arith, length}
use Rattle.squawk_output.specs.Draft.{plain}
use Rattle.squawk_parser.proofs.RecordedItems.{length-plain}
use Rattle.squawk_parser.proofs.parser.Parser.finish.Goals as goal

pub returns-clause-few : goal.returns-clause-few
returns-clause-few c =
    let d = c.self.inside.log in
    let few : length (plain d.items) ≤ d.recorded = omega (arith, length-plain d.items, c.self.invariant.logged.few) in
    rw c.in_ok-finish.ensures.output few
