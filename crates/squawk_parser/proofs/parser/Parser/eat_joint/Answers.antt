use Rattle.std.proofs.Common.{subst, map}
use Rattle.squawk_parser.specs.Eaten.{node, one}
use Rattle.squawk_parser.specs.Recorded.{Puts}
use Rattle.squawk_parser.proofs.EatenParts.{touched-all, touched-next}
use Rattle.squawk_parser.proofs.Markers.{open_marker-put}
use Rattle.squawk_parser.proofs.RecordedSteps.{node_puts}
use Rattle.squawk_parser.proofs.parser.Parser.eat_joint.Goals as goal

pub loop-part-preserved : goal.loop-part-preserved
loop-part-preserved c =
    let l = c.loop-part in
    let bump = c.do_bump.ensures in
    touched-next c.as_slice-part-items.result.now l.part-index c.part-item.result c.start-node.new.self l.self c.loop-part-test.true c.part-item.is l.invariant
    c.do_bump.new.self bump.keeps bump.position bump.records

pub complete-requires-clause-open_marker : goal.complete-requires-clause-open_marker
complete-requires-clause-open_marker c =
    let l = c.loop-part in
    let start = c.start-node.ensures in
    open_marker-put c.start-node.result start.open_marker l.invariant.puts

pub returns : goal.returns
returns c =
    let l = c.loop-part in
    let start = c.start-node.ensures in
    let done = c.complete.ensures in
    let all = touched-all c.as_slice-part-items.result.now l.part-index c.start-node.new.self l.self c.loop-part-test.false l.invariant in
    subst (λ parts. Puts (node c.args.kind (map one parts)) c.args.self.now c.complete.new.p) c.as_slice-part-items.ensures
    (node_puts start.begins all done.completes)
