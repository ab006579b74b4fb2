use Rattle.rule_tables.specs.Faults.{kind_fault, name_fault, size_fault}
use Rattle.rule_tables.proofs.UpToPart.{fault_step, outer_step}
use Rattle.rule_tables.proofs.faults.fault_of.Goals as goal

pub loop-index-preserved : goal.loop-index-preserved
loop-index-preserved g c =
    let v = g.N.Names.vocabulary c.args.names.now in
    let parts = c.args.definitions.now.parts.now in
    let i = c.loop-index.index in
    let lt = c.loop-index-test.true in
    let at = c.loop-index.invariant in
    record {
      outer = outer_step parts i _ c.loop-index.outer c.after-outer.result lt at.outer c.after-outer.ensures.is;
      name = fault_step (name_fault v parts) parts i _ c.loop-index.outer c.loop-index.name c.name_fault.result c.or-name.result lt at.outer at.name c.name_fault.ensures c.or-name.ensures;
      kind = fault_step (kind_fault v) parts i _ c.loop-index.outer c.loop-index.kind c.kind_fault.result c.or-kind.result lt at.outer at.kind c.kind_fault.ensures c.or-kind.ensures;
      size = fault_step (λ _. size_fault) parts i _ c.loop-index.outer c.loop-index.size c.size_fault.result c.or-size.result lt at.outer at.size c.size_fault.ensures c.or-size.ensures;
    }
