use Rattle.std.proofs.Common.{[], ◌∷◌, ap, subst}
use Rattle.squawk_parser.specs.Recorded.{Puts}
use Rattle.squawk_parser.specs.State.{ahead}
use Rattle.squawk_parser.proofs.AddedSteps.{Adds-puts, node_around}
use Rattle.squawk_parser.proofs.SeenSteps.{ahead-still}
use Rattle.squawk_parser.proofs.StepsInOrder.{RecordsSteps-node, RecordsSteps-puts}
use Rattle.tiny_grammar.specs.Expressions.{operand, operand_step}
use Rattle.tiny_grammar.proofs.tiny.operand.Goals as goal

-- the token or the error, behind the marker
inside : (c : goal.After-complete) → Puts (operand_step (ahead c.args.p.now 0) ∷ []) c.start-node.new.self c.operand_token.new.p
inside c =
    subst (λ step. Puts (step ∷ []) c.start-node.new.self c.operand_token.new.p) (ap operand_step (ahead-still c.start-node.ensures.begins.keeps c.start-node.ensures.begins.position))
    c.operand_token.ensures

pub returns-clause-adds : goal.returns-clause-adds
returns-clause-adds c =
    let done = c.complete.ensures in
    node_around c.start-node.ensures.begins (Adds-puts (inside c)) done.completes done.node

pub returns-clause-records : goal.returns-clause-records
returns-clause-records c = RecordsSteps-node operand c.start-node.ensures.begins (RecordsSteps-puts (inside c)) c.complete.ensures.completes
