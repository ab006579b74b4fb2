use Rattle.std.proofs.Common.{◌≡◌}
use Rattle.rule_grammar.specs.Derivations.{AreInside}
use Rattle.rule_grammar.proofs.table.Table.innermost.Given as goal

abbrev pub invariant-loop : goal.invariant-loop
invariant-loop l = AreInside l.self.rows.now l.at.start l.at.end l.fn.rows.start l.fn.rows.end × (l.told.place ≡ l.fn.told.place)
