use Rattle.std.proofs.Common.{ap, arith, subst}
use Rattle.rule_grammar.specs.Derivations.{Derives, text_of, weight}
use Rattle.rule_grammar.specs.Derivations.Span.{block}
use Rattle.rule_grammar.specs.declared.table.Table.{Table}
use Rattle.rule_grammar.proofs.Counted.{counts_then, untold}
use Rattle.rule_grammar.proofs.Derived.{still}
use Rattle.rule_grammar.proofs.rules.RuleGrammar.content.Goals as goal

pub returns-clause-derives : goal.returns-clause-derives
returns-clause-derives c = λ goes same.
    let ran = c.root.ensures in
    let rest = c.left_over.ensures in
    let begun = ap weight c.new-told.ensures in
    let counted = (counts_then ran.counts rest.counts).errors goes in
    let clean = untold c.left_over.new.told.place (omega (arith, begun, counted, same)) in
    subst (λ (x : Table). Derives (text_of x c.args.p.now) (block c.args.self.now.start c.args.self.now.end) c.args.p.now.position c.left_over.new.p.position)
    c.file.ensures ((still ran.derives rest.told).derives clean)
