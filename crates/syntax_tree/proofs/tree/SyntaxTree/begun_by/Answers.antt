use Rattle.std.proofs.Common.{◌∙◌, ◌<◌, ◌/◌, ◌-◌, length, arith, ap, subst}
use Rattle.std.proofs.lemmas.List.{get_or_default}
use Rattle.syntax_tree.specs.Offsets.{BeginBy}
use Rattle.syntax_tree.proofs.BlockPlaces.{BeginBy-block}
use Rattle.syntax_tree.proofs.tree.SyntaxTree.begun_by.Goals as goal

pub returns : goal.returns
returns c =
    let k = c.args.byte / 32 - 1 in
    let low : k < length c.self.inside.blocks.items = omega (arith, c.if-block-eq0.false, c.self.invariant.places.all, ap (λ l. length l.text) c.self.view_is) in
    subst (λ l. BeginBy l c.args.byte c.index.result.now) c.self.view_is
    (BeginBy-block _ _ c.self.invariant.places c.args.byte k c.index.result.now low (omega (arith, c.if-block-eq0.false))
    (c.index.ensures ∙ get_or_default c.self.inside.blocks.items k c.index.result.now 0 low))
