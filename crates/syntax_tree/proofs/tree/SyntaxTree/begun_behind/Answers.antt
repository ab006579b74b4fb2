use Rattle.std.proofs.Common.{◌∙◌, ◌/◌, length, get_or, arith, ap, subst}
use Rattle.std.proofs.lemmas.List.{get_or_default}
use Rattle.syntax_tree.specs.Offsets.{BeginBehind}
use Rattle.syntax_tree.proofs.BlockPlaces.{BeginBehind-block}
use Rattle.syntax_tree.proofs.tree.SyntaxTree.begun_behind.Goals as goal

pub returns-in-Some : goal.returns-in-Some
returns-in-Some c =
    let k = c.args.byte / 32 in
    let place = c.in-Some.place.now in
    let found = c.in-Some.ensures.lookup in
    subst (λ l. BeginBehind l c.args.byte place) c.self.view_is
    (BeginBehind-block _ _ c.self.invariant.places c.args.byte k place (omega (arith, found.3.0, ap length c.deref.ensures.value)) (omega arith)
    (found.1 ∙ (get_or_default c.deref.result.now k place 0 found.3.0 ∙ ap (λ l. get_or l k 0) c.deref.ensures.value)))
