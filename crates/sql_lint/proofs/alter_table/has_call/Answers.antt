use Rattle.std.proofs.Common.{◌∙◌, ◌||◌, ap, refl, subst, sym}
use Rattle.std.specs.List.{list_any}
use Rattle.std.proofs.lemmas.Bool.{or_left}
use Rattle.syntax_tree.specs.Layout.{IsTree}
use Rattle.syntax_tree.specs.Trees.{descendants_of, nodes_among, of_kind}
use Rattle.syntax_tree.specs.Views.{at_of}
use Rattle.syntax_tree.proofs.ByKind.{all_passed, its_tree, passed, told_here}
use Rattle.sql_lint.specs.AlterTable.{calls_anew}
use Rattle.sql_lint.specs.Kinds.{CALL_EXPR}
use Rattle.sql_lint.proofs.alter_table.has_call.Goals as goal

pub loop-call-init : goal.loop-call-init
loop-call-init c = λ tree is.
    let items = c.descendants_by_kind-call-items.ensures tree is in
    record {
      places = of_kind tree CALL_EXPR (nodes_among tree (descendants_of tree c.args.node.at));
      left = cc;
      same = refl;
    }

pub returns-then-calls_anew : goal.returns-then-calls_anew
returns-then-calls_anew c = λ tree is.
    let left = c.loop-call.invariant tree is in
    let here = told_here left (at_of c.in-Some.call) c.next.new.self c.in-Some.ensures.steps in
    let own = subst (λ l. IsTree l tree) (sym (its_tree left (at_of c.in-Some.call) c.next.new.self c.in-Some.ensures.steps)) is in
    sym (here.is
    ∙ or_left (calls_anew tree c.in-Some.call.at) (list_any (calls_anew tree) here.behind)
    (sym (c.calls_anew.ensures tree own) ∙ c.if-calls_anew.true))

pub loop-call-preserved : goal.loop-call-preserved
loop-call-preserved c = λ tree is.
    let left = c.loop-call.invariant tree is in
    let own = subst (λ l. IsTree l tree) (sym (its_tree left (at_of c.in-Some.call) c.next.new.self c.in-Some.ensures.steps)) is in
    passed left (at_of c.in-Some.call) c.next.new.self c.in-Some.ensures.steps
    (λ list. ap (λ b. b || list_any (calls_anew tree) list) (sym (c.calls_anew.ensures tree own) ∙ c.if-calls_anew.false))

pub returns : goal.returns
returns c = λ tree is. sym (all_passed (c.loop-call.invariant tree is) c.in-None.ensures.steps.0)
