use Rattle.std.proofs.Common.{rules, ◌∙◌, ◌++◌, ap, true}
use Rattle.syntax_tree.specs.Views.{at_of}
use Rattle.sql_trim.specs.Trimmed.{trimmed}
use Rattle.sql_trim.proofs.Pieces.{own_tree, passes_node, puts_all, puts_none, puts_token}
use Rattle.sql_trim.proofs.format.formatted.Goals as goal

pub loop-element-init : goal.loop-element-init
loop-element-init c = λ forest is.
    puts_none c.args.tree.now forest c.new-out.result.items c.new-white_space.result.items c.into_iter-element-iterator.result (search rules) (search rules) (search rules)

pub loop-element-preserved-in-Continue-1 : goal.loop-element-preserved-in-Continue-1
loop-element-preserved-in-Continue-1 c = λ forest is.
    let put = c.loop-element.invariant forest is in
    let place = at_of c.in-Some.element in
    let read = c.is_token.ensures forest in
    let own = own_tree put place c.next.new.self c.in-Some.ensures.steps is c.is_token.result read in
    puts_token put place c.next.new.self c.in-Some.ensures.steps is c.is_token.result read (search rules) c.push_token.new.out.items c.push_token.new.white_space.items
    (c.in_ok-push_token.ensures forest own)

pub loop-element-preserved : goal.loop-element-preserved
loop-element-preserved c = λ forest is.
    passes_node (c.loop-element.invariant forest is) (at_of c.in-Some.element) c.next.new.self c.in-Some.ensures.steps is
    c.is_token.result (c.is_token.ensures forest) (search rules)

pub returns : goal.returns
returns c = λ forest is.
    c.in_ok-push_trimmed.ensures
    ∙ (ap (λ l. c.loop-element.out.items ++ trimmed true l) c.deref.ensures.value ∙ puts_all (c.loop-element.invariant forest is) c.in-None.ensures.steps.0)
