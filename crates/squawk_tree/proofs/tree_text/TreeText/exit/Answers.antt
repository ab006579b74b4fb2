use Rattle.std.proofs.Common.{◌≡◌, [], arith, rules, subst, sym}
use Rattle.squawk_tree.specs.Drawing.{StandsAfter}
use Rattle.squawk_tree.proofs.Closing.{IsSoundDrawing-closing, StandsAfter-closing, StandsAfter-no_node, index-below}
use Rattle.squawk_tree.proofs.tree_text.TreeText.exit.Goals as goal

pub index_mut-requires : goal.index_mut-requires
index_mut-requires c =
    let below = index-below _ c.self.invariant c.pop.new.self.items c.in-Some.line c.in-Some.ensures.items in
    omega (arith, below, c.self.inside.lines.ok)

pub invariant_of-self : goal.invariant_of-self
invariant_of-self c =
    IsSoundDrawing-closing _ c.self.invariant c.pop.new.self.items c.in-Some.line c.in-Some.ensures.items c.index_mut.result.now c.close.new.self
    c.index_mut.ensures.value (search rules)

pub returns-in-Some : goal.returns-in-Some
returns-in-Some c = λ steps stands.
    StandsAfter-closing _ c.self.invariant c.pop.new.self.items c.in-Some.line c.in-Some.ensures.items c.index_mut.result.now c.close.new.self
    c.index_mut.ensures.value (search rules) steps (subst (λ d. StandsAfter d steps) (sym c.self.view_is) stands)

module _ (c : goal.In_default) where
  nothing : c.self.inside.open_lines.items ≡ []
  nothing = search rules

  nothing_left : c.pop.new.self.items ≡ []
  nothing_left = search rules

pub returns-in_default : goal.returns-in_default
returns-in_default c = λ steps stands.
    StandsAfter-no_node _ c.self.invariant c.pop.new.self.items (nothing c) (nothing_left c) steps
    (subst (λ d. StandsAfter d steps) (sym c.self.view_is) stands)
