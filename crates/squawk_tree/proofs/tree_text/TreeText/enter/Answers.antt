use Rattle.std.proofs.Common.{◌≡◌, ◌++◌, ◌∷◌, [], length, rules, subst, sym}
use Rattle.std.specs.Prelude.{None, string_bytes}
use Rattle.squawk_tree.specs.Drawing.{Drawing, StandsAfter}
use Rattle.squawk_tree.specs.declared.line.Shown.TheVariants.{Node}
use Rattle.squawk_tree.proofs.Standing.{IsSoundDrawing-node, StandsAfter-node}
use Rattle.squawk_tree.proofs.tree_text.TreeText.enter.Goals as goal

module _ (c : goal.After-push_reserved-2) where
  abbrev drawing : Drawing
  drawing = record { lines = c.self.inside.lines.items; open_lines = c.self.inside.open_lines.items; texts = string_bytes c.self.inside.texts }

  put : c.push_reserved-2.new.self.items ≡ drawing.lines ++ record { depth = length drawing.open_lines; shown = Node c.args.kind (length drawing.texts) None } ∷ []
  put = search rules

  opened : c.push_reserved.new.self.items ≡ drawing.open_lines ++ length drawing.lines ∷ []
  opened = search rules

pub invariant_of-self-2 : goal.invariant_of-self-2
invariant_of-self-2 c = IsSoundDrawing-node (drawing c) c.self.invariant c.args.kind _ _ (put c) (opened c)

pub returns-clause-ok : goal.returns-clause-ok
returns-clause-ok c = λ steps stands.
    StandsAfter-node (drawing c) c.self.invariant c.args.kind _ _ (put c) (opened c) steps
    (subst (λ d. StandsAfter d steps) (sym c.self.view_is) stands)
