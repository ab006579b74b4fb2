use Rattle.std.proofs.Common.{◌≡◌, ◌++◌, ◌∷◌, [], length, rules, subst, sym}
use Rattle.std.specs.Prelude.{string_bytes}
use Rattle.std.specs.Str.{chars}
use Rattle.squawk_tree.specs.Drawing.{Drawing, StandsAfter}
use Rattle.squawk_tree.specs.declared.line.Shown.TheVariants.{Error}
use Rattle.squawk_tree.proofs.Standing.{IsSoundDrawing-error, StandsAfter-error}
use Rattle.squawk_tree.proofs.tree_text.TreeText.error.Goals as goal

module _ (c : goal.After-push_reserved) where
  abbrev drawing : Drawing
  drawing = record { lines = c.self.inside.lines.items; open_lines = c.self.inside.open_lines.items; texts = string_bytes c.self.inside.texts }

  put : c.push_reserved.new.self.items ≡ drawing.lines ++ record { depth = length drawing.open_lines; shown = Error (chars c.args.msg.now) c.args.pos } ∷ []
  put = search rules

pub invariant_of-self-2 : goal.invariant_of-self-2
invariant_of-self-2 c = IsSoundDrawing-error (drawing c) c.self.invariant (chars c.args.msg.now) c.args.pos _ (put c)

pub returns-clause-ok : goal.returns-clause-ok
returns-clause-ok c = λ steps stands.
    StandsAfter-error (drawing c) c.self.invariant (chars c.args.msg.now) c.args.pos _ (put c) steps
    (subst (λ d. StandsAfter d steps) (sym c.self.view_is) stands)
