use Rattle.std.proofs.Common.{◌≡◌, ◌++◌, ◌∷◌, [], length, rules, subst, sym}
use Rattle.std.specs.Prelude.{string_bytes}
use Rattle.std.proofs.lemmas.Str.{IsUtf8-string_bytes}
use Rattle.squawk_tree.specs.Drawing.{Drawing, StandsAfter}
use Rattle.squawk_tree.specs.declared.line.Shown.TheVariants.{Token}
use Rattle.squawk_tree.proofs.Standing.{IsSoundDrawing-token, StandsAfter-token}
use Rattle.squawk_tree.proofs.tree_text.TreeText.token.Goals as goal

module _ (c : goal.After-push_reserved) where
  abbrev drawing : Drawing
  drawing = record { lines = c.self.inside.lines.items; open_lines = c.self.inside.open_lines.items; texts = string_bytes c.self.inside.texts }

  grown : string_bytes c.push_str.new.self ≡ drawing.texts ++ c.args.text.now
  grown = search rules

  put : c.push_reserved.new.self.items ≡ drawing.lines
      ++ record { depth = length drawing.open_lines; shown = Token c.args.kind (length drawing.texts) (length (string_bytes c.push_str.new.self)) } ∷ []
  put = search rules

pub invariant_of-self-2 : goal.invariant_of-self-2
invariant_of-self-2 c =
    IsSoundDrawing-token (drawing c) c.self.invariant c.args.kind c.args.text.now (IsUtf8-string_bytes c.self.inside.texts) c.utf8.text _ _ (grown c) (put c)

pub returns-clause-ok : goal.returns-clause-ok
returns-clause-ok c = λ steps stands.
    StandsAfter-token (drawing c) c.self.invariant c.args.kind c.args.text.now (IsUtf8-string_bytes c.self.inside.texts) c.utf8.text _ _ (grown c) (put c) steps
    (subst (λ d. StandsAfter d steps) (sym c.self.view_is) stands)
