use Rattle.std.proofs.Common.{rules, ◌≡◌, ◌∙◌, ◌++◌, [], arith, ap, drop, length, map, string_bytes, sym, refl}
use Rattle.std.proofs.lemmas.List.{append-nil, drop_all}
use Rattle.squawk_kinds.specs.KindNames.{Names}
use Rattle.squawk_tree.specs.Drawing.{lines_text}
use Rattle.squawk_tree.specs.Forest.{forest_steps}
use Rattle.squawk_tree.proofs.Forests.{tree_text-forest}
use Rattle.squawk_tree.proofs.Written.{lines_text-stands}
use Rattle.squawk_tree.proofs.tree_text.TreeText.finish.Goals as goal

pub loop-line-init : goal.loop-line-init
loop-line-init c = record { written = search rules; same = refl }

pub returns-clause-forest : goal.returns-clause-forest
returns-clause-forest c = λ forest stands.
    let tree = c.args.self.now in
    let names : Names = map (λ pair. (pair.0, pair.1.now)) c.args.names.now in
    let same = ap (λ drawing. length drawing.lines) c.self.view_is in
    let end : drop c.loop-line.line-index tree.lines ≡ [] = drop_all c.loop-line.line-index tree.lines (omega (arith, same, ap length c.deref-line-items.ensures.value)) in
    let written = sym (append-nil (string_bytes c.loop-line.text))
    ∙ (ap (λ rest. string_bytes c.loop-line.text ++ lines_text c.loop-line.names tree.texts [] rest) (sym end) ∙ c.loop-line.invariant.written) in
    written ∙ (ap (λ names. lines_text names tree.texts [] tree.lines) (c.loop-line.invariant.same ∙ c.new-names.ensures)
    ∙ (lines_text-stands tree names (forest_steps forest) stands ∙ tree_text-forest names forest))
