use Rattle.std.proofs.Common.{◌≡◌, ◌++◌, [], drop, string_bytes}
use Rattle.squawk_tree.specs.Drawing.{lines_text}
use Rattle.squawk_tree.proofs.tree_text.TreeText.finish.Given as goal

-- what is written, and the lines that are left
abbrev pub invariant-loop-line : goal.invariant-loop-line
invariant-loop-line l = record {
  written : string_bytes l.text ++ lines_text l.names l.self.texts [] (drop l.line-index l.self.lines) ≡ lines_text l.names l.self.texts [] l.self.lines;
  same : l.names ≡ l.initial.names;
}
