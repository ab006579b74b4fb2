use Rattle.std.proofs.Common.{◌≡◌, ◌++◌, string_bytes}
use Rattle.squawk_tree.specs.TreeText.{indentation}
use Rattle.squawk_tree.proofs.shown.write_indentation.Given as goal

abbrev pub invariant-loop : goal.invariant-loop
invariant-loop l = string_bytes l.out ≡ string_bytes l.initial.out ++ indentation l.counter
