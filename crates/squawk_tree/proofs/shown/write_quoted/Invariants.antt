use Rattle.std.proofs.Common.{◌≡◌, ◌++◌, string_bytes}
use Rattle.std.specs.Prelude.{IsUtf8}
use Rattle.std.specs.List.{flat_map}
use Rattle.std.specs.Str.{chars}
use Rattle.squawk_tree.specs.TreeText.{escaped}
use Rattle.squawk_tree.proofs.shown.write_quoted.Given as goal

-- what is written, and the characters that are left
abbrev pub invariant-loop-c : goal.invariant-loop-c
invariant-loop-c l = record {
  utf8 : IsUtf8 l.c-iterator.rest.now;
  written : string_bytes l.out ++ flat_map escaped (chars l.c-iterator.rest.now) ≡ string_bytes l.initial.out ++ flat_map escaped (chars l.text);
}
