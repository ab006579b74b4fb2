-- Which rows are settled: where tokens don't decide there, the first way is gone.
use Rattle.std.specs.Prelude.{ℕ, ◌+◌, ◌||◌, Bool, true, false, Option, Some, None, List, slice_get}
use Rattle.rule_parts.specs.declared.Part.{Part}
use Rattle.rule_parts.specs.declared.Part.TheVariants.{Guarded, Look, Choice, Arm, Optional, Repeat, Some as Once}
use Rattle.rule_grammar.specs.declared.part.Part as row
use Rattle.rule_tables.specs.Places.{outer_of}

abbrev pub is_greedy : Part → Bool
is_greedy (Optional size greedy) = greedy
is_greedy (Repeat size greedy) = greedy
is_greedy (Once size greedy) = greedy
is_greedy part = false

abbrev pub is_guarded : Option Part → Bool
is_guarded (Some (Guarded name)) = true
is_guarded (Some (Look size)) = true
is_guarded part = false

abbrev pub is_ordered : Option Part → Bool
is_ordered (Some (Choice size ordered)) = ordered
is_ordered part = false

-- whether the part of a number, if there is one, is an ordered choice
abbrev pub is_ordered_in : List Part → Option ℕ → Bool
is_ordered_in parts None = false
is_ordered_in parts (Some o) = is_ordered (slice_get parts o)

-- Row i is settled: an arm with a guard or a look, or of an ordered choice, or what is greedy.
abbrev pub settles_part : List Part → List row.Part → ℕ → Option Part → Bool
settles_part parts rows i (Some (Arm size)) = is_guarded (slice_get parts (i + 1)) || is_ordered_in parts (outer_of rows i)
settles_part parts rows i (Some part) = is_greedy part
settles_part parts rows i None = false

abbrev pub settles : List Part → List row.Part → ℕ → Bool
settles parts rows i = settles_part parts rows i (slice_get parts i)
